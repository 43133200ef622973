use native.Mathlib.Omega.{arith}
use Rattle.laws.proofs.Sums.{top_take}
use Rattle.rules.specs.Load.{deadline_of}
use Rattle.load_cycles.proofs.Bounds.{blank, ord_max_nat}
use Rattle.load_cycles.proofs.ends.greatest_deadline.Goals as goal

pub loop-s-preserved : goal.loop-s-preserved
loop-s-preserved c =
    omega (arith, ord_max_nat, c.max-most.ensures, top_take deadline_of c.streams_of-s-items.result.now c.loop-s.s-index blank (omega arith))
