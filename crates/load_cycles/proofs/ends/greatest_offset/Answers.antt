use native.Mathlib.Omega.{arith}
use Rattle.laws.proofs.Sums.{top_take}
use Rattle.rules.specs.Load.{stream_offset}
use Rattle.load_cycles.proofs.Bounds.{blank, ord_max_nat}
use Rattle.load_cycles.proofs.ends.greatest_offset.Goals as goal

pub loop-s-preserved : goal.loop-s-preserved
loop-s-preserved c =
    omega (arith, ord_max_nat, c.stream_offset.ensures, c.max-most.ensures, top_take stream_offset c.streams_of-s-items.result.now c.loop-s.s-index blank (omega arith))
