use native.Mathlib.Omega.{arith}
use Rattle.laws.proofs.Sums.{top_take}
use Rattle.rules.specs.Streams.{offset_at}
use Rattle.rules.specs.Streams.{no_tuple}
use Rattle.load_cycles.proofs.Bounds.{ord_max_nat}
use Rattle.load_cycles.proofs.ends.stream_offset.Goals as goal

pub loop-p-preserved : goal.loop-p-preserved
loop-p-preserved c =
    omega (arith, ord_max_nat, c.offset_of.ensures, c.max-most.ensures, top_take offset_at c.tuples_of-p-items.result.now c.loop-p.p-index no_tuple (omega arith))
