use native.Mathlib.Omega.{arith}
use Rattle.laws.proofs.Sums.{top_take}
use Rattle.rules.specs.Streams.{no_stage}
use Rattle.rules.specs.Load.{less_one}
use Rattle.load_cycles.proofs.Bounds.{ord_max_nat}
use Rattle.load_check.proofs.blocked.blocks_for.Goals as goal

pub loop-g-preserved : goal.loop-g-preserved
loop-g-preserved c = omega (arith, ord_max_nat, c.less_one.ensures, c.max-most.ensures, top_take (less_one c.args.t) c.stages_of-g-items.result.now c.loop-g.g-index no_stage (omega arith))
