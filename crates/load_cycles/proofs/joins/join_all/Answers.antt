use native.Mathlib.Omega.{arith}
use Rattle.rules.specs.Load.{CyclesIn}
use Rattle.rules.proofs.Cycles.{cycles_up}
use Rattle.load_cycles.proofs.Bounds.{blank}
use Rattle.load_cycles.proofs.Cycling.{so_far_more}
use Rattle.load_cycles.proofs.joins.join_all.Goals as goal

pub loop-s-preserved : goal.loop-s-preserved
loop-s-preserved c =
    so_far_more CyclesIn cycles_up 1 c.streams_of-s-items.result.now c.loop-s.s-index c.loop-s.acc c.in_ok-acc.acc blank (omega arith) c.loop-s.invariant c.in_ok-acc.ensures
