use Rattle.cable_frames.proofs.Taking.{take_turn, take_end}
use native.Mathlib.Omega.{arith}
use Rattle.cable_frames.proofs.take.Goals as goal

pub loop-b-preserved : goal.loop-b-preserved
loop-b-preserved c =
    take_turn _ _ _ c.loop-b.b-index c.loop-b.invariant _ (omega arith) c.step-next.ensures

pub returns : goal.returns
returns c =
    take_end _ _ _ c.loop-b.b-index c.loop-b.invariant (omega arith)
