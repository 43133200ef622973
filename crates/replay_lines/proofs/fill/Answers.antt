use Rattle.replay_lines.proofs.Steps.{fill_begins, fill_turn, fill_end}
use native.Mathlib.Omega.{arith}
use Rattle.replay_lines.proofs.fill.Goals as goal

pub loop-init : goal.loop-init
loop-init c =
    fill_begins _ _ _ _

pub loop-preserved : goal.loop-preserved
loop-preserved c =
    fill_turn _ c.args.recording.now c.args.replaying c.loop.r c.args.out.now c.loop.out _ c.loop.counter c.loop.at _ _ (omega arith) c.take_step-t.ensures (omega arith) c.loop.invariant c.append-at.ensures.0 c.append-at.ensures.1

pub shape_of-out : goal.shape_of-out
shape_of-out c =
    c.loop.invariant.size

pub returns : goal.returns
returns c =
    fill_end c.args.recording.now c.args.replaying c.loop.r c.args.out.now c.loop.out c.loop.counter c.loop.at (omega arith) c.loop.invariant
