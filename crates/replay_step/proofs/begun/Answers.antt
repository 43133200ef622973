use Rattle.replay_step.proofs.Marks.{as_begun, empty_start}
use Rattle.replay_step.proofs.begun.Goals as goal

pub returns-in-Ok : goal.returns-in-Ok
returns-in-Ok c =
    rw (c.in-Ok.is, ← as_begun c.args.r.answer)

pub returns-in-Err : goal.returns-in-Err
returns-in-Err c =
    rw (c.in-Err.is, empty_start c.start.result _ c.empty_set.ensures c.start.ensures)
