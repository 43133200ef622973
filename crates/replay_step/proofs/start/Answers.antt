use Rattle.replay_step.proofs.Marks.{begins}
use Rattle.replay_step.proofs.start.Goals as goal

pub returns : goal.returns
returns c =
    begins _ _ _ _ _ _ c.read-r.ensures c.start_for-started.ensures c.begun.ensures
