use Rattle.replay_lines.proofs.Begins.{begun}
use Rattle.replay_lines.proofs.begin_replay.Goals as goal

pub returns : goal.returns
returns c =
    begun _ _ c.begin_trace-first.ensures
