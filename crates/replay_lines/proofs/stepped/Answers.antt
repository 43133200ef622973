use Rattle.replay_lines.proofs.Steps.{step_turn}
use Rattle.replay_lines.proofs.stepped.Goals as goal

pub returns : goal.returns
returns c =
    step_turn _ c.args.r _ _ _ c.step-q.ensures c.replay_line-line.ensures c.goes_on.ensures
