use Rattle.replay_lines.proofs.Steps.{alive, stopped}
use Rattle.replay_lines.proofs.take_step.Goals as goal

pub returns-then-r : goal.returns-then-r
returns-then-r c =
    alive _ _ _ c.if-r.true c.stepped.ensures

pub returns-else-r : goal.returns-else-r
returns-else-r c =
    stopped _ _ _ c.if-r.false c.blank.ensures
