use Rattle.replay_step.proofs.Marks.{end_yes, end_no}
use Rattle.replay_step.proofs.end_at.Goals as goal

pub returns-then-rest : goal.returns-then-rest
returns-then-rest c =
    end_yes _ _ _ c.gather-rest.ensures c.if-rest.true

pub returns-else-rest : goal.returns-else-rest
returns-else-rest c =
    end_no _ _ _ c.gather-rest.ensures c.if-rest.false
