use Rattle.trace_steps.proofs.Bytes.{end_alive, end_stopped}
use Rattle.trace_steps.proofs.end_line.Goals as goal

pub returns-then-live : goal.returns-then-live
returns-then-live c =
    end_alive _ _ _ c.if-live.true c.at_end.ensures c.heard-last.ensures

pub returns-else-live : goal.returns-else-live
returns-else-live c =
    end_stopped _ _ c.if-live.false c.blank.ensures
