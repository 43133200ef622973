use Rattle.trace_steps.proofs.Bytes.{alive, stopped}
use Rattle.trace_steps.proofs.take_byte.Goals as goal

pub returns-then-live : goal.returns-then-live
returns-then-live c =
    alive _ _ _ _ c.if-live.true c.hear.ensures c.heard.ensures

pub returns-else-live : goal.returns-else-live
returns-else-live c =
    stopped _ _ _ c.if-live.false c.blank-line.ensures
