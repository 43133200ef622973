use Rattle.trace_steps.proofs.Bytes.{step_turn}
use Rattle.trace_steps.proofs.stepped.Goals as goal

pub returns : goal.returns
returns c =
    step_turn _ _ _ _ _ c.call-r.ensures c.call_line.ensures c.turn_at.ensures
