use Rattle.trace_steps.proofs.tracing_from.Goals as goal

pub returns : goal.returns
returns c =
    rw c.start.ensures
