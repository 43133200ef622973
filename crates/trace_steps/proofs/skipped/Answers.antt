use Rattle.trace_steps.proofs.skipped.Goals as goal

pub returns : goal.returns
returns c =
    rw c.blank-line.ensures
