use Rattle.trace_steps.proofs.refused.Goals as goal

pub returns : goal.returns
returns c =
    rw c.verdict_line-line.ensures
