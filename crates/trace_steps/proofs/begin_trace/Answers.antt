use Rattle.trace_steps.proofs.Begun.{begun}
use Rattle.trace_steps.proofs.begin_trace.Goals as goal

pub returns : goal.returns
returns c =
    begun _ _ _ _ _ c.sheet_verdict.ensures c.verdict_line-line.ensures c.is_ok.ensures.value c.tracing_from-tracing.ensures
