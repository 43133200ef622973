use Rattle.record_trace.proofs.Takings.{Measuring}
use Rattle.record_trace.proofs.measure.Given as goal

abbrev pub invariant-loop-b : goal.invariant-loop-b
invariant-loop-b l = Measuring l.trace l.t l.b-index
