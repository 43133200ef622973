use Rattle.record_trace.proofs.Takings.{PuttingCalls}
use Rattle.record_trace.proofs.put_calls.Given as goal

abbrev pub invariant-loop-b : goal.invariant-loop-b
invariant-loop-b l = PuttingCalls l.trace l.initial.buf l.buf l.t l.b-index
