use Rattle.trace_steps.proofs.Bytes.{Going}
use Rattle.trace_steps.proofs.feed.Given as goal

abbrev pub invariant-loop-b : goal.invariant-loop-b
invariant-loop-b l = Going l.initial.r l.r l.piece l.initial.out l.out l.b-index l.at
