use Rattle.state_formed.proofs.Waiting.{Waiting}
use Rattle.state_formed.proofs.waits_left.Given as goal

abbrev pub invariant-loop-k : goal.invariant-loop-k
invariant-loop-k l = Waiting l.streams l.waits l.k l.later
