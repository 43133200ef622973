use Rattle.state_choosing.proofs.Passing.{First, Second}
use Rattle.state_choosing.proofs.found.Given as goal

abbrev pub invariant-loop-k : goal.invariant-loop-k
invariant-loop-k l = First l.s.set l.pending l.k l.best l.deadline

abbrev pub invariant-loop-k-2 : goal.invariant-loop-k-2
invariant-loop-k-2 l = Second l.s.set l.pending l.k l.best
