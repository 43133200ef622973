use Rattle.scheduler.proofs.Serving.{Moving}
use Rattle.scheduler.proofs.run.Given as goal

abbrev pub invariant-loop-k : goal.invariant-loop-k
invariant-loop-k l = Moving l.initial.s l.initial.k l.s l.k
