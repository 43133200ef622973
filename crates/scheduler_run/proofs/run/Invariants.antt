use Rattle.scheduler_run.proofs.Moments.{After}
use Rattle.scheduler_run.proofs.run.Given as goal

abbrev pub invariant-loop-b : goal.invariant-loop-b
invariant-loop-b l = After l.initial.s l.calls l.b-index l.s l.missed
