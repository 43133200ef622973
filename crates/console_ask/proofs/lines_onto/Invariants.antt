use Rattle.console_ask.proofs.Told.{Keeps}
use Rattle.console_ask.proofs.lines_onto.Given as goal

abbrev pub invariant-loop-i : goal.invariant-loop-i
invariant-loop-i g l = Keeps (λ k x r. goal.F-post g l.tells k x r) l.places l.initial.out l.at l.out l.end l.i
