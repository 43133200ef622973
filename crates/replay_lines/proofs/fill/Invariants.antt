use Rattle.replay_lines.proofs.Steps.{Filling}
use Rattle.replay_lines.proofs.fill.Given as goal

abbrev pub invariant-loop : goal.invariant-loop
invariant-loop l = Filling l.steps l.recording l.initial.r l.r l.initial.out l.out l.counter l.at
