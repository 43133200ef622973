use mathlib.Core.Path.{◌≡◌}
use lib.ListN.{drop}
use Rattle.line.specs.Line.{puts}
use Rattle.line.proofs.word.Given as goal

abbrev pub invariant-loop-b : goal.invariant-loop-b
invariant-loop-b l = puts l.next (drop l.b-index l.w) ≡ puts l.initial.next l.w
