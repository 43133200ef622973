use mathlib.Core.Path.{◌≡◌}
use Rattle.bits.specs.Places.{word_of}
use Rattle.bits.proofs.word.Given as goal

abbrev pub invariant-loop-b : goal.invariant-loop-b
invariant-loop-b l = l.v ≡ word_of l.s l.at.byte l.b-index
