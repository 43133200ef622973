use Prim.Native.Nat.{◌+◌}
use mathlib.Core.Path.{◌≡◌}
use lib.ListN.{length}
use Rattle.sheet_write.proofs.Writing.{up_to}
use Rattle.sheet_write.proofs.fields_end.Given as goal

abbrev pub invariant-loop-s : goal.invariant-loop-s
invariant-loop-s l = l.end ≡ 9 + length (up_to l.fn.x l.s-index)
