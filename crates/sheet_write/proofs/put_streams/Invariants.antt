use Prim.Native.Nat.{◌+◌}
use mathlib.Core.Path.{◌≡◌}
use lib.ListN.{length}
use lib.Seq.{paste}
use Rattle.laws.specs.Bits.{bits}
use Rattle.sheet_write.proofs.Writing.{up_to}
use Rattle.sheet_write.proofs.put_streams.Given as goal

abbrev pub invariant-loop-s : goal.invariant-loop-s
invariant-loop-s l = (l.at ≡ 9 + length (up_to l.fn.x l.s-index)) × (length l.buf ≡ length l.initial.buf) × (bits l.buf ≡ paste (bits l.initial.buf) 9 (up_to l.fn.x l.s-index) (length (up_to l.fn.x l.s-index)))
