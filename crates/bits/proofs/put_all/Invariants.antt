use Prim.Native.Nat.{◌+◌, ◌*◌}
use mathlib.Core.Path.{◌≡◌}
use lib.ListN.{length}
use lib.Seq.{paste}
use Rattle.laws.specs.Bits.{bits, to_bits}
use Rattle.bits.proofs.put_all.Given as goal

abbrev pub invariant-loop-i : goal.invariant-loop-i
invariant-loop-i l = (length l.buf ≡ length l.initial.buf) × (bits l.buf ≡ paste (bits l.initial.buf) (8 * l.at.byte + l.at.bit) (to_bits l.width l.v) l.i)
