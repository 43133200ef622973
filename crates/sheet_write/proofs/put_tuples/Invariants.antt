use Prim.Native.Nat.{◌+◌, ◌*◌}
use mathlib.Core.Path.{◌≡◌}
use lib.ListN.{length, take}
use lib.Seq.{paste}
use Rattle.laws.specs.Lists.{flat}
use Rattle.laws.specs.Bits.{bits}
use Rattle.rules.specs.Streams.{tuples_of}
use Rattle.rules.specs.Sheet.{place_bits}
use Rattle.sheet_write.proofs.put_tuples.Given as goal

abbrev pub invariant-loop-p : goal.invariant-loop-p
invariant-loop-p l = (l.here ≡ l.at + 37 * l.p-index) × (length l.buf ≡ length l.initial.buf)
    × (bits l.buf ≡ paste (bits l.initial.buf) l.at (flat place_bits (take l.p-index (tuples_of l.fn.s))) (37 * l.p-index))
