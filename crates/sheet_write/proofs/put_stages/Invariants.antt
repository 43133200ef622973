use Prim.Native.Nat.{◌+◌, ◌*◌}
use mathlib.Core.Path.{◌≡◌}
use lib.ListN.{length, take}
use lib.Seq.{paste}
use Rattle.laws.specs.Lists.{flat}
use Rattle.laws.specs.Bits.{bits}
use Rattle.rules.specs.Streams.{stages_of}
use Rattle.rules.specs.Sheet.{stage_bits}
use Rattle.sheet_write.proofs.put_stages.Given as goal

abbrev pub invariant-loop-g : goal.invariant-loop-g
invariant-loop-g l = (l.here ≡ l.at + 20 * l.g-index) × (length l.buf ≡ length l.initial.buf)
    × (bits l.buf ≡ paste (bits l.initial.buf) l.at (flat stage_bits (take l.g-index (stages_of l.fn.s))) (20 * l.g-index))
