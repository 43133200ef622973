use mathlib.Core.Path.{◌≡◌}
use Prim.Native.Nat.{ℕ, ◌+◌, ◌*◌, ◌≤◌, ◌<◌}
use mathlib.Core.List.{List}
use lib.ListN.{length}
use Rattle.rules.specs.declared.Set.{Set}
use Rattle.rules.specs.declared.Stage.{Stage}
use Rattle.sheet_carried.specs.Reader.{begun, value_at}
use Rattle.sheet_carried.specs.Kept.{Kept}
use Rattle.sheet_read.specs.AtOnce.{untupled}
use Rattle.sheet_read.proofs.AtOnce.{Comes, From, kept_by}
use Rattle.sheet_read.proofs.tuples.before_last.Given as goal

abbrev pub invariant-loop-k : goal.invariant-loop-k
invariant-loop-k l = (l.came.at.bit < 8) × (8 * l.fn.from.byte + l.fn.from.bit ≤ 8 * l.came.at.byte + l.came.at.bit) × (8 * l.came.at.byte + l.came.at.bit ≤ 8 * length l.piece) × (l.came.whole ≡ l.k)
    × ((vs : List ℕ) (gs : List Stage) (x : Set) → From vs (value_at l.fn.values 6) (value_at l.fn.values 7) (value_at l.fn.values 8) → Kept (untupled vs gs x)
    → Comes l.piece (8 * l.fn.from.byte + l.fn.from.bit) (untupled vs gs x) (8 * l.came.at.byte + l.came.at.bit) (begun 7 l.came.whole (kept_by vs l.came.cycle l.came.low) gs l.came.places x))
