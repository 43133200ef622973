-- What tuples that come at once leave: the same as if they had come field by field.
-- Assumes nothing.
use Rattle.std.specs.Prelude.{ℕ, ◌*◌, ◌<◌, ◌≤◌, List, ◌≡◌, length, drop, set}
use Rattle.laws.specs.Bits.{bits}
use Rattle.rules.specs.Recordings.{bit_at}
use Rattle.rules.specs.declared.Stage.{Stage}
use Rattle.rules.specs.declared.Set.{Set}
use Rattle.sheet_carried.specs.declared.Carried.{Carried}
use Rattle.sheet_carried.specs.Table.{at_cycle, at_offset}
use Rattle.sheet_carried.specs.Reader.{begun, no_tuples, run}
use Rattle.sheet_carried.specs.Kept.{Kept}
use Rattle.sheet_read.specs.declared.Came.{Came}

-- the place behind them, in bits
abbrev pub end_of : Came → ℕ
end_of r = bit_at r.at

-- before the first cycle of a stream, and before the one behind them
abbrev pub untupled : List ℕ → List Stage → Set → Carried
untupled vs gs x = begun at_cycle 0 vs gs no_tuples x

abbrev pub tupled_by : Came → List ℕ → List Stage → Set → Carried
tupled_by r vs gs x = begun at_cycle r.whole (set (set vs at_cycle r.cycle) at_offset r.low) gs r.places x

-- from the place p of the bytes s on
pub record AtOnce (vs s : List ℕ) (p : ℕ) (r : Came) : Type 0 where
  pub bit : r.at.bit < 8
  pub later : p ≤ end_of r
  pub ends : end_of r ≤ 8 * length s
  pub kept : (gs : List Stage) (x : Set) → Kept (untupled vs gs x) → Kept (tupled_by r vs gs x)
  pub same : (gs : List Stage) (x : Set) → Kept (untupled vs gs x) → run (tupled_by r vs gs x) (drop (end_of r) (bits s)) ≡ run (untupled vs gs x) (drop p (bits s))
