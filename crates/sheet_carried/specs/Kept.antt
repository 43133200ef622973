-- What every state of the reader keeps that bits leave from the start.
-- Assumes nothing.
use Rattle.std.specs.Prelude.{ℕ, ◌+◌, ◌-◌, ◌^◌, ◌≤◌, ◌<◌, cond, List, [], ◌∷◌, ◌++◌, ◌≡◌, length, get_or, take, replicate, eqb}
use Rattle.rules.specs.declared.Stage.{Stage}
use Rattle.rules.specs.declared.TuplePlace.{TuplePlace}
use Rattle.rules.specs.declared.Set.{Set}
use Rattle.rules.specs.Streams.{no_stage, no_stream, no_tuple}
use Rattle.sheet_carried.specs.declared.Carried.{Carried}
use Rattle.sheet_carried.specs.Table.{at_count, at_deadline, at_offset, at_padding, at_stages, at_tuples, at_version, rows, width_of}
use Rattle.sheet_carried.specs.Reader.{value_at}

-- of N places the first n are in use, and the others unused
pub record Holds {A : Type 0} (N : ℕ) (none : A) (n : ℕ) (l : List A) : Type 0 where
  pub used : length (take n l) ≡ n
  pub unused : l ≡ take n l ++ replicate (N - n) none

-- how many stages and how many tuples of the stream that is being read are whole before each row, behind n; less are its stages less one.
-- In version 1 a deadline comes behind the stages, in version 2 before them
unfoldable pub stages_whole : ℕ → ℕ → ℕ → ℕ → ℕ
stages_whole version less f n =
    get_or (0 ∷ 0 ∷ cond (eqb version 1) (less + 1) 0 ∷ 0 ∷ n ∷ n ∷ (less + 1) ∷ (less + 1) ∷ (less + 1) ∷ []) f 0

unfoldable pub tuples_whole : ℕ → ℕ → ℕ
tuples_whole f n = get_or (0 ∷ 0 ∷ 0 ∷ 0 ∷ 0 ∷ 0 ∷ 0 ∷ n ∷ n ∷ []) f 0

-- before the last stage or tuple stand at most as many as there are less one; before any other row none are counted
unfoldable pub most_whole : ℕ → List ℕ → ℕ
most_whole f vs =
    get_or (0 ∷ 0 ∷ 0 ∷ 0 ∷ value_at vs at_stages ∷ value_at vs at_stages ∷ 0 ∷ value_at vs at_tuples ∷ value_at vs at_tuples ∷ []) f 0

-- before the field f, behind n stages or tuples and the streams of x
pub record KeptAt (f n : ℕ) (vs : List ℕ) (gs : List Stage) (ts : List TuplePlace) (x : Set) : Type 0 where
  pub row : f < rows
  pub nine : length vs ≡ 9
  pub streams : Holds 16 no_stream x.count x.streams
  pub stages : Holds 4 no_stage (stages_whole x.version (value_at vs at_stages) f n) gs
  pub tuples : Holds 4 no_tuple (tuples_whole f n) ts
  -- there are places for all streams, stages and tuples, and those that are whole are not all of them
  pub few : x.count ≤ 16
  pub sixteen : value_at vs at_count ≤ 16
  pub deep : value_at vs at_stages ≤ 3
  pub four : value_at vs at_tuples ≤ 3
  pub front : f < at_deadline → x.count ≡ 0
  pub room : at_deadline ≤ f → f < at_padding → x.count < value_at vs at_count
  pub most : n ≤ most_whole f vs
  -- a set is of version 1 until one is read; version 1 has no stages less one
  pub first : f ≡ at_version → x.version ≡ 1
  pub single : x.version ≡ 1 → value_at vs at_stages ≡ 0
  pub later : f ≡ at_stages → x.version ≡ 1 → ⊥
  -- the first offset is behind none
  pub low : tuples_whole f n ≡ 0 → value_at vs at_offset ≡ 0

pub record Kept (c : Carried) : Type 0 where
  pub at : KeptAt c.point.row c.point.whole c.values c.stages c.places c.set
  -- some bits of the field that comes are left, and the others are in acc
  pub some : 0 < width_of c.point.row → 0 < c.point.left
  pub left : c.point.left ≤ width_of c.point.row
  pub came : c.point.acc < 2 ^ (width_of c.point.row - c.point.left)
