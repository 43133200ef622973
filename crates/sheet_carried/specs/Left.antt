-- Which carried states pieces can have left: a test, clause by clause (docs/STATE.md). That it is exact is proved in proofs/.
-- Assumes nothing.
use Rattle.std.specs.Prelude.{ℕ, ◌+◌, ◌-◌, ◌*◌, ◌%◌, ◌^◌, Bool, true, false, cond, ◌&&◌, ◌||◌, List, [], ◌∷◌, ◌≡◌, length, get_or, take, drop, eqb, leb, ltb, ◌↔◌}
use Rattle.std.specs.List.{list_all}
use Rattle.laws.specs.Lists.{All, every, sum, within}
use Rattle.laws.specs.Bits.{bits}
use Rattle.rules.specs.declared.TuplePlace.{TuplePlace}
use Rattle.rules.specs.declared.Stage.{Stage}
use Rattle.rules.specs.declared.Stream.{Stream}
use Rattle.rules.specs.declared.Set.{Set}
use Rattle.rules.specs.Streams.{Placed, no_tuple, offset_at, stage_ok, stage_unused, streams_of, tuple_unused, tuples_ok, valid}
use Rattle.rules.specs.Pieces.{Byte}
use Rattle.sheet_carried.specs.declared.Point.{Point}
use Rattle.sheet_carried.specs.declared.Carried.{Carried}
use Rattle.sheet_carried.specs.Table.{at_cost, at_count, at_cycle, at_deadline, at_offset, at_padding, at_refused, at_stages, at_task, at_tuples, at_version, rows, width_of}
use Rattle.sheet_carried.specs.Reader.{run, start_of, value_at}
use Rattle.sheet_carried.specs.Kept.{most_whole, stages_whole, tuples_whole}

-- What the types say of the arrays: every carried state that a program holds is so.
pub record Boxed (c : Carried) : Type 0 where
  pub nine : length c.values ≡ 9
  pub stages : length c.stages ≡ 4
  pub tuples : length c.places ≡ 4
  pub placed : Placed c.set

-- ---- the field that comes

-- some bits of it have not come, and the others make the number
abbrev pub point_tests : Point → List Bool
point_tests p =
    ltb p.row rows
    ∷ leb p.left (width_of p.row)
    ∷ (ltb 0 p.left || eqb (width_of p.row) 0)
    ∷ ltb p.acc (2 ^ (width_of p.row - p.left))
    ∷ []

unfoldable pub point_fits : Point → Bool
point_fits p = every (point_tests p)

-- ---- the streams that are whole

-- version 1 before a version has been read and behind a refusal; version 1 has no stages less one
unfoldable pub version_fits : ℕ → ℕ → Bool
version_fits version f = cond (eqb version 1) (ltb f at_stages || ltb at_stages f) (within at_count f 16)

-- some streams are to come before a stream's field, and none before any other
unfoldable pub count_fits : ℕ → ℕ → ℕ → Bool
count_fits f k n = cond (within at_deadline f at_offset) (ltb k n) (eqb k n)

-- ---- the stream that is being read

unfoldable pub stages_fit : ℕ → List Stage → Bool
stages_fit k gs = list_all stage_ok (take k gs) && list_all stage_unused (drop k gs)

unfoldable pub tuples_fit : ℕ → List TuplePlace → Bool
tuples_fit k ts = eqb (offset_at (get_or ts 0 no_tuple)) 0 && (tuples_ok (take k ts) && list_all tuple_unused (drop k ts))

-- the offset of the last tuple, or `low` where there is none
unfoldable pub last_of : ℕ → List TuplePlace → ℕ
last_of low [] = low
last_of low (p ∷ ps) = last_of (offset_at p) ps

-- a value is in its rule where it has been read, and else 0
unfoldable pub held : Bool → ℕ → ℕ → ℕ → Bool
held read low high v = cond read (within low v high) (eqb v 0)

-- before which rows the deadline of the stream has been read, and its stages less one
unfoldable pub dated : ℕ → ℕ → Bool
dated version f = cond (eqb version 1) (within at_tuples f at_offset) (within at_stages f at_offset)

unfoldable pub deepened : ℕ → ℕ → Bool
deepened version f = cond (eqb version 1) false (within at_task f at_offset)

-- one test for each place; the version and a cost stand elsewhere; low is the offset of the last whole tuple
abbrev pub value_tests : ℕ → ℕ → ℕ → List ℕ → List Bool
value_tests version f low vs =
    eqb (value_at vs at_version) 0
    ∷ held (within at_deadline f 16) 0 16 (value_at vs at_count)
    ∷ held (dated version f) 1 200000 (value_at vs at_deadline)
    ∷ held (deepened version f) 0 3 (value_at vs at_stages)
    ∷ held (eqb f at_cost) 0 15 (value_at vs at_task)
    ∷ eqb (value_at vs at_cost) 0
    ∷ held (within at_cycle f at_offset) 0 3 (value_at vs at_tuples)
    ∷ held (eqb f at_offset) 0 1000000 (value_at vs at_cycle)
    ∷ eqb (value_at vs at_offset) low
    ∷ []

unfoldable pub values_fit : ℕ → ℕ → ℕ → List ℕ → Bool
values_fit version f low vs = every (value_tests version f low vs)

-- ---- all that is kept

abbrev pub fit_tests : ℕ → ℕ → List ℕ → List Stage → List TuplePlace → Set → List Bool
fit_tests f n vs gs ts x =
    valid x
    ∷ version_fits x.version f
    ∷ count_fits f x.count (value_at vs at_count)
    ∷ leb n (most_whole f vs)
    ∷ stages_fit (stages_whole x.version (value_at vs at_stages) f n) gs
    ∷ tuples_fit (tuples_whole f n) ts
    ∷ values_fit x.version f (last_of 0 (take (tuples_whole f n) ts)) vs
    ∷ []

unfoldable pub kept_fits : ℕ → ℕ → List ℕ → List Stage → List TuplePlace → Set → Bool
kept_fits f n vs gs ts x = every (fit_tests f n vs gs ts x)

-- ---- whole bytes

-- how many bits a stream's fields have: those of version 2 have two more
unfoldable pub stream_room : ℕ → Stream → ℕ
stream_room version s = cond (eqb version 1) 20 22 + (20 * s.depth + 37 * s.count)

unfoldable pub streams_room : Set → ℕ
streams_room x = sum (stream_room x.version) (streams_of x)

-- how many bits of the stream that is being read, or of the padding, have come before a row, behind n stages or tuples; less are its stages less one
unfoldable pub part_room : ℕ → ℕ → ℕ → ℕ → ℕ
part_room version less f n =
    cond (eqb version 1)
    (get_or (0 ∷ 0 ∷ 20 ∷ 0 ∷ 0 ∷ 4 ∷ 38 ∷ (40 + 37 * n) ∷ (60 + 37 * n) ∷ []) f (f - at_padding))
    (get_or
    (0 ∷ 0 ∷ 0 ∷ 18 ∷ (20 + 20 * n) ∷ (24 + 20 * n) ∷ (40 + 20 * less) ∷ (42 + 20 * less + 37 * n) ∷ (62 + 20 * less + 37 * n) ∷ [])
    f (f - at_padding))

-- how many bits have come before a row: version 4, count 5, ..
unfoldable pub before_row : ℕ → ℕ → List ℕ → Set → ℕ
before_row f n vs x =
    cond (eqb f at_version) 0
    (cond (eqb f at_count) 4 (9 + streams_room x + part_room x.version (value_at vs at_stages) f n))

unfoldable pub came_of : Carried → ℕ
came_of c = before_row c.point.row c.point.whole c.values c.set + (width_of c.point.row - c.point.left)

-- a refused reader says nothing of how many bits have come
unfoldable pub whole_bytes : Carried → Bool
whole_bytes c = leb at_refused c.point.row || eqb (came_of c % 8) 0

-- ---- the test

unfoldable pub fits : Carried → Bool
fits c = point_fits c.point && kept_fits c.point.row c.point.whole c.values c.stages c.places c.set

unfoldable pub could_be_left : Carried → Bool
could_be_left c = cond (fits c) (whole_bytes c) false

-- ---- what it is to say: some bytes leave it from the start

pub record Left (c : Carried) : Type 0 where
  pub came : List ℕ
  pub are : All Byte came
  pub leads : run start_of (bits came) ≡ c

-- "12 for a carried state that no pieces could have left": both directions
unfoldable pub LeftExactly : Type 0
LeftExactly = (c : Carried) → Boxed c → could_be_left c ≡ true ↔ Left c
