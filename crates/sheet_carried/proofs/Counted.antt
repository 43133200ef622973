-- The bits that have come, as the functions count them.
-- Assumes nothing.
use Prim.Native.Nat.{ℕ, ◌+◌, ◌-◌, ◌*◌, ◌%◌, ◌≤◌, ◌<◌}
use mathlib.Core.List.{List, [], ◌∷◌}
use mathlib.Core.Path.{◌≡◌, refl, sym, ap, ap₂, ◌∙◌}
use mathlib.Core.Bool.{Bool, true, false, cond, ◌||◌}
use native.Mathlib.Omega.{arith}
use lib.ListN.{length, get_or, length-take, take}
use lib.Seq.{take-length}
use lib.Dec.{eqb}
use borrow.Author.Tests.{eq-eqb, le-leb, leb-true, lt-leb, ltb-true, ne_eqb}
use Rattle.laws.specs.Lists.{All, sum, within}
use Rattle.laws.proofs.Sums.{Holds as Passes, all_at, and_parts, every_all, sum_take}
use Rattle.rules.specs.declared.Stream.{Stream}
use Rattle.rules.specs.declared.Set.{Set}
use Rattle.rules.specs.Streams.{streams_of, valid}
use Rattle.rules.specs.Valid.{ValidStream}
use Rattle.rules.proofs.Valid.{valid_set}
use Rattle.sheet_carried.specs.declared.Carried.{Carried}
use Rattle.sheet_carried.specs.Table.{width_of}
use Rattle.sheet_carried.specs.Kept.{most_whole, tuples_whole}
use Rattle.sheet_carried.specs.Left.{before_row, came_of, deepened, fit_tests, fits, held, kept_fits, last_of, part_room, point_fits, point_tests, stream_room, streams_room, value_tests, values_fit, whole_bytes}
use Rattle.sheet_carried.proofs.Rows.{by_value_row}
use Rattle.sheet_carried.proofs.Sound.{get_d_le, held_high, held_zero, padding_room}

-- ---- a stream, and the streams of a set

head_few : (b : Bool) → cond b 20 22 ≤ 22
head_few true = omega arith
head_few false = omega arith

pub count_most : (x : Set) → length (streams_of x) ≤ x.count
count_most x = omega (arith, length-take x.count x.streams)

module _ (x : Set) (v : valid x ≡ true) where
  pub count_few : x.count ≤ 16
  count_few = (valid_set x v).count

  module _ (k : ℕ) (z : Stream) (h : k < length (streams_of x)) where
    stream_at_lem : ValidStream (get_or (streams_of x) k z)
    stream_at_lem = all_at ValidStream (streams_of x) k z h (valid_set x v).streams

    pub stream_few : ((get_or (streams_of x) k z).depth ≤ 4) × ((get_or (streams_of x) k z).count ≤ 4)
    stream_few = (stream_at_lem.depth.high, stream_at_lem.count.high)

    pub room_few : (r : ℕ) → r ≡ stream_room x.version (get_or (streams_of x) k z) → r ≤ 250
    unfolding stream_room
    room_few r q = omega (arith, head_few (eqb x.version 1), stream_few.0, stream_few.1)

    pub room_next : (room r : ℕ) → room ≡ sum (stream_room x.version) (take k (streams_of x)) → r ≡ stream_room x.version (get_or (streams_of x) k z) → room + r ≡ sum (stream_room x.version) (take (k + 1) (streams_of x))
    room_next room r a b = omega (arith, sum_take (stream_room x.version) (streams_of x) k z h)

  pub room_all : (room k : ℕ) → k ≡ length (streams_of x) → room ≡ sum (stream_room x.version) (take k (streams_of x)) → room ≡ streams_room x
  unfolding streams_room
  room_all room k e h = h ∙ ap (λ (l : List Stream). sum (stream_room x.version) l) (ap (λ (j : ℕ). take j (streams_of x)) e ∙ take-length (streams_of x))

-- ---- the stream that is being read

module _ (version less f n : ℕ) (few : less ≤ 3) (some : n ≤ 3) where
  abbrev firsts : List ℕ
  firsts = 0 ∷ 0 ∷ 20 ∷ 0 ∷ 0 ∷ 4 ∷ 38 ∷ (40 + 37 * n) ∷ (60 + 37 * n) ∷ []

  abbrev seconds : List ℕ
  seconds = 0 ∷ 0 ∷ 0 ∷ 18 ∷ (20 + 20 * n) ∷ (24 + 20 * n) ∷ (40 + 20 * less) ∷ (42 + 20 * less + 37 * n) ∷ (62 + 20 * less + 37 * n) ∷ []

  pub part_first : (v : ℕ) → f < 9 → version ≡ 1 → v ≡ get_or firsts f 0 → (v ≡ part_room version less f n) × (v ≤ 4000)
  unfolding part_room
  part_first v h e g = (
    g ∙ by_value_row (λ (j : ℕ). get_or firsts j 0 ≡ get_or firsts j (f - 9)) refl refl refl refl refl refl refl refl refl f h
        ∙ sym (ap (λ (b : Bool). cond b (get_or firsts f (f - 9)) (get_or seconds f (f - 9))) (eq-eqb version 1 e)),
    omega (arith, get_d_le 4000 f firsts (omega arith, (omega arith, (omega arith, (omega arith, (omega arith, (omega arith, (omega arith, (omega arith, (omega arith, tt)))))))))),
  )

  pub part_second : (v : ℕ) → f < 9 → (version ≡ 1 → ⊥) → v ≡ get_or seconds f 0 → (v ≡ part_room version less f n) × (v ≤ 4000)
  unfolding part_room
  part_second v h e g = (
    g ∙ by_value_row (λ (j : ℕ). get_or seconds j 0 ≡ get_or seconds j (f - 9)) refl refl refl refl refl refl refl refl refl f h
        ∙ sym (ap (λ (b : Bool). cond b (get_or firsts f (f - 9)) (get_or seconds f (f - 9))) (ne_eqb version 1 e)),
    omega (arith, get_d_le 4000 f seconds (omega arith, (omega arith, (omega arith, (omega arith, (omega arith, (omega arith, (omega arith, (omega arith, (omega arith, tt)))))))))),
  )

  pub part_padding : 9 ≤ f → f ≤ 20 → (f - 9 ≡ part_room version less f n) × (f - 9 ≤ 4000)
  part_padding h k = (sym (padding_room version less f n h), omega arith)

-- ---- what the test says

module _ (c : Carried) (e : fits c ≡ true) where
  abbrev f : ℕ
  f = c.point.row

  both : (point_fits c.point ≡ true) × (kept_fits f c.point.whole c.values c.stages c.places c.set ≡ true)
  unfolding fits
  both = and_parts (point_fits c.point) (kept_fits f c.point.whole c.values c.stages c.places c.set) e

  points : All Passes (point_tests c.point)
  unfolding point_fits
  points = every_all (point_tests c.point) both.0

  tests : All Passes (fit_tests f c.point.whole c.values c.stages c.places c.set)
  unfolding kept_fits
  tests = every_all (fit_tests f c.point.whole c.values c.stages c.places c.set) both.1

  pub row_few : f ≤ 20
  row_few = omega (arith, ltb-true f 20 points.0)

  pub left_few : c.point.left ≤ width_of f
  left_few = leb-true c.point.left (width_of f) points.1.0

  pub set_valid : valid c.set ≡ true
  set_valid = tests.0

  values : All Passes (value_tests c.set.version f (last_of 0 (take (tuples_whole f c.point.whole) c.places)) c.values)
  unfolding values_fit
  values = every_all (value_tests c.set.version f (last_of 0 (take (tuples_whole f c.point.whole) c.places)) c.values) tests.1.1.1.1.1.1.0

  held_few : (b : Bool) (v : ℕ) → held b 0 3 v ≡ true → v ≤ 3
  held_few true v h = held_high 0 3 v h
  held_few false v h = omega (arith, held_zero 0 3 v h)

  pub less_few : get_or c.values 3 0 ≤ 3
  less_few = held_few (deepened c.set.version f) (get_or c.values 3 0) values.1.1.1.0

  limit_few : get_or c.values 6 0 ≤ 3
  limit_few = held_few (within 7 f 8) (get_or c.values 6 0) values.1.1.1.1.1.1.0

  pub whole_few : c.point.whole ≤ 3
  unfolding most_whole
  whole_few =
      let a : ℕ = get_or c.values 3 0 in
      let b : ℕ = get_or c.values 6 0 in
      omega (
        arith,
        leb-true c.point.whole (most_whole f c.values) tests.1.1.1.0,
        get_d_le 3 f (0 ∷ 0 ∷ 0 ∷ 0 ∷ a ∷ a ∷ 0 ∷ b ∷ b ∷ []) (omega arith, (omega arith, (omega arith, (omega arith, (less_few, (less_few, (omega arith, (limit_few, (limit_few, tt))))))))),
      )

-- ---- all bits

module _ (c : Carried) (w left : ℕ) (a : w ≡ width_of c.point.row) (b : left ≡ c.point.left) where
  here : w - left ≡ width_of c.point.row - c.point.left
  here = ap₂ (λ (i j : ℕ). i - j) a b

  pub came_none : c.point.row ≡ 0 → w - left ≡ came_of c
  unfolding came_of before_row
  came_none e = (let q : w - left ≡ 0 + (w - left) = omega arith in q) ∙ ap₂ (λ (i j : ℕ). i + j) (sym (simp (eq-eqb c.point.row 0 e))) here

  pub came_version : c.point.row ≡ 1 → 4 + (w - left) ≡ came_of c
  unfolding came_of before_row
  came_version e = ap₂ (λ (i j : ℕ). i + j) (sym (simp (ne_eqb c.point.row 0 (λ q. omega arith), eq-eqb c.point.row 1 e))) here

  pub came_all : (room part less : ℕ) → (c.point.row ≡ 0 → ⊥) → (c.point.row ≡ 1 → ⊥) → room ≡ streams_room c.set → less ≡ get_or c.values 3 0 → part ≡ part_room c.set.version less c.point.row c.point.whole
      → 9 + room + part + (w - left) ≡ came_of c
  unfolding came_of before_row
  came_all room part less h k r l p =
      ap₂ (λ (i j : ℕ). i + j)
      (ap₂ (λ (i j : ℕ). 9 + i + j) r (p ∙ ap (λ (i : ℕ). part_room c.set.version i c.point.row c.point.whole) l) ∙ sym (simp (ne_eqb c.point.row 0 h, ne_eqb c.point.row 1 k)))
      here

pub late_whole : (c : Carried) → 17 ≤ c.point.row → true ≡ whole_bytes c
unfolding whole_bytes
late_whole c h = sym (ap (λ (b : Bool). b || eqb (came_of c % 8) 0) (le-leb 17 c.point.row h))

pub bytes_whole : (c : Carried) (r : ℕ) → c.point.row < 17 → r ≡ came_of c → eqb (r % 8) 0 ≡ whole_bytes c
unfolding whole_bytes
bytes_whole c r h e = ap (λ (i : ℕ). eqb (i % 8) 0) e ∙ sym (ap (λ (b : Bool). b || eqb (came_of c % 8) 0) (lt-leb 17 c.point.row h))
