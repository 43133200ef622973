-- The waits at the doors: what a unit leaves of them, that post and unit keep their rules, and how large they are.
-- Assumes nothing.
use Prim.Native.Nat.{ℕ, zero, suc, ◌+◌, ◌≤◌, ◌<◌}
use native.Mathlib.Omega.{arith}
use mathlib.Core.Bool.{false}
use mathlib.Core.List.{List, [], ◌∷◌}
use mathlib.Core.Path.{◌≡◌, refl, ap, sym, subst}
use borrow.Author.Tests.{ltb-true, ltb-false, leb-true, leb-false, eqb-true}
use lib.Dec.{ltb, leb, eqb}
use lib.ListN.{length, get_or}
use Rattle.laws.proofs.Parts.{past}
use Rattle.laws.proofs.Sums.{by_test, all_take_at}
use Rattle.rules.specs.declared.Tuple.{Tuple}
use Rattle.rules.specs.declared.Tuple.TheVariants.{Once, Every}
use Rattle.rules.specs.declared.TuplePlace.{TuplePlace}
use Rattle.rules.specs.declared.Stream.{Stream}
use Rattle.rules.specs.declared.Door.{Door}
use Rattle.rules.specs.declared.Door.TheVariants.{Unguarded, Single, Spaced}
use Rattle.rules.specs.Streams.{no_tuple, no_stream, offset}
use Rattle.rules.specs.Doors.{tuple_at, door_of_one, door_of_two, door_of, slack, larger, shut, wait_after, wait_later, waits_later, most_wait}
use Rattle.rules.specs.Valid.{Between, ValidCycle, ValidPlace, ValidStream}

-- ---- after a unit

pub later_zero : (d : Door) → wait_later d 0 ≡ 0
unfolding wait_later
later_zero Unguarded = refl
later_zero Single = refl
later_zero (Spaced z a) = refl

-- a place that is not in use has no door
unused_later : (w : ℕ) → w ≡ wait_later (door_of no_stream) w
unfolding door_of wait_later
unused_later w = refl

-- the wait of each place, past the ends too
pub later_at : (ss : List Stream) (ws : List ℕ) (k : ℕ) → get_or (waits_later ss ws) k 0 ≡ wait_later (door_of (get_or ss k no_stream)) (get_or ws k 0)
unfolding waits_later
later_at [] ws k = unused_later (get_or ws k 0)
later_at (s ∷ ss) [] k = sym (later_zero (door_of (get_or (s ∷ ss) k no_stream)))
later_at (s ∷ ss) (w ∷ ws) zero = refl
later_at (s ∷ ss) (w ∷ ws) (suc k) = later_at ss ws k

pub later_length : (ss : List Stream) (ws : List ℕ) → length (waits_later ss ws) ≡ length ws
unfolding waits_later
later_length [] ws = refl
later_length (s ∷ ss) [] = refl
later_length (s ∷ ss) (w ∷ ws) = ap suc (later_length ss ws)

-- ---- the rules are kept

-- the larger of the two is the offset and the slack
pub larger_is : (z a : ℕ) → larger a z ≡ a + slack z a
larger_is z a =
    by_test (leb a z)
    (λ e. rw e (let q : a ≤ z = leb-true a z e in omega arith))
    (λ e. rw e (let q : z < a = leb-false a z e in omega arith))

pub after_keeps : (d : Door) (w : ℕ) → w ≤ most_wait d → shut d w ≡ false → wait_after d w ≤ most_wait d
unfolding most_wait wait_after shut
after_keeps Unguarded w h e = h
after_keeps Single w h e = omega arith
after_keeps (Spaced z a) w h e = omega (arith, ltb-false (slack z a) w e)

pub later_keeps : (d : Door) (w : ℕ) → w ≤ most_wait d → wait_later d w ≤ most_wait d
unfolding most_wait wait_later
later_keeps Unguarded w h = h
later_keeps Single w h = h
later_keeps (Spaced z a) w h = omega arith

-- ---- how large

-- a door with numbers in the rules
abbrev pub ValidDoor : Door → Type 0
ValidDoor Unguarded = Unit {0}
ValidDoor Single = Unit {0}
ValidDoor (Spaced z a) = Between 1 z 1000000 × (a ≤ 1000000)

pub most_fits : (d : Door) → ValidDoor d → most_wait d ≤ 2000000
unfolding most_wait
most_fits Unguarded v = omega arith
most_fits Single v = omega arith
most_fits (Spaced z a) v = omega (arith, larger_is z a, v.0.low, v.0.high, v.1)

module _ (s : Stream) (v : ValidStream s) where
  -- a place past the end is once at 0
  at_valid : (j : ℕ) → j < s.count → ValidPlace (get_or s.tuples j no_tuple)
  at_valid j h =
      by_test (ltb j (length s.tuples))
      (λ e. all_take_at ValidPlace s.tuples s.count j no_tuple h (ltb-true j (length s.tuples) e) v.tuples)
      (λ e. subst ValidPlace (past s.tuples j no_tuple (ltb-false j (length s.tuples) e)) (record { offset = omega arith; cycle = tt }))

  one_valid : (p : TuplePlace) → ValidPlace p → ValidDoor (door_of_one p.tuple)
  one_valid p q = go p.tuple q.cycle
    where
      go : (t : Tuple) → ValidCycle t → ValidDoor (door_of_one t)
      go (Once a) c = tt
      go (Every z a) c = (c, c.high)

  two_valid : (t : Tuple) (p : TuplePlace) → ValidPlace p → ValidDoor (door_of_two t p.tuple)
  two_valid t p q = go t p.tuple q.cycle q.offset
    where
      go : (t u : Tuple) → ValidCycle u → offset u ≤ 100000 → ValidDoor (door_of_two t u)
      go (Once a) (Every z b) c o = (c, omega arith)
      go (Once a) (Once b) c o = tt
      go (Every z a) u c o = tt

  pub door_valid : ValidDoor (door_of s)
  unfolding door_of
  door_valid =
      by_test (eqb s.count 1)
      (λ e. rw e (one_valid (get_or s.tuples 0 no_tuple) (at_valid 0 (omega (arith, eqb-true s.count 1 e)))))
      (λ e. rw e (
      by_test (eqb s.count 2)
      (λ g. rw g (two_valid (tuple_at s 0) (get_or s.tuples 1 no_tuple) (at_valid 1 (omega (arith, eqb-true s.count 2 g)))))
      (λ g. rw g tt)))
