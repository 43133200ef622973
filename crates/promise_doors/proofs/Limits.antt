-- The event limit of a stream with a door, in the form that its wait is compared with: n + 2 posts are allowed in a window exactly if it is as long as the
-- offset and n cycles. Assumes nothing.
use Prim.Native.Nat.{ℕ, suc, ◌+◌, ◌-◌, ◌*◌, ◌/◌, ◌≤◌, ◌<◌}
use native.Mathlib.Nat.{le-div_iff_mul-le, suc-mul}
use native.Mathlib.Omega.{arith}
use mathlib.Core.List.{List, [], ◌∷◌}
use mathlib.Core.Logic.{⊎_elim}
use mathlib.Core.Path.{◌≡◌}
use borrow.Author.Tests.{le-leb, lt-leb, eqb-true}
use lib.Dec.{eqb}
use lib.ListN.{length, get_or, take}
use Rattle.laws.specs.Lists.{sum}
use Rattle.laws.proofs.Gates.{le_or_lt}
use Rattle.laws.proofs.Sums.{by_test}
use Rattle.rules.specs.declared.Tuple.{Tuple}
use Rattle.rules.specs.declared.Tuple.TheVariants.{Once, Every}
use Rattle.rules.specs.declared.TuplePlace.{TuplePlace}
use Rattle.rules.specs.declared.Stream.{Stream}
use Rattle.rules.specs.declared.Door.{Door}
use Rattle.rules.specs.declared.Door.TheVariants.{Unguarded, Single, Spaced}
use Rattle.rules.specs.Streams.{FourPlaces, no_tuple, offset, events_of, events, limit}
use Rattle.rules.specs.Doors.{tuple_at, door_of_one, door_of_two, door_of}
use Rattle.rules.specs.Valid.{FirstZero, ValidStream}
use Rattle.rules.proofs.Waits.{ValidDoor, door_valid}

-- what e posts in a window of length i come to
pub record Spaces (z a i e : ℕ) : Type 0 where
  pub one : 1 ≤ e
  pub more : (n : ℕ) → a + n * z ≤ i → suc (suc n) ≤ e
  pub fewer : (n : ℕ) → i < a + n * z → e ≤ suc n

abbrev pub Allows : Door → ℕ → ℕ → Type 0
Allows Unguarded i e = Unit {0}
Allows Single i e = e ≡ 1
Allows (Spaced z a) i e = Spaces z a i e

-- ---- the tuples

once_counts : (a i : ℕ) → a ≡ 0 → events_of (Once a) i ≡ 1
once_counts a i e = rw (e, le-leb 0 i (omega arith))

-- every z from 0 is once at 0 and every z from z
each_spaces : (z a i : ℕ) → 1 ≤ z → a ≡ 0 → Spaces z z i (events_of (Every z a) i)
each_spaces z a i h e = rw (e, le-leb 0 i (omega arith), back) (record {
  one = omega arith;
  more = λ n q. omega (arith, (le-div_iff_mul-le {k = z} {x = suc n} {y = i} h).1 (omega (arith, suc-mul n z)));
  fewer = λ n q. ⊎_elim
      (λ (y : suc n ≤ i / z). absurd (omega (arith, suc-mul n z, (le-div_iff_mul-le {k = z} {x = suc n} {y = i} h).0 y)))
      (λ (y : i / z < suc n). omega arith)
      (le_or_lt (suc n) (i / z));
})
  where
    back : i - 0 ≡ i
    back = omega arith

-- once at 0, and every z from a
both_spaces : (z a i : ℕ) → 1 ≤ z → Spaces z a i (1 + events_of (Every z a) i)
both_spaces z a i h = ⊎_elim
    (λ (q : a ≤ i). rw (le-leb a i q) (record {
      one = omega arith;
      more = λ n p. omega (arith, (le-div_iff_mul-le {k = z} {x = n} {y = i - a} h).1 (omega arith));
      fewer = λ n p. ⊎_elim
          (λ (y : n ≤ (i - a) / z). absurd (omega (arith, (le-div_iff_mul-le {k = z} {x = n} {y = i - a} h).0 y)))
          (λ (y : (i - a) / z < n). omega arith)
          (le_or_lt n ((i - a) / z));
    }))
    (λ (q : i < a). rw (lt-leb a i q) (record {
      one = omega arith;
      more = λ n p. absurd (omega arith);
      fewer = λ n p. omega arith;
    }))
    (le_or_lt a i)

-- ---- the streams

one_tuple : (i : ℕ) (ts : List TuplePlace) → length ts ≡ 4 → sum (events i) (take 1 ts) ≡ events_of (get_or ts 0 no_tuple).tuple i
unfolding sum events
one_tuple i [] l = absurd (omega arith)
one_tuple i (p ∷ ts) l = omega arith

two_tuples : (i : ℕ) (ts : List TuplePlace) → length ts ≡ 4 → sum (events i) (take 2 ts) ≡ events_of (get_or ts 0 no_tuple).tuple i + events_of (get_or ts 1 no_tuple).tuple i
unfolding sum events
two_tuples i [] l = absurd (omega arith)
two_tuples i (p ∷ []) l = absurd (omega arith)
two_tuples i (p ∷ (q ∷ ts)) l = omega arith

first_zero : (n : ℕ) (ts : List TuplePlace) → length ts ≡ 4 → FirstZero (take (suc n) ts) → offset (get_or ts 0 no_tuple).tuple ≡ 0
first_zero n [] l f = absurd (omega arith)
first_zero n (p ∷ ts) l f = f

one_allows : (t : Tuple) (i : ℕ) → offset t ≡ 0 → ValidDoor (door_of_one t) → Allows (door_of_one t) i (events_of t i)
one_allows (Once a) i e v = once_counts a i e
one_allows (Every z a) i e v = each_spaces z a i v.0.low e

two_allow : (t u : Tuple) (i : ℕ) → offset t ≡ 0 → ValidDoor (door_of_two t u) → Allows (door_of_two t u) i (events_of t i + events_of u i)
two_allow (Once a) (Every z b) i e v = rw (once_counts a i e) (both_spaces z b i v.0.low)
two_allow (Once a) (Once b) i e v = tt
two_allow (Every z a) u i e v = tt

module _ (s : Stream) (f : FourPlaces s) (v : ValidStream s) (i : ℕ) where
  pub allows : Allows (door_of s) i (limit s i)
  unfolding door_of limit
  allows =
      let d : ValidDoor (door_of s) = door_valid s v in
      by_test (eqb s.count 1)
      (λ e.
      let n : s.count ≡ 1 = eqb-true s.count 1 e in
      rw (e, n, one_tuple i s.tuples f.tuples) (one_allows (tuple_at s 0) i (first_zero 0 s.tuples f.tuples (rw n at v.first)) (rw e at d)))
      (λ e. by_test (eqb s.count 2)
      (λ g.
      let n : s.count ≡ 2 = eqb-true s.count 2 g in
      rw (e, g, n, two_tuples i s.tuples f.tuples) (two_allow (tuple_at s 0) (tuple_at s 1) i (first_zero 1 s.tuples f.tuples (rw n at v.first)) (rw (e, g) at d)))
      (λ g. rw (e, g) tt))
