-- Demand repeats: past the greatest deadline and the greatest offset, each H adds the long-run load. So lengths up to H beyond that speak of every length.
-- Assumes nothing.
use Prim.Native.Nat.{ℕ, zero, suc, ◌+◌, ◌-◌, ◌*◌, ◌/◌, ◌≤◌, ◌<◌}
use native.Mathlib.Nat.{le_refl, mul-add, mul-div_cancel', add-mul-div_left}
use native.Mathlib.Omega.{arith}
use native.Mathlib.Decide.{dec_le}
use mathlib.Core.Path.{◌≡◌, ap, ◌∙◌}
use mathlib.Core.List.{List}
use mathlib.Core.Bool.{false}
use lib.Dec.{leb}
use borrow.Author.Tests.{le-leb, lt-leb}
use Rattle.std.specs.List.{list_any}
use Rattle.laws.specs.Lists.{below, sum, top, All}
use Rattle.laws.proofs.Sums.{all_map, all_zip, all_each, sum_split, sum_zero, sum_mul, top_each, top_zero, cond_zero, any_none, and_no}
use Rattle.rules.specs.declared.Tuple.{Tuple}
use Rattle.rules.specs.declared.Tuple.TheVariants.{Once, Every}
use Rattle.rules.specs.declared.TuplePlace.{TuplePlace}
use Rattle.rules.specs.declared.Stream.{Stream}
use Rattle.rules.specs.Streams.{tuples_of, offset, offset_at, events_of, events, limit}
use Rattle.rules.specs.Load.{cost_in, due, has, urgent, blocks, blocking, demand, CycleIn, PlaceIn, CyclesIn, Common, rate_of, rate, stream_load, load, deadline_of, greatest_deadline, stream_offset, greatest_offset, last_length}
use Rattle.rules.specs.Valid.{ValidPlace, ValidCycle, ValidStream}

-- ---- one H more

abbrev rate_at : ℕ → TuplePlace → ℕ
rate_at h p = rate_of h p.tuple

events_of_more : (t : Tuple) (h j : ℕ) → ValidCycle t → CycleIn h t → offset t ≤ j → events_of t (j + h) ≡ events_of t j + rate_of h t
events_of_more (Once a) h j v d le = simp (le-leb a (j + h) (omega arith), le-leb a j le)
events_of_more (Every z a) h j v d le =
    let e : j + h - a ≡ (j - a) + z * (h / z) = omega (arith, mul-div_cancel' z d) in
    let q : (j + h - a) / z ≡ (j - a) / z + h / z = ap (λ (n : ℕ). n / z) e ∙ add-mul-div_left (j - a) (h / z) v.low in
    simp (le-leb a (j + h) (omega arith), le-leb a j le) (omega arith)

-- a place with what is known of it
record Passed (h j : ℕ) (p : TuplePlace) : Type 0 where
  valid : ValidPlace p
  whole : PlaceIn h p
  past : offset_at p ≤ j

events_more : (h j : ℕ) (p : TuplePlace) → Passed h j p → events (j + h) p ≡ events j p + rate_at h p
unfolding events
events_more h j p k = events_of_more p.tuple h j k.valid.cycle k.whole k.past

passed : (h j : ℕ) (s : Stream) → ValidStream s → CyclesIn h s → stream_offset s ≤ j → All (Passed h j) (tuples_of s)
unfolding stream_offset
passed h j s v d le =
    all_zip (λ p. ValidPlace p × PlaceIn h p) (λ p. offset_at p ≤ j) (Passed h j) (tuples_of s)
    (λ p a b. record { valid = a.0; whole = a.1; past = b })
    (all_zip ValidPlace (PlaceIn h) (λ p. ValidPlace p × PlaceIn h p) (tuples_of s) (λ p a b. (a, b)) v.tuples d)
    (top_each offset_at j (tuples_of s) le)

limit_more : (h j : ℕ) (s : Stream) → ValidStream s → CyclesIn h s → stream_offset s ≤ j
    → limit s (j + h) ≡ limit s j + sum (rate_at h) (tuples_of s)
unfolding limit
limit_more h j s v d le =
    sum_split (events (j + h)) (events j) (rate_at h) (tuples_of s)
    (all_map (Passed h j) (λ p. events (j + h) p ≡ events j p + rate_at h p) (tuples_of s) (events_more h j) (passed h j s v d le))

pub due_more : (h i : ℕ) (s : Stream) → ValidStream s → CyclesIn h s → s.deadline + stream_offset s ≤ i
    → due (i + h) s ≡ due i s + stream_load h s
unfolding due stream_load
due_more h i s v d le =
    let e : i + h - s.deadline ≡ (i - s.deadline) + h = omega arith in
    let q : cost_in s * limit s (i + h - s.deadline) ≡ cost_in s * limit s (i - s.deadline) + sum (rate h (cost_in s)) (tuples_of s) =
    ap (λ (n : ℕ). cost_in s * limit s n) e ∙ ap (λ (n : ℕ). cost_in s * n) (limit_more h (i - s.deadline) s v d (omega arith))
    ∙ mul-add (cost_in s) (limit s (i - s.deadline)) (sum (rate_at h) (tuples_of s))
    ∙ ap (λ (n : ℕ). cost_in s * limit s (i - s.deadline) + n) (sum_mul (cost_in s) (rate_at h) (tuples_of s)) in
    simp (le-leb s.deadline (i + h) (omega arith), le-leb s.deadline i (omega arith)) q

-- a stream with what is known of it
record Past (h m n : ℕ) (s : Stream) : Type 0 where
  valid : ValidStream s
  whole : CyclesIn h s
  deadline : s.deadline ≤ m
  offset : stream_offset s ≤ n

past_all : (h : ℕ) (ss : List Stream) → All ValidStream ss → Common h ss → All (Past h (greatest_deadline ss) (greatest_offset ss)) ss
unfolding greatest_deadline greatest_offset
past_all h ss v d =
    all_zip (λ s. ValidStream s × CyclesIn h s) (λ s. (s.deadline ≤ greatest_deadline ss) × (stream_offset s ≤ greatest_offset ss))
    (Past h (greatest_deadline ss) (greatest_offset ss)) ss
    (λ s a b. record { valid = a.0; whole = a.1; deadline = b.0; offset = b.1 })
    (all_zip ValidStream (CyclesIn h) (λ s. ValidStream s × CyclesIn h s) ss (λ s a b. (a, b)) v d)
    (all_zip (λ s. s.deadline ≤ greatest_deadline ss) (λ s. stream_offset s ≤ greatest_offset ss)
    (λ s. (s.deadline ≤ greatest_deadline ss) × (stream_offset s ≤ greatest_offset ss)) ss (λ s a b. (a, b))
    (top_each deadline_of (greatest_deadline ss) ss (le_refl _))
    (top_each stream_offset (greatest_offset ss) ss (le_refl _)))

dues_more : (ss : List Stream) (h i : ℕ) → All ValidStream ss → Common h ss → greatest_deadline ss + greatest_offset ss ≤ i
    → sum (due (i + h)) ss ≡ sum (due i) ss + sum (stream_load h) ss
dues_more ss h i v d le =
    sum_split (due (i + h)) (due i) (stream_load h) ss
    (all_map (Past h (greatest_deadline ss) (greatest_offset ss)) (λ s. due (i + h) s ≡ due i s + stream_load h s) ss
    (λ s p. due_more h i s p.valid p.whole (omega (arith, p.deadline, p.offset))) (past_all h ss v d))

-- ---- blocking

-- a stream whose deadline is not above i blocks no task
blocks_none : (t i : ℕ) (s : Stream) → s.deadline ≤ i → blocks t i s ≡ 0
blocks_none t i s le = simp (le-leb s.deadline i le)

-- from the greatest deadline on, no task is blocked
pub blocking_none : (ss : List Stream) (i t : ℕ) → greatest_deadline ss ≤ i → blocking ss i t ≡ 0
unfolding blocking greatest_deadline
blocking_none ss i t le =
    cond_zero (list_any (urgent t i) ss) (top (blocks t i) ss)
    (top_zero (blocks t i) ss (all_map (λ s. s.deadline ≤ i) (λ s. blocks t i s ≡ 0) ss (blocks_none t i) (top_each deadline_of i ss le)))

pub blockings_none : (ss : List Stream) (i : ℕ) (ts : List ℕ) → greatest_deadline ss ≤ i → sum (blocking ss i) ts ≡ 0
blockings_none ss i ts le = sum_zero (blocking ss i) ts (all_each (λ t. blocking ss i t ≡ 0) ts (λ t. blocking_none ss i t le))

-- ---- demand

-- past the greatest deadline and the greatest offset, demand grows by the load with each H
pub demand_more : (ss : List Stream) (h i : ℕ) → All ValidStream ss → Common h ss → greatest_deadline ss + greatest_offset ss ≤ i
    → demand ss (i + h) ≡ demand ss i + load ss h
unfolding demand load
demand_more ss h i v d le =
    omega (arith, dues_more ss h i v d le, blockings_none ss (i + h) (below 16) (omega arith), blockings_none ss i (below 16) (omega arith))

-- nothing is due in a span of no length
due_zero : (s : Stream) → ValidStream s → due 0 s ≡ 0
unfolding due
due_zero s v = simp (lt-leb s.deadline 0 v.deadline.low)

not_urgent : (t : ℕ) (s : Stream) → ValidStream s → urgent t 0 s ≡ false
not_urgent t s v = and_no (has t s) (leb s.deadline 0) (lt-leb s.deadline 0 v.deadline.low)

blocking_zero : (ss : List Stream) (t : ℕ) → All ValidStream ss → blocking ss 0 t ≡ 0
unfolding blocking
blocking_zero ss t v =
    simp (any_none (urgent t 0) ss (all_map ValidStream (λ s. urgent t 0 s ≡ false) ss (not_urgent t) v))

pub demand_zero : (ss : List Stream) → All ValidStream ss → demand ss 0 ≡ 0
unfolding demand
demand_zero ss v =
    omega (
      arith,
      sum_zero (due 0) ss (all_map ValidStream (λ s. due 0 s ≡ 0) ss due_zero v),
      sum_zero (blocking ss 0) (below 16) (all_each (λ t. blocking ss 0 t ≡ 0) (below 16) (λ t. blocking_zero ss t v)),
    )

module _ (ss : List Stream) (h : ℕ) (good : All ValidStream ss) (pos : 0 < h) (common : Common h ss) (light : load ss h ≤ h) where
  -- past the last length, a length is late only if the length H before it is
  before_last : (i : ℕ) → last_length ss h < i → demand ss (i - h) ≤ i - h → demand ss i ≤ i
  unfolding last_length
  before_last i far ok =
      let e : i - h + h ≡ i = omega arith in
      omega (arith, demand_more ss h (i - h) good common (omega arith), ap (demand ss) e)

  up_to : ((i : ℕ) → 1 ≤ i → i ≤ last_length ss h → demand ss i ≤ i) → (n i : ℕ) → i ≤ n → demand ss i ≤ i
  up_to tested zero i le =
      let z : i ≡ 0 = omega arith in
      omega (arith, demand_zero ss good, ap (demand ss) z)
  up_to tested (suc n) i le =
      elim (dec_le i (last_length ss h)) [
        | yes near ↦ elim (dec_le 1 i) [ yes one ↦ tested i one near | no none ↦ up_to tested n i (omega arith) ]
        | no far ↦ before_last i (omega arith) (up_to tested n (i - h) (omega arith))
      ]

  -- the lengths that are tested speak of every length
  pub finite : ((i : ℕ) → 1 ≤ i → i ≤ last_length ss h → demand ss i ≤ i) → (i : ℕ) → demand ss i ≤ i
  finite tested i = up_to tested i i (le_refl i)

  -- the least late length is among those tested
  pub least_near : (i : ℕ) → i < demand ss i → ((j : ℕ) → j < i → demand ss j ≤ j) → (1 ≤ i) × (i ≤ last_length ss h)
  least_near i late least = (
    elim (dec_le 1 i) [ yes y ↦ y | no f ↦ absurd (none f) ],
    elim (dec_le i (last_length ss h)) [ yes y ↦ y | no f ↦ absurd (far f) ],
  )
    where
      none : ¬ (1 ≤ i) → ⊥
      none f = let z : i ≡ 0 = omega arith in omega (arith, demand_zero ss good, ap (demand ss) z)

      far : ¬ (i ≤ last_length ss h) → ⊥
      far f = omega (arith, before_last i (omega arith) (least (i - h) (omega arith)))
