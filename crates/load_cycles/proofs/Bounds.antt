-- How large the numbers of a valid set are: load, greatest deadline and offset.
-- Assumes nothing.
use Prim.Native.Nat.{ℕ, ◌*◌, ◌≤◌, max, min}
use native.Mathlib.Nat.{div-le_self, le_trans, mul-le-mul}
use native.Mathlib.Omega.{arith}
use mathlib.Core.List.{List, []}
use mathlib.Core.Path.{◌≡◌}
use Rattle.std.specs.Ordering.{ord_max, ord_min, nat_cmp}
use Rattle.std.proofs.lemmas.Grind.{common_steps}
use lib.Dec.{lit≤}
use lib.ListN.{length-take}
use Rattle.laws.specs.Lists.{All}
use Rattle.laws.proofs.Sums.{all_map, all_each, sum_le, top_le}
use Rattle.rules.specs.declared.Tuple.{Tuple}
use Rattle.rules.specs.declared.Tuple.TheVariants.{Once, Every}
use Rattle.rules.specs.declared.TuplePlace.{TuplePlace}
use Rattle.rules.specs.declared.Stream.{Stream}
use Rattle.rules.specs.Streams.{tuples_of, offset_at}
use Rattle.rules.specs.Load.{cost_in, rate_of, rate, stream_load, deadline_of, greatest_deadline, stream_offset, greatest_offset}
use Rattle.rules.proofs.Stages.{cost_fits}
use Rattle.rules.specs.Valid.{ValidPlace, ValidStream}

-- what stands at a place past the end of the streams
abbrev pub blank : Stream
blank = record { depth = 0; stages = []; deadline = 0; count = 0; tuples = [] }

-- ---- load

rate_le : (h : ℕ) (t : Tuple) → rate_of h t ≤ h
rate_le h (Once a) = omega arith
rate_le h (Every z a) = div-le_self h z

pub rate_fits : (c h : ℕ) (p : TuplePlace) → c ≤ 262140 → h ≤ 1000000 → rate h c p ≤ 262140000000
rate_fits c h p x y = le_trans (mul-le-mul {n₂ = 262140} {m₂ = 1000000} x (le_trans (rate_le h p.tuple) y)) (lit≤ tt)

pub stream_load_fits : (s : Stream) (h : ℕ) → ValidStream s → h ≤ 1000000 → stream_load h s ≤ 1048560000000
unfolding stream_load
stream_load_fits s h v y =
    omega (
      arith,
      v.count,
      length-take s.count s.tuples,
      sum_le (rate h (cost_in s)) 262140000000 (tuples_of s) (all_each (λ p. rate h (cost_in s) p ≤ 262140000000) (tuples_of s) (λ p. rate_fits (cost_in s) h p (cost_fits s v) y)),
    )

-- ---- the greatest deadline and offset

pub deadlines_fit : (ss : List Stream) → All ValidStream ss → greatest_deadline ss ≤ 200000
unfolding greatest_deadline
deadlines_fit ss v = top_le deadline_of 200000 ss (all_map ValidStream (λ s. s.deadline ≤ 200000) ss (λ s x. x.deadline.high) v)

offset_fits : (s : Stream) → ValidStream s → stream_offset s ≤ 100000
unfolding stream_offset
offset_fits s v = top_le offset_at 100000 (tuples_of s) (all_map ValidPlace (λ p. offset_at p ≤ 100000) (tuples_of s) (λ p x. x.offset) v.tuples)

pub offsets_fit : (ss : List Stream) → All ValidStream ss → greatest_offset ss ≤ 100000
unfolding greatest_offset
offsets_fit ss v = top_le stream_offset 100000 ss (all_map ValidStream (λ s. stream_offset s ≤ 100000) ss offset_fits v)

-- std's `max` and `min` of two numbers
pub ord_max_nat : (a b : ℕ) → ord_max nat_cmp a b ≡ max a b
ord_max_nat a b = grind (arith, common_steps)

pub ord_min_nat : (a b : ℕ) → ord_min nat_cmp a b ≡ min a b
ord_min_nat a b = grind (arith, common_steps)
