-- H from the cycles, one tuple and one stream after the other: every list of valid streams has its H, and antt computes it.
-- Assumes nothing.
use Prim.Native.Nat.{ℕ, ◌*◌, ◌/◌, ◌<◌, ◌∣◌}
use native.Mathlib.Nat.{dvd_refl, dvd_trans, le_of_dvd, one-dvd}
use native.Mathlib.Omega.{arith}
use mathlib.Core.List.{List}
use Rattle.laws.specs.Lists.{All}
use Rattle.laws.specs.Multiples.{IsLcm, LeastWith, joined}
use Rattle.laws.proofs.Sums.{all_map}
use Rattle.laws.proofs.Divide.{gcd_of, gcd_of_lem, lcm_of_gcd, with_joined}
use Rattle.rules.specs.declared.Tuple.{Tuple}
use Rattle.rules.specs.declared.Tuple.TheVariants.{Once, Every}
use Rattle.rules.specs.declared.TuplePlace.{TuplePlace}
use Rattle.rules.specs.declared.Stream.{Stream}
use Rattle.rules.specs.Streams.{tuples_of}
use Rattle.rules.specs.Load.{CycleIn, PlaceIn, CyclesIn, Common, IsH}
use Rattle.rules.specs.Valid.{ValidCycle, ValidPlace, ValidStream}

-- a multiple of a multiple of the cycles is one
cycle_up : (m n : ℕ) (t : Tuple) → m ∣ n → CycleIn m t → CycleIn n t
cycle_up m n (Once a) d c = tt
cycle_up m n (Every z a) d c = dvd_trans z c d

pub place_up : (m n : ℕ) (p : TuplePlace) → m ∣ n → PlaceIn m p → PlaceIn n p
place_up m n p d c = cycle_up m n p.tuple d c

pub cycles_up : (m n : ℕ) (s : Stream) → m ∣ n → CyclesIn m s → CyclesIn n s
cycles_up m n s d c = all_map (PlaceIn m) (PlaceIn n) (tuples_of s) (λ p x. place_up m n p d x) c

-- one tuple more
pub join_once : (h a : ℕ) → 0 < h → LeastWith h (λ m. CycleIn m (Once a)) h
join_once h a p = record { positive = p; old = dvd_refl h; new = tt; least = λ m x y. x }

pub join_every : (h z a r : ℕ) → IsLcm h z r → LeastWith h (λ m. CycleIn m (Every z a)) r
join_every h z a r l = record { positive = l.positive; old = l.left; new = l.right; least = l.least }

-- the least common multiple of all cycles is H
pub least_is_h : (ss : List Stream) (h : ℕ) → LeastWith 1 (λ m. Common m ss) h → IsH ss h
least_is_h ss h l = record { positive = l.positive; common = l.new; least = λ m p c. le_of_dvd p (l.least m (one-dvd m) c) }

-- ---- H, computed

abbrev join_tuple : ℕ → Tuple → ℕ
join_tuple h (Once a) = h
join_tuple h (Every z a) = h / gcd_of h z * z

abbrev join_place : ℕ → TuplePlace → ℕ
join_place h p = join_tuple h p.tuple

abbrev join_stream : ℕ → Stream → ℕ
join_stream h s = joined join_place h (tuples_of s)

unfoldable pub h_of : List Stream → ℕ
h_of ss = joined join_stream 1 ss

join_tuple_lem : (h : ℕ) (t : Tuple) → 0 < h → ValidCycle t → LeastWith h (λ m. CycleIn m t) (join_tuple h t)
join_tuple_lem h (Once a) p v = join_once h a p
join_tuple_lem h (Every z a) p v = join_every h z a (h / gcd_of h z * z) (lcm_of_gcd h z (gcd_of h z) p v.low (gcd_of_lem h z))

join_stream_lem : (h : ℕ) (s : Stream) → 0 < h → ValidStream s → LeastWith h (λ m. CyclesIn m s) (join_stream h s)
join_stream_lem h s p v =
    with_joined PlaceIn place_up ValidPlace join_place (λ n t q y. join_tuple_lem n t.tuple q y.cycle) (tuples_of s) h p v.tuples

-- every list of valid streams has its H
pub h_of_lem : (ss : List Stream) → All ValidStream ss → IsH ss (h_of ss)
unfolding h_of
h_of_lem ss v = least_is_h ss (h_of ss) (with_joined CyclesIn cycles_up ValidStream join_stream join_stream_lem ss 1 (omega arith) v)
