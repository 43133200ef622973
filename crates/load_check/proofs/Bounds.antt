-- How large the numbers of a valid set are: blocking, and what rows add.
-- Assumes nothing.
use Prim.Native.Nat.{ℕ, ◌+◌, ◌-◌, ◌*◌, ◌/◌, ◌≤◌}
use native.Mathlib.Nat.{div-le_self, le_trans, mul-le-mul}
use native.Mathlib.Omega.{arith}
use mathlib.Core.Path.{◌≡◌}
use mathlib.Core.List.{List}
use mathlib.Core.Bool.{Bool, true, false, cond}
use lib.Dec.{leb, lit≤}
use Rattle.std.specs.List.{list_any}
use Rattle.laws.specs.Lists.{below, top, All}
use Rattle.laws.proofs.Sums.{all_map, all_each, sum_le, top_le, cond_le}
use Rattle.rules.specs.declared.Stream.{Stream}
use Rattle.rules.specs.Load.{urgent, blocks_for, blocks, blocking}
use Rattle.rules.proofs.Stages.{blocks_for_fits}
use Rattle.rules.specs.Valid.{ValidStream}
use Rattle.load_check.specs.declared.Row.{Row}
use Rattle.load_check.specs.Dues.{row_due, dues, RowFits, RowsFit}
use Rattle.load_check.specs.Blocked.{blockings_of}

-- ---- blocking

blocks_fit : (t i : ℕ) (s : Stream) → ValidStream s → blocks t i s ≤ 65535
blocks_fit t i s v = other (leb s.deadline i) (blocks_for t s) (omega (arith, blocks_for_fits t s v))
  where
    other : (b : Bool) (n : ℕ) → n ≤ 65535 → cond b 0 n ≤ 65535
    other true n h = omega arith
    other false n h = h

pub blocking_fits : (ss : List Stream) (i t : ℕ) → All ValidStream ss → blocking ss i t ≤ 65535
unfolding blocking
blocking_fits ss i t v =
    cond_le (list_any (urgent t i) ss) (top (blocks t i) ss) 65535 (top_le (blocks t i) 65535 ss (all_map ValidStream (λ s. blocks t i s ≤ 65535) ss (blocks_fit t i) v))

pub blockings_fit : (ss : List Stream) (i n : ℕ) → n ≡ blockings_of ss i → All ValidStream ss → n ≤ 1048560
unfolding blockings_of
blockings_fit ss i n e v =
    rw e
    (le_trans (sum_le (blocking ss i) 65535 (below 16) (all_each (λ t. blocking ss i t ≤ 65535) (below 16) (λ t. blocking_fits ss i t v))) (lit≤ tt))

-- ---- rows

pub row_fits : (i : ℕ) (r : Row) → RowFits r → i ≤ 4294967295 → row_due i r ≤ 1125882726973440
unfolding row_due
row_fits i r h k =
    cond_le (leb r.first i) (r.cost * ((i - r.first) / r.cycle + 1)) 1125882726973440
    (le_trans (mul-le-mul {n₂ = 262140} {m₂ = 4294967296} h.cost (omega (arith, div-le_self (i - r.first) r.cycle))) (lit≤ tt))

pub dues_fit : (rs : List Row) (i : ℕ) → RowsFit rs → i ≤ 4294967295 → dues rs i ≤ 72056494526300160
unfolding dues
dues_fit rs i s k =
    omega (arith, s.room, sum_le (row_due i) 1125882726973440 rs (all_map RowFits (λ r. row_due i r ≤ 1125882726973440) rs (λ r h. row_fits i r h k) s.each))
