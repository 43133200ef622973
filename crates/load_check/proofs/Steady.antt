-- Between two deadlines the blocking stays the same, so that rows with one blocking give the demand of every length there.
-- Assumes nothing.
use Prim.Native.Nat.{ℕ, ◌+◌, ◌≤◌, ◌<◌}
use native.Mathlib.Omega.{arith}
use mathlib.Core.Path.{◌≡◌, ap, ap₂, sym, ◌∙◌}
use mathlib.Core.List.{List}
use mathlib.Core.Bool.{Bool, true, false, cond, ◌&&◌}
use mathlib.Core.Logic.{inl, inr}
use lib.Dec.{leb}
use borrow.Author.Tests.{le-leb, lt-leb}
use Rattle.laws.specs.Lists.{below, All}
use Rattle.laws.proofs.Sums.{all_map, all_each, any_eq, top_eq, sum_eq}
use Rattle.rules.specs.declared.Stream.{Stream}
use Rattle.rules.specs.declared.Set.{Set}
use Rattle.rules.specs.declared.Refusal.TheVariants.{OutOfRule}
use Rattle.std.specs.Prelude.{Ok, Err}
use Rattle.rules.specs.Streams.{streams_of, valid}
use Rattle.rules.specs.Load.{has, urgent, blocks, blocking, demand, demand_of}
use Rattle.load_check.specs.declared.Row.{Row}
use Rattle.load_check.specs.declared.Rows.{Rows}
use Rattle.load_check.specs.Dues.{dues, used, RowsOf}
use Rattle.load_check.specs.Blocked.{blockings_of, blocking_of, ApartFrom}
use Rattle.load_check.specs.Lengths.{rows_with}

-- ---- what stays the same up to it

module _ (i j r : ℕ) (low : i ≤ j) (high : j < r) where
  same_test : (s : Stream) → ApartFrom i r s → leb s.deadline j ≡ leb s.deadline i
  same_test s (inl a) = le-leb s.deadline j (omega arith) ∙ sym (le-leb s.deadline i a)
  same_test s (inr b) = lt-leb s.deadline j (omega arith) ∙ sym (lt-leb s.deadline i (omega arith))

  same_urgent : (t : ℕ) (s : Stream) → ApartFrom i r s → urgent t j s ≡ urgent t i s
  same_urgent t s a = ap (λ (b : Bool). has t s && b) (same_test s a)

  same_blocks : (t : ℕ) (s : Stream) → ApartFrom i r s → blocks t j s ≡ blocks t i s
  same_blocks t s a = rw (same_test s a)

  same_blocking : (ss : List Stream) → All (ApartFrom i r) ss → (t : ℕ) → blocking ss j t ≡ blocking ss i t
  unfolding blocking
  same_blocking ss a t =
      ap₂ (λ (b : Bool) (n : ℕ). cond b n 0)
      (any_eq (urgent t j) (urgent t i) ss (all_map (ApartFrom i r) _ ss (same_urgent t) a))
      (top_eq (blocks t j) (blocks t i) ss (all_map (ApartFrom i r) _ ss (same_blocks t) a))

  same_blockings : (ss : List Stream) → All (ApartFrom i r) ss → blockings_of ss j ≡ blockings_of ss i
  unfolding blockings_of
  same_blockings ss a = sum_eq (blocking ss j) (blocking ss i) (below 16) (all_each _ (below 16) (same_blocking ss a))

  -- rows with the blocking of i give the demand of j
  pub same_demand : (ss : List Stream) (t : Rows) (rs : List Row) (b : ℕ) → All (ApartFrom i r) ss → RowsOf ss t → rs ≡ used t → b ≡ blockings_of ss i → j ≤ 4294967295 → rows_with rs b j ≡ demand ss j
  unfolding demand blockings_of
  same_demand ss t rs b a rows q e h = rw q (omega (arith, rows.say j h, same_blockings ss a))

-- ---- demand as an answer

pub demand_is : (x : Set) (t : Rows) (i a b : ℕ) → valid x ≡ true → RowsOf (streams_of x) t → i ≤ 4294967295 → a ≡ dues (used t) i → b ≡ blockings_of (streams_of x) i
    → Ok (a + b) ≡ demand_of x i
unfolding demand_of demand blockings_of
demand_is x t i a b ok rows h p q = rw ok (ap Ok (omega (arith, rows.say i h)))

pub demand_refused : (x : Set) (i : ℕ) → valid x ≡ false → Err OutOfRule ≡ demand_of x i
unfolding demand_of
demand_refused x i bad = rw bad

-- ---- the blocking of a task as an answer

pub blocking_is : (x : Set) (i t : ℕ) {n : ℕ} → valid x ≡ true → n ≡ blocking (streams_of x) i t → Ok n ≡ blocking_of x i t
unfolding blocking_of
blocking_is x i t ok e = rw ok (ap Ok e)

pub blocking_refused : (x : Set) (i t : ℕ) → valid x ≡ false → Err OutOfRule ≡ blocking_of x i t
unfolding blocking_of
blocking_refused x i t bad = rw bad
