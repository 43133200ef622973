-- The parts of a demand together are the demand.
-- Assumes nothing.
use Prim.Native.Nat.{ℕ, zero, suc, ◌+◌, ◌-◌, ◌*◌, ◌≤◌, ◌<◌}
use native.Mathlib.Omega.{arith}
use native.Mathlib.Numerals.{add-one}
use mathlib.Core.Bool.{Bool, true, false, cond}
use mathlib.Core.List.{[], ◌∷◌}
use mathlib.Core.Path.{◌≡◌, refl, ap, sym, ◌∙◌}
use lib.ListN.{length, take}
use lib.Dec.{leb, eqb}
use borrow.Author.Tests.{lt-ltb, le-ltb, eqb-true}
use Rattle.laws.specs.Lists.{below, sum}
use Rattle.laws.proofs.Sums.{all_each, sum_append, sum_take, sum_eq}
use Rattle.rules.specs.declared.Stream.{Stream}
use Rattle.rules.specs.declared.Set.{Set}
use Rattle.std.specs.Prelude.{Option, Some, None, Ok}
use Rattle.rules.specs.Streams.{no_stream, streams_of, stream_at, limit, valid}
use Rattle.rules.specs.Load.{cost_in, due, blocking, demand}
use Rattle.rules.proofs.Valid.{valid_set}
use Rattle.load_check.specs.Blocked.{blocking_of}
use Rattle.load_parts.specs.declared.Part.{Part}
use Rattle.load_parts.specs.declared.Part.TheVariants.{Due, Blocks}
use Rattle.load_parts.specs.Parts.{due_part, stream_part, block_part, task_part, first_of, parts_of, amount, PartsAddUp}

-- the amounts of parts in order
sum_first : (f : ℕ → Option Part) (n : ℕ) → sum amount (first_of f n) ≡ sum (λ k. amount (f k)) (below n)
unfolding first_of sum
sum_first f zero = refl
sum_first f (suc n) = omega (arith, sum_append amount (first_of f n) (f n ∷ []), sum_first f n)

-- ---- the streams

due_adds : (i k : ℕ) (s : Stream) → amount (due_part i k s) ≡ due i s
unfolding due_part due
due_adds i k s = go (leb s.deadline i)
  where
    go : (b : Bool) → amount (cond b (Some (Due k (cost_in s) (limit s (i - s.deadline)))) None) ≡ cond b (cost_in s * limit s (i - s.deadline)) 0
    go true = refl
    go false = refl

module _ (x : Set) (i : ℕ) (places : length x.streams ≡ 16) (ok : valid x ≡ true) where
  abbrev stream_amount : ℕ → ℕ
  stream_amount k = amount (stream_part x i k)

  in_set : (k : ℕ) → k < x.count → stream_amount k ≡ due i (stream_at x k)
  unfolding stream_part
  in_set k h = rw (ok, lt-ltb k x.count h) (due_adds i k (stream_at x k))

  not_in_set : (k : ℕ) → x.count ≤ k → stream_amount k ≡ 0
  unfolding stream_part
  not_in_set k h = rw (ok, le-ltb k x.count h)

  front : (n : ℕ) → n ≤ x.count → n ≤ 16 → sum stream_amount (below n) ≡ sum (due i) (take n x.streams)
  unfolding sum
  front zero h l = refl
  front (suc n) h l =
      omega (
        arith,
        front n (omega arith) (omega arith),
        in_set n (omega arith),
        ap (λ (m : ℕ). sum (due i) (take m x.streams)) (add-one n),
        sum_take (due i) x.streams n no_stream (omega arith),
      )

  behind : (n m : ℕ) → x.count ≤ n → sum stream_amount (below (m + n)) ≡ sum stream_amount (below n)
  unfolding sum
  behind n zero h = ap (λ (k : ℕ). sum stream_amount (below k)) (let e : 0 + n ≡ n = omega arith in e)
  behind n (suc m) h =
      omega (
        arith,
        ap (λ (k : ℕ). sum stream_amount (below k)) (let e : suc m + n ≡ suc (m + n) = omega arith in e),
        behind n m h,
        not_in_set (m + n) (omega arith),
      )

  streams_add : sum amount (first_of (stream_part x i) 16) ≡ sum (due i) (streams_of x)
  streams_add =
      let few : x.count ≤ 16 = (valid_set x ok).count in
      let all : 16 - x.count + x.count ≡ 16 = omega arith in
      sum_first (stream_part x i) 16 ∙ ap (λ (n : ℕ). sum stream_amount (below n)) (sym all) ∙ behind x.count (16 - x.count) (omega arith)
      ∙ front x.count (omega arith) few

  -- ---- the tasks

  block_adds : (t b : ℕ) → amount (block_part t (Ok b)) ≡ b
  block_adds t b = go (eqb b 0) refl
    where
      go : (z : Bool) → eqb b 0 ≡ z → amount (cond z None (Some (Blocks t b))) ≡ b
      go true e = sym (eqb-true b 0 e)
      go false e = refl

  task_adds : (t : ℕ) → amount (task_part x i t) ≡ blocking (streams_of x) i t
  unfolding task_part blocking_of
  task_adds t = rw ok (block_adds t (blocking (streams_of x) i t))

  tasks_add : sum amount (first_of (task_part x i) 16) ≡ sum (blocking (streams_of x) i) (below 16)
  tasks_add = sum_first (task_part x i) 16 ∙ sum_eq (λ t. amount (task_part x i t)) (blocking (streams_of x) i) (below 16) (all_each _ (below 16) task_adds)

pub parts_add_up : PartsAddUp
unfolding parts_of demand
parts_add_up x i places ok =
    omega (
      arith,
      sum_append amount (first_of (stream_part x i) 16) (first_of (task_part x i) 16),
      streams_add x i places ok,
      tasks_add x i places ok,
    )
