-- The waits keep their rules: at the start, after an accepted post, and after a unit. Assumes nothing.
use Prim.Native.Nat.{ℕ, ◌≤◌, ◌<◌}
use mathlib.Core.Bool.{true, false}
use mathlib.Core.List.{List}
use mathlib.Core.Path.{◌≡◌}
use native.Mathlib.Omega.{arith}
use borrow.Author.Tests.{leb-true, le-leb, eqb-true, eqb-false}
use lib.Dec.{eqb}
use lib.ListN.{length, get_or, set, replicate, get_or-replicate}
use lib.Seq.{get_or-set_same, get_or-set_other}
use Rattle.std.specs.List.{list_all}
use Rattle.laws.specs.Lists.{below}
use Rattle.laws.proofs.Sums.{by_test}
use Rattle.laws.proofs.Parts.{below_all, below_at}
use Rattle.rules.specs.declared.Set.{Set}
use Rattle.rules.specs.Streams.{stream_at}
use Rattle.rules.specs.Doors.{door_of, shut, wait_after, waits_later, most_wait}
use Rattle.rules.specs.States.{wait_ok}
use Rattle.rules.proofs.Waits.{later_at, after_keeps, later_keeps}

module _ (x : Set) where
  -- no wait is above what its stream's door allows
  pub Waits : List ℕ → Type 0
  Waits ws = (j : ℕ) → j < 16 → get_or ws j 0 ≤ most_wait (door_of (stream_at x j))

  pub waits : (ws : List ℕ) → list_all (wait_ok x ws) (below 16) ≡ true → Waits ws
  unfolding wait_ok Waits
  waits ws e j h = leb-true _ _ (below_at (wait_ok x ws) 16 j e h)

  pub waits_ok : (ws : List ℕ) → Waits ws → list_all (wait_ok x ws) (below 16) ≡ true
  unfolding wait_ok Waits
  waits_ok ws w = below_all (wait_ok x ws) 16 (λ j h. le-leb _ _ (w j h))

  pub waits_none : Waits (replicate 16 0)
  unfolding Waits
  waits_none j h = omega (arith, get_or-replicate {A = ℕ} 16 j 0 0 h)

  pub waits_after : (ws : List ℕ) (k : ℕ) → length ws ≡ 16 → k < 16 → shut (door_of (stream_at x k)) (get_or ws k 0) ≡ false → Waits ws
      → Waits (set ws k (wait_after (door_of (stream_at x k)) (get_or ws k 0)))
  unfolding Waits
  waits_after ws k l h e w j q =
      by_test (eqb j k)
      (λ y. rw (eqb-true j k y, get_or-set_same ws k (wait_after (door_of (stream_at x k)) (get_or ws k 0)) 0 (omega arith)) (after_keeps (door_of (stream_at x k)) (get_or ws k 0) (w k h) e))
      (λ y. rw (get_or-set_other ws k j (wait_after (door_of (stream_at x k)) (get_or ws k 0)) 0 (eqb-false j k y)) (w j q))

  pub waits_later_lem : (ws : List ℕ) → Waits ws → Waits (waits_later x.streams ws)
  unfolding Waits
  waits_later_lem ws w j q = rw (later_at x.streams ws j) (later_keeps (door_of (stream_at x j)) (get_or ws j 0) (w j q))
