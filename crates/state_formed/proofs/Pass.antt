-- The pass over the pending messages: what holds before the place k, and what each turn of the loop finds.
-- Assumes nothing.
use Prim.Native.Nat.{ℕ, ◌+◌, ◌≤◌, ◌<◌}
use native.Mathlib.Numerals.{add-one}
use mathlib.Core.Bool.{Bool, true, false, cond}
use mathlib.Core.List.{List}
use mathlib.Core.Path.{◌≡◌, refl, ap, sym}
use lib.ListN.{length, get_or, drop, set, replicate, drop_of_length-le}
use lib.Seq.{drop-cons}
use Rattle.std.specs.Prelude.{Option, Some, None, Result, Ok, Err}
use Rattle.std.specs.Result.{result_ok}
use Rattle.laws.specs.Lists.{scan}
use Rattle.laws.proofs.Sums.{and_no}
use Rattle.rules.specs.declared.Set.{Set}
use Rattle.rules.specs.declared.Message.{Message}
use Rattle.rules.specs.States.{no_message, task_of, posted_at, message_ok, messages_ok}
use Rattle.state_formed.specs.InRange.{messages_pass}
use Rattle.state_formed.proofs.Counted.{Counted, counted_start, counted_past, counted_go, counted_no, counted_end}

-- the messages before k have passed: what is left to test comes to the same as the whole
pub record Pass (x : Set) (clock : ℕ) (l : List Message) (k before : ℕ) (started : List Bool) : Type 0 where
  pub left : scan (message_ok x clock) (posted_at x) before (drop k l) ≡ messages_ok x clock l
  pub counted : Counted x l k started

-- what is told as a value where a test passes, and else as none
pub told_none : {A : Type 0} (b : Bool) (v : A) → None ≡ cond b (Some v) None → b ≡ false
told_none true v e = absurd (let z : ⊥ = cc in z)
told_none false v e = refl

pub told_some : {A : Type 0} (b : Bool) (w v : A) → Some w ≡ cond b (Some v) None → (b ≡ true) × (w ≡ v)
told_some true w v e = (refl, cc)
told_some false w v e = absurd (let z : ⊥ = cc in z)

-- the same of a value that is told in either case
pub kept_none : {A : Type 0} (b : Bool) (v : A) → None ≡ result_ok (cond b (Ok v) (Err v)) → b ≡ false
kept_none true v e = absurd (let z : ⊥ = cc in z)
kept_none false v e = refl

pub kept_some : {A : Type 0} (b : Bool) (w v : A) → Some w ≡ result_ok (cond b (Ok v) (Err v)) → (b ≡ true) × (w ≡ v)
kept_some true w v e = (refl, cc)
kept_some false w v e = absurd (let z : ⊥ = cc in z)

pub pass_start : (x : Set) (clock : ℕ) (l : List Message) → Pass x clock l 0 0 (replicate 16 false)
unfolding messages_ok
pass_start x clock l = record { left = refl; counted = counted_start x l }

module _ (x : Set) (clock : ℕ) (l : List Message) (k before : ℕ) (started : List Bool) (inv : Pass x clock l k before started) (h : k < length l) where
  -- the message at k, and what is told of it
  abbrev m : Message
  m = get_or l k no_message

  abbrev told : Option (ℕ × ℕ)
  told = cond (message_ok x clock before m) (Some (posted_at x m, task_of x m)) None

  pub pass_no : None ≡ told → false ≡ messages_pass x clock l
  unfolding scan messages_pass
  pass_no e =
      let f : false ≡ messages_ok x clock l = rw (drop-cons l k no_message h, told_none (message_ok x clock before m) _ e) at inv.left in
      rw (← f)

  module _ (at t : ℕ) (e : Some (at, t) ≡ told) where
    yes : (message_ok x clock before m ≡ true) × (◌≡◌ {A = ℕ × ℕ} (at, t) (posted_at x m, task_of x m))
    yes = told_some (message_ok x clock before m) _ _ e

    task : t ≡ task_of x m
    task = ap (λ (y : ℕ × ℕ). y.1) yes.1

    next : (s : List Bool) → Counted x l (k + 1) s → Pass x clock l (k + 1) at s
    unfolding scan
    next s c =
        let posted : at ≡ posted_at x m = ap (λ (y : ℕ × ℕ). y.0) yes.1 in
        record { left = rw (posted, add-one) (rw (drop-cons l k no_message h, yes.0) at inv.left); counted = c }

    pub pass_past : (0 < m.used → t < 16 → ⊥) → Pass x clock l (k + 1) at started
    pass_past q = next started (counted_past x l k started m t inv.counted refl task h q)

    pub pass_go : 0 < m.used → t < 16 → get_or started t false ≡ false → Pass x clock l (k + 1) at (set started t true)
    pass_go u q f = next (set started t true) (counted_go x l k started m t inv.counted refl task h u q f)

    pub pass_twice : 0 < m.used → t < 16 → get_or started t false ≡ true → false ≡ messages_pass x clock l
    unfolding messages_pass
    pass_twice u q f = sym (and_no (messages_ok x clock l) _ (counted_no x l k started m t inv.counted refl task h u q f))

pub pass_end : (x : Set) (clock : ℕ) (l : List Message) (k before : ℕ) (started : List Bool) → Pass x clock l k before started → length l ≤ k → true ≡ messages_pass x clock l
unfolding scan messages_pass
pass_end x clock l k before started inv h =
    let f : true ≡ messages_ok x clock l = rw (drop_of_length-le l {i = k} h) at inv.left in
    rw (← f, counted_end x l k started inv.counted h)
