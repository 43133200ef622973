-- The tasks that have a started message, as one pass over the messages marks them.
-- Assumes nothing.
use Prim.Native.Nat.{ℕ, ◌+◌, ◌≤◌, ◌<◌}
use mathlib.Core.Bool.{Bool, true, false, cond, ◌&&◌}
use mathlib.Core.List.{List}
use mathlib.Core.Path.{◌≡◌, refl, ap, sym, ◌∙◌}
use native.Mathlib.Omega.{arith}
use native.Mathlib.Numerals.{add-one}
use borrow.Author.Tests.{eqb-true, eqb-false, eq-eqb, ne_eqb, le-leb, lt-leb, ltb-true, lt-ltb}
use lib.Dec.{ltb, eqb}
use lib.ListN.{length, get_or, drop, set, replicate, length-set, get_or-replicate, drop_of_length-le}
use lib.Seq.{get_or-set_same, get_or-set_other, drop-cons}
use Rattle.std.specs.List.{list_all}
use Rattle.laws.specs.Lists.{below, count}
use Rattle.laws.proofs.Sums.{by_test, cond_le}
use Rattle.laws.proofs.Parts.{count_cons, count_none, below_all, below_no}
use Rattle.rules.specs.declared.Set.{Set}
use Rattle.rules.specs.declared.Message.{Message}
use Rattle.rules.specs.States.{no_message, task_of, started_of, started_once}

abbrev one : Bool → ℕ
one b = cond b 1 0

module _ (x : Set) (l : List Message) where
  -- what is marked before k and what is left make the whole
  pub record Counted (k : ℕ) (started : List Bool) : Type 0 where
    pub sixteen : length started ≡ 16
    pub adds : (t : ℕ) → t < 16 → one (get_or started t false) + count (started_of x t) (drop k l) ≡ count (started_of x t) l

  pub counted_start : Counted 0 (replicate 16 false)
  counted_start = record {
    sixteen = refl;
    adds = λ t h. omega (arith, ap one (get_or-replicate {A = Bool} 16 t false false h));
  }

  module _ (k : ℕ) (started : List Bool) (m : Message) (t : ℕ) (inv : Counted k started) (e : m ≡ get_or l k no_message) (e₁ : t ≡ task_of x m) (h : k < length l) where
    -- the message at k is one more of its own task, and of no other
    own : (b : Bool) → ◌≡◌ {A = ℕ} (cond (b && eqb t t) 1 0) (cond b 1 0)
    own true = rw (eq-eqb t t refl)
    own false = refl

    other : (b : Bool) (u : ℕ) → (t ≡ u → ⊥) → ◌≡◌ {A = ℕ} (cond (b && eqb t u) 1 0) 0
    other true u f = rw (ne_eqb t u f)
    other false u f = refl

    left : (u : ℕ) → count (started_of x u) (drop k l) ≡ cond (started_of x u m) 1 0 + count (started_of x u) (drop (k + 1) l)
    left u = rw (drop-cons l k no_message h, ← e, add-one) (count_cons (started_of x u) m _)

    others : (u : ℕ) → (t ≡ u → ⊥) → count (started_of x u) (drop k l) ≡ count (started_of x u) (drop (k + 1) l)
    others u f = left u ∙ rw (← e₁, other (ltb 0 m.used) u f) (omega arith)

    -- it is not started, or its task is not one of the sixteen
    pub counted_past : (0 < m.used → t < 16 → ⊥) → Counted (k + 1) started
    counted_past q = record { sixteen = inv.sixteen; adds = λ u p. omega (arith, inv.adds u p, skipped u p) }
      where
        skipped : (u : ℕ) → u < 16 → count (started_of x u) (drop k l) ≡ count (started_of x u) (drop (k + 1) l)
        skipped u p =
            by_test (ltb 0 m.used)
            (λ y. others u (λ z. q (ltb-true _ _ y) (omega arith)))
            (λ y. left u ∙ rw y (omega arith))

    -- it is started, of one of the sixteen
    module _ (used : 0 < m.used) (t-in : t < 16) where
      mine : count (started_of x t) (drop k l) ≡ 1 + count (started_of x t) (drop (k + 1) l)
      mine = left t ∙ rw (← e₁, own (ltb 0 m.used), lt-ltb 0 m.used used)

      pub counted_go : get_or started t false ≡ false → Counted (k + 1) (set started t true)
      counted_go q = record {
        sixteen = simp length-set inv.sixteen;
        adds = λ u p. by_test (eqb t u)
            (λ y. rw (← eqb-true t u y, get_or-set_same started t true false (omega (arith, inv.sixteen))) (omega (arith, rw q at (inv.adds t t-in), mine)))
            (λ y. rw (get_or-set_other started t u true false (λ z. eqb-false t u y (sym z))) (omega (arith, inv.adds u p, others u (eqb-false t u y))));
      }

      pub counted_no : get_or started t false ≡ true → list_all (started_once x l) (below 16) ≡ false
      unfolding started_once
      counted_no q = sym (below_no (started_once x l) 16 t t-in (lt-leb (count (started_of x t) l) 1 (omega (arith, rw q at (inv.adds t t-in), mine))))

  pub counted_end : (k : ℕ) (started : List Bool) → Counted k started → length l ≤ k → list_all (started_once x l) (below 16) ≡ true
  unfolding started_once
  counted_end k started inv h =
      below_all (started_once x l) 16 (λ t q.
      le-leb (count (started_of x t) l) 1
      (omega (arith, inv.adds t q, cond_le (get_or started t false) 1 1 (omega arith), ap (count (started_of x t)) (drop_of_length-le l {i = k} h), count_none (started_of x t))))
