-- From what testing the lengths finds to the verdict, and to what is found of a set's lengths.
-- Assumes nothing.
use Prim.Native.Nat.{ℕ}
use native.Mathlib.Omega.{arith}
use mathlib.Core.Path.{◌≡◌, refl, ap, ap₂, subst, sym, ◌∙◌}
use mathlib.Core.Bool.{Bool, true, false}
use Rattle.std.specs.Prelude.{Option, Some, None, Result, Ok, Err}
use Rattle.rules.specs.declared.Set.{Set}
use Rattle.rules.specs.declared.Refusal.{Refusal}
use Rattle.rules.specs.declared.Refusal.TheVariants.{OutOfRule}
use Rattle.rules.specs.declared.Verdict.TheVariants.{Accept, Late}
use Rattle.rules.specs.Streams.{streams_of, valid}
use Rattle.rules.specs.Load.{demand, VerdictOf}
use Rattle.rules.proofs.Resumed.{fall_verdict, same_first}
use Rattle.load_cycles.specs.Openings.{UpTo}
use Rattle.load_check.specs.Lengths.{TestedBy, Ranged, FoundIf, FoundOf}

-- the lengths up to the end were tested
pub verdict_clear : (x : Set) (e : ℕ) → UpTo x e → Ranged (streams_of x) 1 e None → VerdictOf x Accept
verdict_clear x e g r = fall_verdict x g.last Accept g.lengths (subst (λ (n : ℕ). Ranged (streams_of x) 1 n None) g.end r)

pub verdict_late : (x : Set) (e i w : ℕ) → UpTo x e → Ranged (streams_of x) 1 e (Some (i, w)) → VerdictOf x (Late i w)
verdict_late x e i w g r = fall_verdict x g.last (Late i w) g.lengths (subst (λ (n : ℕ). Ranged (streams_of x) 1 n (Some (i, w))) g.end r)

-- ---- what is found of a set's lengths

pub found_is : (x : Set) (a e : ℕ) (r : Option (ℕ × ℕ)) → valid x ≡ true → Ranged (streams_of x) a e r → FoundOf x a e (Ok r)
unfolding FoundOf
found_is x a e r ok t = rw ok t

pub found_refused : (x : Set) (a e : ℕ) → valid x ≡ false → FoundOf x a e (Err OutOfRule)
unfolding FoundOf
found_refused x a e bad = rw bad refl

tested_once : (f : ℕ → ℕ) (a e : ℕ) (r s : Option (ℕ × ℕ)) → TestedBy f a e r → TestedBy f a e s → r ≡ s
tested_once f a e None None p q = refl
tested_once f a e None (Some (j, u)) p q = absurd (omega (arith, p j q.from q.before, q.above))
tested_once f a e (Some (i, w)) None p q = absurd (omega (arith, q i p.from p.before, p.above))
tested_once f a e (Some (i, w)) (Some (j, u)) p q =
    let same : i ≡ j = same_first f a e e i j w u p q in
    ap₂ (λ (n m : ℕ). Some (n, m)) same (p.that ∙ ap f same ∙ sym q.that)

-- two findings allowed for one input are the same
pub found_unique : (x : Set) (a e : ℕ) (r s : Result (Option (ℕ × ℕ)) Refusal) → FoundOf x a e r → FoundOf x a e s → r ≡ s
unfolding FoundOf
found_unique x a e r s p q = go (valid x) r s p q
  where
    go : (ok : Bool) (r s : Result (Option (ℕ × ℕ)) Refusal) → FoundIf ok (streams_of x) a e r → FoundIf ok (streams_of x) a e s → r ≡ s
    go true (Ok r) (Ok s) p q = ap Ok (tested_once (demand (streams_of x)) a e r s p q)
    go true (Ok r) (Err why) p q = absurd q
    go true (Err why) s p q = absurd p
    go false r s p q = p ∙ sym q
