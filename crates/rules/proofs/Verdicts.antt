-- One answer for one input: results that are equal to a definition, H, and the verdict of a set.
-- Assumes nothing.
use Prim.Native.Nat.{ℕ, ◌≤◌, ◌<◌}
use native.Mathlib.Nat.{le_antisymm}
use native.Mathlib.Omega.{arith}
use native.Mathlib.Decide.{dec_lt}
use mathlib.Core.Path.{◌≡◌, refl, ap, ap₂, subst, sym, ◌∙◌}
use mathlib.Core.List.{List}
use mathlib.Core.Bool.{Bool, true, false}
use Rattle.rules.specs.declared.Stream.{Stream}
use Rattle.rules.specs.declared.Set.{Set}
use Rattle.rules.specs.declared.Verdict.{Verdict}
use Rattle.rules.specs.declared.Verdict.TheVariants.{Accept, Late, Overload, Refused}
use Rattle.rules.specs.Streams.{streams_of, valid}
use Rattle.rules.specs.Load.{demand, IsH, Judged, VerdictIf, VerdictOf, JudgedByH}

-- A contract that says `r ≡ f x` allows one result: so it is of every public function but the verdict, whose theorem is below.
pub one_answer {ℓ} : {A : Type ℓ} {r s f : A} → r ≡ f → s ≡ f → r ≡ s
one_answer p q = p ∙ sym q

pub h_unique : (ss : List Stream) (h k : ℕ) → IsH ss h → IsH ss k → h ≡ k
h_unique ss h k a b = le_antisymm (a.least k b.positive b.common) (b.least h a.positive a.common)

-- the least late length is one number
same_least : (ss : List Stream) (i j : ℕ) → i < demand ss i → ((k : ℕ) → k < i → demand ss k ≤ k)
    → j < demand ss j → ((k : ℕ) → k < j → demand ss k ≤ k) → i ≡ j
same_least ss i j a b c d =
    elim (dec_lt i j) [ yes y ↦ absurd (one y) | no f ↦ elim (dec_lt j i) [ yes y ↦ absurd (two y) | no g ↦ omega arith ] ]
  where
    one : i < j → ⊥
    one y = omega (arith, d i y)

    two : j < i → ⊥
    two y = omega (arith, b j y)

judged_unique : (ss : List Stream) (h : ℕ) (v w : Verdict) → Judged ss h v → Judged ss h w → v ≡ w
judged_unique ss h Accept Accept a b = refl
judged_unique ss h Accept (Late i w) a b = absurd (omega (arith, a.fits i))
judged_unique ss h Accept Overload a b = absurd (omega arith)
judged_unique ss h Accept (Refused n) a b = absurd (omega arith)
judged_unique ss h (Late i w) Accept a b = absurd (omega (arith, b.fits i))
judged_unique ss h (Late i w) (Late j x) a b =
    let e : i ≡ j = same_least ss i j a.above a.least b.above b.least in
    ap₂ Late e (a.that ∙ ap (demand ss) e ∙ sym b.that)
judged_unique ss h (Late i w) Overload a b = absurd (omega arith)
judged_unique ss h (Late i w) (Refused n) a b = absurd (omega arith)
judged_unique ss h Overload Accept a b = absurd (omega arith)
judged_unique ss h Overload (Late i w) a b = absurd (omega arith)
judged_unique ss h Overload Overload a b = refl
judged_unique ss h Overload (Refused n) a b = absurd (omega arith)
judged_unique ss h (Refused n) Accept a b = absurd (omega arith)
judged_unique ss h (Refused n) (Late i w) a b = absurd (omega arith)
judged_unique ss h (Refused n) Overload a b = absurd (omega arith)
judged_unique ss h (Refused n) (Refused m) a b = ap Refused (a.number ∙ sym b.number)

by_h_unique : (ss : List Stream) (v w : Verdict) → JudgedByH ss v → JudgedByH ss w → v ≡ w
by_h_unique ss v w a b =
    judged_unique ss b.h v w (subst (λ (h : ℕ). Judged ss h v) (h_unique ss a.h b.h a.is_h b.is_h) a.judged) b.judged

-- two verdicts allowed for one set are the same
pub verdict_unique : (x : Set) (v w : Verdict) → VerdictOf x v → VerdictOf x w → v ≡ w
unfolding VerdictOf
verdict_unique x v w a b = go (valid x) a b
  where
    go : (ok : Bool) → VerdictIf ok (streams_of x) v → VerdictIf ok (streams_of x) w → v ≡ w
    go true a b = by_h_unique (streams_of x) v w a b
    go false a b = a ∙ sym b
