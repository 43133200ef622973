-- From what testing shows to the verdict, and a verdict that antt computes.
-- Assumes nothing.
use Prim.Native.Nat.{ℕ, zero, suc, ◌+◌, ◌≤◌, ◌<◌}
use native.Mathlib.Omega.{arith}
use native.Mathlib.Decide.{dec_lt}
use mathlib.Core.Path.{◌≡◌, refl, ap, subst}
use mathlib.Core.List.{List}
use mathlib.Core.Bool.{Bool, true, false, cond}
use lib.Dec.{leb}
use borrow.Author.Tests.{leb-true, leb-false}
use Rattle.laws.specs.Lists.{All}
use Rattle.rules.specs.declared.Stream.{Stream}
use Rattle.rules.specs.declared.Set.{Set}
use Rattle.rules.specs.declared.Refusal.TheVariants.{OutOfRule, LongCycles}
use Rattle.rules.specs.declared.Verdict.{Verdict}
use Rattle.rules.specs.declared.Verdict.TheVariants.{Accept, Late, Overload, Refused}
use Rattle.rules.specs.Streams.{streams_of, valid}
use Rattle.rules.specs.Load.{Common, IsH, load, demand, last_length, longest_h, Opens, JudgedByH, VerdictIf, VerdictOf}
use Rattle.rules.specs.Valid.{ValidStream}
use Rattle.rules.proofs.Valid.{valid_set}
use Rattle.rules.proofs.Finite.{demand_zero, finite}
use Rattle.rules.proofs.Cycles.{h_of, h_of_lem}

-- ---- what testing shows

-- no length below e is late
abbrev pub Fits : List Stream → ℕ → Type 0
Fits ss e = (j : ℕ) → j < e → demand ss j ≤ j

pub fits_one : (ss : List Stream) → All ValidStream ss → Fits ss 1
fits_one ss v j h = let z : j ≡ 0 = omega arith in omega (arith, demand_zero ss v, ap (demand ss) z)

pub fits_more : (ss : List Stream) (i : ℕ) → Fits ss i → demand ss i ≤ i → Fits ss (i + 1)
fits_more ss i f p j y =
    elim (dec_lt j i) [ yes z ↦ f j z | no n ↦ subst (λ (k : ℕ). demand ss k ≤ k) (same n) p ]
  where
    same : ¬ (j < i) → i ≡ j
    same n = omega arith

module _ (ss : List Stream) (h : ℕ) (o : Opens ss h) where
  pub accepts : Fits ss (last_length ss h + 1) → JudgedByH ss Accept
  accepts f =
      record {
        h = h;
        is_h = o.is_h;
        judged = record {
          short = o.short;
          light = o.light;
          fits = finite ss h o.streams o.is_h.positive o.is_h.common o.light (λ i p q. f i (omega arith));
        };
      }

  pub is_late : (i : ℕ) → Fits ss i → i < demand ss i → JudgedByH ss (Late i (demand ss i))
  is_late i f above =
      record { h = h; is_h = o.is_h; judged = record { short = o.short; light = o.light; that = refl; above = omega arith; least = f } }

pub overloads : (ss : List Stream) (h : ℕ) → IsH ss h → h ≤ longest_h → h < load ss h → JudgedByH ss Overload
overloads ss h y le heavy = record { h = h; is_h = y; judged = record { short = le; heavy = omega arith } }

pub too_long : (ss : List Stream) → All ValidStream ss → ((m : ℕ) → 0 < m → Common m ss → longest_h < m) → JudgedByH ss (Refused LongCycles)
too_long ss v f =
    let y : IsH ss (h_of ss) = h_of_lem ss v in
    record { h = h_of ss; is_h = y; judged = record { number = refl; long = f (h_of ss) y.positive y.common } }

-- ---- a verdict that antt computes

-- the first late one of n lengths from i on
unfoldable pub judge_from : List Stream → ℕ → ℕ → Verdict
judge_from ss zero i = Accept
judge_from ss (suc n) i = cond (leb (demand ss i) i) (judge_from ss n (suc i)) (Late i (demand ss i))

unfoldable pub judge_by : List Stream → ℕ → Verdict
judge_by ss h =
    cond (leb h longest_h) (cond (leb (load ss h) h) (judge_from ss (last_length ss h) 1) Overload) (Refused LongCycles)

unfoldable pub judge : Set → Verdict
judge x = cond (valid x) (judge_by (streams_of x) (h_of (streams_of x))) (Refused OutOfRule)

judge_from_lem : (ss : List Stream) (h : ℕ) → Opens ss h → (n i : ℕ) → i + n ≡ last_length ss h + 1 → Fits ss i → JudgedByH ss (judge_from ss n i)
unfolding judge_from
judge_from_lem ss h o zero i e f = accepts ss h o (λ j p. f j (omega arith))
judge_from_lem ss h o (suc n) i e f =
    go (leb (demand ss i) i) refl (λ le. judge_from_lem ss h o n (suc i) (omega arith) (λ j p. fits_more ss i f le j (omega arith)))
  where
    go : (b : Bool) → leb (demand ss i) i ≡ b → (demand ss i ≤ i → JudgedByH ss (judge_from ss n (suc i)))
        → JudgedByH ss (cond b (judge_from ss n (suc i)) (Late i (demand ss i)))
    go true q r = r (leb-true _ _ q)
    go false q r = is_late ss h o i f (leb-false _ _ q)

judge_light : (ss : List Stream) (h : ℕ) → All ValidStream ss → IsH ss h → h ≤ longest_h → (b : Bool) → leb (load ss h) h ≡ b
    → JudgedByH ss (cond b (judge_from ss (last_length ss h) 1) Overload)
judge_light ss h v y le true e =
    judge_from_lem ss h (record { streams = v; is_h = y; short = le; light = leb-true _ _ e }) (last_length ss h) 1 (omega arith) (fits_one ss v)
judge_light ss h v y le false e = overloads ss h y le (leb-false _ _ e)

judge_by_lem : (ss : List Stream) (h : ℕ) → All ValidStream ss → IsH ss h → JudgedByH ss (judge_by ss h)
unfolding judge_by
judge_by_lem ss h v y = go (leb h longest_h) refl
  where
    go : (b : Bool) → leb h longest_h ≡ b
        → JudgedByH ss (cond b (cond (leb (load ss h) h) (judge_from ss (last_length ss h) 1) Overload) (Refused LongCycles))
    go true e = judge_light ss h v y (leb-true _ _ e) (leb (load ss h) h) refl
    go false e = record { h = h; is_h = y; judged = record { number = refl; long = leb-false _ _ e } }

-- the computed verdict is the verdict
pub judge_right : (x : Set) → VerdictOf x (judge x)
unfolding VerdictOf judge
judge_right x = go (valid x) (λ e. judge_by_lem (streams_of x) (h_of (streams_of x)) (valid_set x e).streams (h_of_lem (streams_of x) (valid_set x e).streams))
  where
    go : (b : Bool) → (b ≡ true → JudgedByH (streams_of x) (judge_by (streams_of x) (h_of (streams_of x))))
        → VerdictIf b (streams_of x) (cond b (judge_by (streams_of x) (h_of (streams_of x))) (Refused OutOfRule))
    go true f = f refl
    go false f = refl
