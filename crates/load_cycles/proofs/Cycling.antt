-- Cycles that are joined one after the other, and H as an answer: it is one number or one refusal.
-- Assumes nothing.
use Prim.Native.Nat.{ℕ, ◌+◌, ◌*◌, ◌/◌, ◌≤◌, ◌<◌, ◌∣◌}
use native.Mathlib.Nat.{one-dvd}
use native.Mathlib.Omega.{arith}
use mathlib.Core.Path.{◌≡◌, refl, ap, subst, sym, ◌∙◌}
use mathlib.Core.List.{List}
use mathlib.Core.Bool.{Bool, true, false}
use lib.ListN.{length, get_or, take}
use Rattle.laws.specs.Lists.{All}
use Rattle.laws.specs.Multiples.{IsGcd, LeastWith}
use Rattle.laws.proofs.Divide.{lcm_of_gcd, with_none, with_more, with_above, least_above}
use Rattle.rules.specs.declared.Tuple.TheVariants.{Once, Every}
use Rattle.rules.specs.declared.Stream.{Stream}
use Rattle.rules.specs.declared.Set.{Set}
use Rattle.std.specs.Prelude.{Some, None, Result, Ok, Err}
use Rattle.rules.specs.declared.Refusal.{Refusal}
use Rattle.rules.specs.declared.Refusal.TheVariants.{OutOfRule, LongCycles}
use Rattle.rules.specs.Streams.{streams_of, valid}
use Rattle.rules.specs.Load.{IsH}
use Rattle.rules.specs.Valid.{Between, ValidStream}
use Rattle.rules.proofs.Valid.{valid_set}
use Rattle.rules.proofs.Cycles.{join_every, join_once, least_is_h, h_of, h_of_lem}
use Rattle.rules.proofs.Verdicts.{h_unique}
use Rattle.load_cycles.specs.Cycles.{CycleOf, CommonOf, JoinedBy, ShortH, LongH, HBy, HIf, HOf}

-- ---- one cycle more

lcm_joins : (h z a g : ℕ) → Between 1 h 1000000 → Between 1 z 1000000 → IsGcd h z g → LeastWith h (CycleOf (Every z a)) (h / g * z)
lcm_joins h z a g bh bz d = join_every h z a (h / g * z) (lcm_of_gcd h z g bh.low bz.low d)

pub cycle_is : (h z a g r : ℕ) → Between 1 h 1000000 → Between 1 z 1000000 → IsGcd h z g → r ≡ h / g * z → r ≤ 1000000 → JoinedBy h (CycleOf (Every z a)) (Some r)
cycle_is h z a g r bh bz d e le = (subst (LeastWith h (CycleOf (Every z a))) (sym e) (lcm_joins h z a g bh bz d), le)

pub cycle_above : (h z a g r : ℕ) → Between 1 h 1000000 → Between 1 z 1000000 → IsGcd h z g → r ≡ h / g * z → 1000000 < r → JoinedBy h (CycleOf (Every z a)) None
cycle_above h z a g r bh bz d e big =
    least_above 1000000 h (CycleOf (Every z a)) r (subst (LeastWith h (CycleOf (Every z a))) (sym e) (lcm_joins h z a g bh bz d)) big

pub once_is : (h a : ℕ) → Between 1 h 1000000 → JoinedBy h (CycleOf (Once a)) (Some h)
once_is h a b = (join_once h a b.low, b.high)

-- ---- along a list: C m x says that m is a multiple of the cycles of x

module _ {A : Type 0} (C : ℕ → A → Type 0) where
  -- the least common multiple of h and of the first j elements, not above 1,000,000
  pub record SoFar (h : ℕ) (xs : List A) (j r : ℕ) : Type 0 where
    pub least : LeastWith h (λ m. All (C m) (take j xs)) r
    pub range : Between 1 r 1000000

  pub so_far : (h : ℕ) (xs : List A) → Between 1 h 1000000 → SoFar h xs 0 h
  so_far h xs b = record { least = with_none C h b.low; range = b }

  pub so_far_more : ((m n : ℕ) (x : A) → m ∣ n → C m x → C n x) → (h : ℕ) (xs : List A) (j r s : ℕ) (d : A) → j < length xs
      → SoFar h xs j r → JoinedBy r (λ m. C m (get_or xs j d)) (Some s) → SoFar h xs (j + 1) s
  so_far_more up h xs j r s d k a b =
      record { least = with_more C up xs j d k h r s a.least b.0; range = record { low = omega (arith, b.0.positive); high = b.1 } }

-- ---- H

pub h_short : (ss : List Stream) (h : ℕ) → JoinedBy 1 (CommonOf ss) (Some h) → ShortH ss h
h_short ss h j = record { is_h = least_is_h ss h j.0; short = j.1 }

pub h_long : (ss : List Stream) → All ValidStream ss → JoinedBy 1 (CommonOf ss) None → LongH ss LongCycles
h_long ss v j =
    let y : IsH ss (h_of ss) = h_of_lem ss v in
    record { number = refl; h = h_of ss; is_h = y; long = j (h_of ss) y.positive (one-dvd (h_of ss)) y.common }

-- the answers that `h_of` gives
pub h_is : (x : Set) (h k : ℕ) → valid x ≡ true → JoinedBy 1 (CommonOf (streams_of x)) (Some h) → k ≡ h → HOf x (Ok k)
unfolding HOf
h_is x h k ok j e = rw (ok, e) (h_short (streams_of x) h j)

pub h_above : (x : Set) → valid x ≡ true → JoinedBy 1 (CommonOf (streams_of x)) None → HOf x (Err LongCycles)
unfolding HOf
h_above x ok j = rw ok (h_long (streams_of x) (valid_set x ok).streams j)

pub h_refused : (x : Set) → valid x ≡ false → HOf x (Err OutOfRule)
unfolding HOf
h_refused x bad = rw bad refl

by_unique : (ss : List Stream) (a b : Result ℕ Refusal) → HBy ss a → HBy ss b → a ≡ b
by_unique ss (Ok h) (Ok k) p q = ap Ok (h_unique ss h k p.is_h q.is_h)
by_unique ss (Ok h) (Err why) p q = absurd (omega (arith, p.short, q.long, h_unique ss h q.h p.is_h q.is_h))
by_unique ss (Err why) (Ok k) p q = absurd (omega (arith, q.short, p.long, h_unique ss k p.h q.is_h p.is_h))
by_unique ss (Err why) (Err also) p q = ap Err (p.number ∙ sym q.number)

-- two answers allowed for the H of one set are the same
pub h_answer_unique : (x : Set) (a b : Result ℕ Refusal) → HOf x a → HOf x b → a ≡ b
unfolding HOf
h_answer_unique x a b p q = go (valid x) p q
  where
    go : (ok : Bool) → HIf ok (streams_of x) a → HIf ok (streams_of x) b → a ≡ b
    go true p q = by_unique (streams_of x) a b p q
    go false p q = p ∙ sym q
