-- The order of the tasks: by deadline, then by turn; and where no task has a turn before another's, by deadline alone.
-- Assumes nothing.
use Prim.Native.Nat.{ℕ, ◌≤◌, ◌<◌}
use native.Mathlib.Omega.{arith}
use mathlib.Core.Bool.{Bool, true, false, not, ◌&&◌, ◌||◌, false≢true}
use mathlib.Core.Logic.{◌⊎◌, inl, inr, ⊎_elim}
use mathlib.Core.Path.{◌≡◌, refl, sym}
use borrow.Author.Tests.{ltb-true, ltb-false}
use lib.Dec.{ltb}
use Rattle.laws.proofs.Sums.{by_test}
use Rattle.laws.proofs.Parts.{Order}
use Rattle.rules.specs.Steps.{sooner, ahead, no_turn}

-- a lexicographic order of two pairs of numbers, and its contrary
abbrev pub Before : ℕ → ℕ → ℕ → ℕ → Type 0
Before d r e q = (d < e) ⊎ ((d ≡ e) × (r < q))

abbrev pub NotBefore : ℕ → ℕ → ℕ → ℕ → Type 0
NotBefore d r e q = (e < d) ⊎ ((d ≡ e) × (q ≤ r))

module _ (deadline turn : ℕ → ℕ) (t u : ℕ) where
  lesser : deadline u ≤ deadline t → (not (sooner (deadline u) (deadline t)) && ltb (turn t) (turn u)) ≡ true → (deadline t ≡ deadline u) × (turn t < turn u)
  lesser h = by_test (ltb (deadline u) (deadline t))
      (λ e. rw e (λ f. absurd (false≢true f)))
      (λ e. rw e (λ f. (omega (arith, ltb-false (deadline u) (deadline t) e), ltb-true (turn t) (turn u) f)))

  not_lesser : deadline u ≤ deadline t → (not (sooner (deadline u) (deadline t)) && ltb (turn t) (turn u)) ≡ false → NotBefore (deadline t) (turn t) (deadline u) (turn u)
  not_lesser h = by_test (ltb (deadline u) (deadline t))
      (λ e. rw e (λ f. inl (ltb-true (deadline u) (deadline t) e)))
      (λ e. rw e (λ f. inr (omega (arith, ltb-false (deadline u) (deadline t) e), ltb-false (turn t) (turn u) f)))

  pub ahead_yes : ahead deadline turn t u ≡ true → Before (deadline t) (turn t) (deadline u) (turn u)
  unfolding ahead
  ahead_yes = by_test (ltb (deadline t) (deadline u))
      (λ e. rw e (λ f. inl (ltb-true (deadline t) (deadline u) e)))
      (λ e. rw e (λ f. inr (lesser (ltb-false (deadline t) (deadline u) e) f)))

  pub ahead_no : ahead deadline turn t u ≡ false → NotBefore (deadline t) (turn t) (deadline u) (turn u)
  unfolding ahead
  ahead_no = by_test (ltb (deadline t) (deadline u))
      (λ e. rw e (λ f. absurd (false≢true (sym f))))
      (λ e. rw e (λ f. not_lesser (ltb-false (deadline t) (deadline u) e) f))

  pub before_ahead : Before (deadline t) (turn t) (deadline u) (turn u) → ahead deadline turn t u ≡ true
  before_ahead h = by_test (ahead deadline turn t u) (λ e. e) (λ e. absurd (⊎_elim
      (λ (x : deadline t < deadline u). ⊎_elim (λ (y : deadline u < deadline t). omega arith) (λ (y : (deadline t ≡ deadline u) × (turn u ≤ turn t)). omega arith) (ahead_no e))
      (λ (x : (deadline t ≡ deadline u) × (turn t < turn u)). ⊎_elim (λ (y : deadline u < deadline t). omega arith) (λ (y : (deadline t ≡ deadline u) × (turn u ≤ turn t)). omega arith) (ahead_no e))
      h))

  pub not_ahead : NotBefore (deadline t) (turn t) (deadline u) (turn u) → ahead deadline turn t u ≡ false
  not_ahead h = by_test (ahead deadline turn t u) (λ e. absurd (⊎_elim
      (λ (x : deadline u < deadline t). ⊎_elim (λ (y : deadline t < deadline u). omega arith) (λ (y : (deadline t ≡ deadline u) × (turn t < turn u)). omega arith) (ahead_yes e))
      (λ (x : (deadline t ≡ deadline u) × (turn u ≤ turn t)). ⊎_elim (λ (y : deadline t < deadline u). omega arith) (λ (y : (deadline t ≡ deadline u) × (turn t < turn u)). omega arith) (ahead_yes e))
      h)) (λ e. e)

joins : (d r e q f p : ℕ) → Before d r e q → Before e q f p → Before d r f p
joins d r e q f p a b = ⊎_elim
    (λ (x : d < e). ⊎_elim (λ (y : e < f). inl (omega arith)) (λ (y : (e ≡ f) × (q < p)). inl (omega arith)) b)
    (λ (x : (d ≡ e) × (r < q)). ⊎_elim (λ (y : e < f). inl (omega arith)) (λ (y : (e ≡ f) × (q < p)). inr (omega arith, omega arith)) b)
    a

parts : (d r e q f p : ℕ) → Before d r f p → NotBefore e q f p → Before d r e q
parts d r e q f p a b = ⊎_elim
    (λ (x : d < f). ⊎_elim (λ (y : f < e). inl (omega arith)) (λ (y : (e ≡ f) × (p ≤ q)). inl (omega arith)) b)
    (λ (x : (d ≡ f) × (r < p)). ⊎_elim (λ (y : f < e). inl (omega arith)) (λ (y : (e ≡ f) × (p ≤ q)). inr (omega arith, omega arith)) b)
    a

pub ahead_order : (deadline turn : ℕ → ℕ) → Order (ahead deadline turn)
ahead_order d r = record {
  irreflexive = λ a. not_ahead d r a a (inr (refl, omega arith));
  transitive = λ a b c x y. before_ahead d r a c (joins (d a) (r a) (d b) (r b) (d c) (r c) (ahead_yes d r a b x) (ahead_yes d r b c y));
  between = λ a b c x y. before_ahead d r a b (parts (d a) (r a) (d b) (r b) (d c) (r c) (ahead_yes d r a c x) (ahead_no d r b c y));
}

-- with no turns a task goes before another exactly if its deadline is sooner
pub ahead_no_turn : (deadline : ℕ → ℕ) (t u : ℕ) → ahead deadline no_turn t u ≡ sooner (deadline t) (deadline u)
unfolding ahead
ahead_no_turn d t u = go (ltb (d t) (d u)) (not (ltb (d u) (d t)))
  where
    go : (a b : Bool) → (a || (b && false)) ≡ a
    go true b = refl
    go false true = refl
    go false false = refl
