-- When a start is refused, by the paper's numbers, and that a refused one is the start of the empty set. Assumes nothing.
use Prim.Native.Nat.{ℕ}
use mathlib.Core.Bool.{true, false}
use mathlib.Core.Path.{◌≡◌, ap, sym, ◌∙◌}
use native.Mathlib.Omega.{arith}
use borrow.Author.Tests.{lt-leb, leb-false}
use lib.Dec.{leb}
use Rattle.laws.proofs.Sums.{by_test}
use Rattle.rules.specs.Streams.{valid}
use Rattle.rules.specs.Parties.{together}
use Rattle.rules.specs.States.{most_pending}
use Rattle.rules.specs.Steps.{start_for}
use Rattle.rules.specs.Numbers.{refused, started}
use Rattle.rules.specs.Runs.{Start}
use Rattle.promise_steps.specs.Refusals.{says_to_start, Seven, Sixteen, TooManyPlaces, RefusedStart}
use Rattle.promise_steps.proofs.Refusals.{no_of}

module _ (z : Start) where
  start_ill : valid z.set ≡ false → says_to_start z ≡ refused 7
  unfolding start_for
  start_ill e = rw e

  start_over : valid z.set ≡ true → leb (together z.places) most_pending ≡ false → says_to_start z ≡ refused 16
  unfolding start_for
  start_over e g = rw (e, g)

  start_good : valid z.set ≡ true → leb (together z.places) most_pending ≡ true → says_to_start z ≡ started
  unfolding start_for
  start_good e g = rw (e, g)

  -- the three cases, told by what is said
  module _ {A : Type 0} (n : ℕ) (e : no_of (says_to_start z) ≡ n) where
    by_start : (valid z.set ≡ false → 7 ≡ n → A) → (TooManyPlaces z → 16 ≡ n → A) → (0 ≡ n → A) → A
    unfolding no_of
    by_start f g h = by_test (valid z.set)
        (λ v. by_test (leb (together z.places) most_pending)
        (λ t. h (sym (ap no_of (start_good v t)) ∙ e))
        (λ t. g (record { valid_set = v; over = leb-false _ _ t }) (sym (ap no_of (start_over v t)) ∙ e)))
        (λ v. f v (sym (ap no_of (start_ill v)) ∙ e))

pub seven : Seven
unfolding Seven no_of
seven z = (
  λ e. by_start z 7 (ap no_of e) (λ v q. v) (λ p q. absurd (omega arith)) (λ q. absurd (omega arith)),
  λ v. start_ill z v,
)

pub sixteen : Sixteen
unfolding Sixteen no_of
sixteen z = (
  λ e. by_start z 16 (ap no_of e) (λ v q. absurd (omega arith)) (λ p q. p) (λ q. absurd (omega arith)),
  λ p. start_over z p.valid_set (lt-leb _ _ p.over),
)

pub refused_start_is_empty : RefusedStart
unfolding RefusedStart start_for
refused_start_is_empty z n e = by_test (valid z.set)
    (λ v. by_test (leb (together z.places) most_pending)
    (λ t. let q : started ≡ refused n = rw (v, t) at e in absurd (let y : ◌≡◌ {A = ℕ} 0 1 = cc in omega arith))
    (λ t. rw (v, t)))
    (λ v. rw v)
