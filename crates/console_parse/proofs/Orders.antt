-- A line's command, by the word at its front.
-- Assumes nothing.
use Prim.Native.Nat.{ℕ, ◌+◌, ◌≤◌, ◌<◌}
use native.Mathlib.Omega.{arith}
use mathlib.Core.Path.{◌≡◌}
use mathlib.Core.List.{List, []}
use lib.ListN.{length, take, drop}
use lib.Dec.{eqb, ltb}
use borrow.Author.Tests.{eq-eqb, ne_eqb, lt-ltb, le-ltb, eqb-true, ltb-false}
use Rattle.laws.proofs.Sums.{by_test}
use Rattle.console_names.specs.declared.Command.TheVariants.{Nothing, Unknown}
use Rattle.console_names.specs.Rows.{most_numbers, Wanted, row_of}
use Rattle.console_parse.specs.declared.Order.{Order}
use Rattle.console_parse.specs.Bytes.{front, behind}
use Rattle.console_parse.specs.Lines.{numbers_ok, order_at, asked, longest, order_of}
use Rattle.console_parse.proofs.Words.{front_take, behind_drop}

module _ (l : List ℕ) where
  pub empty : (r : Order) → length l ≡ 0 → r ≡ order_at Nothing [] 0 → r ≡ order_of l
  unfolding order_of
  empty r h e = rw (eq-eqb (length l) 0 h) e

  pub long : (r : Order) → (length l ≡ 0 → ⊥) → longest < length l → r ≡ order_at Unknown [] (length l) → r ≡ order_of l
  unfolding order_of
  long r z h e = rw (ne_eqb (length l) 0 z, lt-ltb longest (length l) h) e

  pub named : (e : ℕ) → e ≡ length (front l) → (name left : List ℕ) → name ≡ take e l → left ≡ drop e l → (r : Order) (a : Wanted) → (length l ≡ 0 → ⊥) → length l ≤ longest
      → a ≡ row_of name → r ≡ asked (length l) a left → r ≡ order_of l
  unfolding order_of
  named e h name left n m r a z g x y =
      rw (ne_eqb (length l) 0 z, le-ltb longest (length l) g, ← front_take l, ← behind_drop l, ← h, ← n, ← m, ← x) y

-- no line leaves more than `longest` bytes of text
pub text_short : (l : List ℕ) → length l ≤ (order_of l).text + longest
unfolding order_of
text_short l =
    by_test (eqb (length l) 0)
    (λ e. rw e (omega (arith, eqb-true (length l) 0 e)))
    (λ e.
    by_test (ltb longest (length l))
    (λ f. rw (e, f) (omega arith))
    (λ f. rw (e, f) (omega (arith, ltb-false longest (length l) f))))

-- a text starts within its line
asked_in : (size : ℕ) (r : Wanted) (l : List ℕ) → (asked size r l).text ≤ size
unfolding asked
asked_in size r l = by_test (numbers_ok r.text (take most_numbers r.most) l) (λ e. rw e (omega arith)) (λ e. rw e (omega arith))

pub text_in : (l : List ℕ) → (order_of l).text ≤ length l
unfolding order_of
text_in l =
    by_test (eqb (length l) 0)
    (λ e. rw e (omega arith))
    (λ e.
    by_test (ltb longest (length l))
    (λ f. rw (e, f) (omega arith))
    (λ f. rw (e, f) (asked_in (length l) (row_of (front l)) (behind l))))
