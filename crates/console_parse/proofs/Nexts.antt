-- What stands behind a space: a number, or a text.
-- Assumes nothing.
use Rattle.std.proofs.Common.{◌≡◌, ℕ, ◌<◌, Bool, true, false, cond, not, ◌&&◌, List, [], ◌∷◌, length, take, drop, Option, Some, None, refl, sym, ◌∙◌, arith}
use borrow.Author.Tests.{ne_eqb, eqb-true, eqb-false, lt-ltb, le-ltb}
use lib.Dec.{eqb, ltb}
use Rattle.console_names.specs.declared.Text.{Text}
use Rattle.ascii.specs.Decimal.{read_on}
use Rattle.console_parse.specs.Bytes.{front, behind, is_number}
use Rattle.console_parse.specs.Lines.{is_text, text_ok}
use Rattle.console_parse.specs.Scan.{number_of, next_of}
use Rattle.console_parse.proofs.Words.{some_pair, front_take, behind_drop}

pub next_none : (most : ℕ) (l : List ℕ) → length l ≡ 0 → None ≡ next_of most l
unfolding next_of
next_none most [] h = refl
next_none most (b ∷ l) h = cc

module _ (most : ℕ) (rest l : List ℕ) (b : ℕ) (is : rest ≡ b ∷ l) where
  pub next_other : (b ≡ 32 → ⊥) → None ≡ next_of most rest
  unfolding next_of
  next_other g = rw (is, ne_eqb b 32 g)

  -- behind a space it is the word's being a number that decides
  module _ (e : ℕ) (o : Option ℕ) (word left : List ℕ) (g : b ≡ 32) (h : e ≡ length (front l)) (f : word ≡ take e l) (k : left ≡ drop e l) (p : o ≡ number_of most word) where
    pub next_is : (n : ℕ) → o ≡ Some n → some_pair n left ≡ next_of most rest
    unfolding next_of number_of
    next_is n q =
        rw (is, g, k, h, behind_drop l) (go (is_number most (front l)) (read_on 0 (front l)) (sym (rw (f, h, front_take l) at p) ∙ q))
      where
        go : (t : Bool) (v : ℕ) → cond t (Some v) None ≡ Some n → some_pair n (behind l) ≡ cond t (some_pair v (behind l)) None
        go true v y = cc
        go false v y = cc

    pub next_bad : o ≡ None → None ≡ next_of most rest
    unfolding next_of number_of
    next_bad q =
        rw (is, g) (go (is_number most (front l)) (read_on 0 (front l)) (sym (rw (f, h, front_take l) at p) ∙ q))
      where
        go : (t : Bool) (v : ℕ) → cond t (Some v) None ≡ None → None ≡ cond t (some_pair v (behind l)) None
        go true v y = cc
        go false v y = refl

pub not_true : (b : Bool) → not b ≡ true → b ≡ false
not_true true h = cc
not_true false h = refl

pub not_false : (b : Bool) → not b ≡ false → b ≡ true
not_false true h = refl
not_false false h = cc

-- the text behind the numbers
module _ (t : Option Text) (l m : List ℕ) (b : ℕ) (e : l ≡ b ∷ m) where
  pub text_some : (r : Bool) → eqb b 32 ≡ true → eqb (length m) 0 ≡ false → r ≡ is_text t m → r ≡ text_ok t l
  unfolding text_ok
  text_some r h g f =
      let some : 0 < length m = omega (arith, eqb-false (length m) 0 g) in
      rw (e, h, lt-ltb 0 (length m) some) f

  pub text_other : eqb b 32 ≡ false → false ≡ text_ok t l
  unfolding text_ok
  text_other h = rw (e, h)

  pub text_empty : eqb (length m) 0 ≡ true → false ≡ text_ok t l
  unfolding text_ok
  text_empty h =
      rw (e, lt_none) (sym (and_false (eqb b 32)))
    where
      lt_none : ltb 0 (length m) ≡ false
      lt_none = le-ltb 0 (length m) (omega (arith, eqb-true (length m) 0 h))

      and_false : (u : Bool) → (u && false) ≡ false
      and_false true = refl
      and_false false = refl

pub text_none : (t : Option Text) (l : List ℕ) → length l ≡ 0 → true ≡ text_ok t l
unfolding text_ok
text_none t [] h = refl
text_none t (b ∷ l) h = cc
