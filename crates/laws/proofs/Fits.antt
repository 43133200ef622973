-- Loops over all places of a list that make their tests without a way out in the middle: the tests made so far, and those that are left, come to the whole.
-- Assumes nothing.
use Prim.Native.Nat.{ℕ, zero, suc, ◌+◌, ◌-◌, ◌≤◌, ◌<◌}
use mathlib.Core.Bool.{Bool, true, false, cond, ◌&&◌}
use mathlib.Core.Path.{◌≡◌, refl, ap, sym, ◌∙◌}
use mathlib.Core.List.{List, [], ◌∷◌}
use native.Mathlib.Omega.{arith}
use native.Mathlib.Numerals.{add-one}
use borrow.Author.Tests.{ltb-true, ltb-false, lt-ltb, le-ltb}
use lib.Dec.{ltb}
use lib.ListN.{length, get_or, take, drop, drop_of_length-le}
use lib.Seq.{drop-cons}
use Rattle.std.specs.List.{list_all}
use Rattle.laws.specs.Lists.{scan}
use Rattle.laws.proofs.Sums.{by_test}

pub and_assoc : (a b c : Bool) → (a && (b && c)) ≡ ((a && b) && c)
and_assoc true b c = refl
and_assoc false b c = refl

pub and_true : (a : Bool) → (a && true) ≡ a
and_true true = refl
and_true false = refl

-- ---- one test for all places; the whole is z

module _ {A : Type 0} (p : A → Bool) where
  pub and_go : (l : List A) (k : ℕ) (ok r z : Bool) (d x : A) → (ok && list_all p (drop k l)) ≡ z → x ≡ get_or l k d → r ≡ p x → k < length l → ((ok && r) && list_all p (drop (k + 1) l)) ≡ z
  and_go l k ok r z d x inv e t h = sym (and_assoc ok r (list_all p (drop (k + 1) l))) ∙ rw (t, e, add-one) (rw (drop-cons l k d h) at inv)

  pub and_end : (l : List A) (k : ℕ) (ok z : Bool) → (ok && list_all p (drop k l)) ≡ z → length l ≤ k → ok ≡ z
  and_end l k ok z inv h = sym (and_true ok) ∙ rw (drop_of_length-le l {i = k} h) at inv

-- ---- the first n places pass p, which sees what f read off the place before, b at the first; the others pass q

module _ {A B : Type 0} (p : B → A → Bool) (f : A → B) (q : A → Bool) where
  unfoldable pub fits : ℕ → B → List A → Bool
  fits n b [] = true
  fits zero b (x ∷ l) = q x && fits zero (f x) l
  fits (suc n) b (x ∷ l) = p b x && fits n (f x) l

  fits_both : (n : ℕ) (b : B) (l : List A) → fits n b l ≡ (scan p f b (take n l) && list_all q (drop n l))
  unfolding fits scan
  fits_both zero b [] = refl
  fits_both (suc n) b [] = refl
  fits_both zero b (x ∷ l) = ap (λ (r : Bool). q x && r) (fits_both zero (f x) l)
  fits_both (suc n) b (x ∷ l) = ap (λ (r : Bool). p b x && r) (fits_both n (f x) l) ∙ and_assoc (p b x) (scan p f (f x) (take n l)) (list_all q (drop n l))

  -- the tests of the places from k on
  unfoldable pub fits_from : ℕ → ℕ → B → List A → Bool
  fits_from k n b l = fits (n - k) b (drop k l)

  pub fits_start : (n : ℕ) (b : B) (l : List A) → fits_from 0 n b l ≡ (scan p f b (take n l) && list_all q (drop n l))
  unfolding fits_from
  fits_start n b l = let e : n - 0 ≡ n = omega arith in rw e (fits_both n b l)

  -- the place k: the test that it has to pass, and the places behind it
  fits_at : (l : List A) (n k : ℕ) (b : B) (d x : A) → x ≡ get_or l k d → k < length l
      → fits_from k n b l ≡ (cond (ltb k n) (p b x) (q x) && fits_from (k + 1) n (f x) l)
  unfolding fits fits_from
  fits_at l n k b d x e h =
      by_test (ltb k n)
      (λ t.
      let less : n - k ≡ suc (n - (k + 1)) = omega (arith, ltb-true k n t) in
      rw (t, less, drop-cons l k d h, ← e, add-one) refl)
      (λ t.
      let none : n - k ≡ 0 = omega (arith, ltb-false k n t) in
      let none' : n - (k + 1) ≡ 0 = omega (arith, ltb-false k n t) in
      rw (t, none, none', drop-cons l k d h, ← e, add-one) refl)

  pub fits_go : (l : List A) (n k : ℕ) (b b' : B) (ok r z : Bool) (d x : A) → (ok && fits_from k n b l) ≡ z → x ≡ get_or l k d → b' ≡ f x
      → r ≡ cond (ltb k n) (p b x) (q x) → k < length l → ((ok && r) && fits_from (k + 1) n b' l) ≡ z
  fits_go l n k b b' ok r z d x inv e e' t h =
      sym (and_assoc ok r (fits_from (k + 1) n b' l))
      ∙ rw (t, e') (ap (λ (w : Bool). ok && w) (sym (fits_at l n k b d x e h)) ∙ inv)

  pub fits_end : (l : List A) (n k : ℕ) (b : B) (ok z : Bool) → (ok && fits_from k n b l) ≡ z → length l ≤ k → ok ≡ z
  unfolding fits fits_from
  fits_end l n k b ok z inv h = sym (and_true ok) ∙ rw (drop_of_length-le l {i = k} h) at inv

  -- the same where a test that fails ends the loop: a place among the first n, one behind them, the end
  pub fits_yes : (l : List A) (n k : ℕ) (b b' : B) (z : Bool) (d x : A) → fits_from k n b l ≡ z → x ≡ get_or l k d → b' ≡ f x → p b x ≡ true → k < n → k < length l → fits_from (k + 1) n b' l ≡ z
  fits_yes l n k b b' z d x inv e e' t m h = rw e' (rw (fits_at l n k b d x e h, lt-ltb k n m, t) at inv)

  pub fits_no : (l : List A) (n k : ℕ) (b : B) (z : Bool) (d x : A) → fits_from k n b l ≡ z → x ≡ get_or l k d → p b x ≡ false → k < n → k < length l → false ≡ z
  fits_no l n k b z d x inv e t m h = rw (fits_at l n k b d x e h, lt-ltb k n m, t) at inv

  -- behind the first n nothing looks back
  fits_free : (b c : B) (l : List A) → fits zero b l ≡ fits zero c l
  unfolding fits
  fits_free b c [] = refl
  fits_free b c (x ∷ l) = refl

  pub fits_rest : (l : List A) (n k : ℕ) (b : B) (z : Bool) (d x : A) → fits_from k n b l ≡ z → x ≡ get_or l k d → q x ≡ true → n ≤ k → k < length l → fits_from (k + 1) n b l ≡ z
  unfolding fits_from
  fits_rest l n k b z d x inv e t m h =
      let none : n - (k + 1) ≡ 0 = omega arith in
      let same : fits_from (k + 1) n b l ≡ fits_from (k + 1) n (f x) l = rw none (fits_free b (f x) (drop (k + 1) l)) in
      same ∙ rw (fits_at l n k b d x e h, le-ltb k n m, t) at inv

  pub fits_used : (l : List A) (n k : ℕ) (b : B) (z : Bool) (d x : A) → fits_from k n b l ≡ z → x ≡ get_or l k d → q x ≡ false → n ≤ k → k < length l → false ≡ z
  fits_used l n k b z d x inv e t m h = rw (fits_at l n k b d x e h, le-ltb k n m, t) at inv

  pub fits_done : (l : List A) (n k : ℕ) (b : B) (z : Bool) → fits_from k n b l ≡ z → length l ≤ k → true ≡ z
  unfolding fits fits_from
  fits_done l n k b z inv h = rw (drop_of_length-le l {i = k} h) at inv

-- a test that does not look back
pub scan_all : {A B : Type 0} (p : A → Bool) (f : A → B) (b : B) (l : List A) → scan (λ (c : B) (x : A). p x) f b l ≡ list_all p l
unfolding scan
scan_all p f b [] = refl
scan_all p f b (x ∷ l) = ap (λ (r : Bool). p x && r) (scan_all p f (f x) l)
