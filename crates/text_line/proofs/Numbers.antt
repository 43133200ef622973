-- A word, and a number behind it.
-- Assumes nothing.
use Prim.Native.Nat.{ℕ, ◌+◌, ◌-◌, ◌*◌, ◌≤◌, ◌<◌}
use native.Mathlib.Omega.{arith}
use native.Mathlib.Numerals.{add-one}
use mathlib.Core.Path.{◌≡◌, refl, sym, ap, ◌∙◌}
use mathlib.Core.Bool.{Bool, true, false, cond, not, ◌&&◌}
use mathlib.Core.List.{List, [], ◌∷◌}
use lib.ListN.{length, get_or, take, drop, drop_of_length-le, length-drop}
use lib.Seq.{drop-cons}
use lib.Dec.{leb, ltb}
use borrow.Author.Tests.{le-leb, lt-leb, ne_eqb, leb-true, ltb-false}
use Rattle.std.specs.Option.{unwrap_or}
use Rattle.std.specs.List.{position, position_or_len, starts_with}
use Rattle.std.proofs.lemmas.Cmp.{nat_list_eq_equiv}
use Rattle.laws.proofs.Sums.{by_test}
use Rattle.ascii.specs.Decimal.{read_on, is_digit}
use Rattle.ascii.specs.Same.{same}
use Rattle.std.specs.Prelude.{Ok, Err, nat_eq}
use Rattle.text_line.specs.declared.NumberFault.TheVariants.{Outside}
use Rattle.text_line.specs.Lines.{lead, digits, starts_at, ended_at, number_at}

and_false : (t : Bool) → (t && false) ≡ false
and_false true = refl
and_false false = refl

-- ---- a word

module _ (w l : List ℕ) (at : ℕ) where
  -- a word that stands there ends within the line
  pub starts_room : starts_at w l at ≡ true → at + length w ≤ length l
  unfolding starts_at
  starts_room e = go (leb (at + length w) (length l)) (leb-true (at + length w) (length l)) e
    where
      go : (t : Bool) → (t ≡ true → at + length w ≤ length l) → (t && same (take (length w) (drop at l)) w) ≡ true → at + length w ≤ length l
      go true f y = f refl
      go false f y = let z : ◌≡◌ {A = ℕ} 0 1 = cc in absurd (omega arith)

  -- what std's `starts_with` tells of what is left of the line
  pub starts_is : (r : Bool) → at ≤ length l → (r ≡ true → length w ≤ length (drop at l)) → r ≡ starts_with nat_eq (drop at l) w → r ≡ starts_at w l at
  unfolding starts_at
  starts_is r h room e =
      let turned : r ≡ same (take (length w) (drop at l)) w = e ∙ nat_list_eq_equiv.symm w (take (length w) (drop at l)) in
      go r room turned
    where
      go : (r : Bool) → (r ≡ true → length w ≤ length (drop at l)) → r ≡ same (take (length w) (drop at l)) w → r ≡ (leb (at + length w) (length l) && same (take (length w) (drop at l)) w)
      go true room f = rw (le-leb (at + length w) (length l) (omega (arith, room refl, length-drop at l))) f
      go false room f = rw (← f) (sym (and_false (leb (at + length w) (length l))))

  pub starts_past : length l < at → false ≡ starts_at w l at
  unfolding starts_at
  starts_past h = rw (lt-leb (at + length w) (length l) (omega arith))

-- ---- where a number's digits end

module _ (low high at end n : ℕ) where
  pub fits : (end ≡ at → ⊥) → low ≤ n → n ≤ high → Ok (n, end) ≡ ended_at low high at end n
  unfolding ended_at
  fits h g k = rw (ne_eqb end at h, le-leb low n g, le-leb n high k)

  pub too_high : (end ≡ at → ⊥) → high < n → Err Outside ≡ ended_at low high at end n
  unfolding ended_at
  too_high h g = rw (ne_eqb end at h, lt-leb n high g, and_false (leb low n))

-- ---- the bytes at the front that pass a test

module _ (p : ℕ → Bool) where
  lead_short : (l : List ℕ) → length (lead p l) ≤ length l
  unfolding lead
  lead_short [] = omega arith
  lead_short (b ∷ l) = go (p b) (lead_short l)
    where
      go : (t : Bool) → length (lead p l) ≤ length l → length (cond t (b ∷ lead p l) []) ≤ length (b ∷ l)
      go true e = omega arith
      go false e = omega arith

  -- they end at the first that does not pass it
  lead_to : (l : List ℕ) → position_or_len (λ b. not (p b)) l ≡ length (lead p l)
  unfolding lead
  lead_to [] = refl
  lead_to (b ∷ l) = go (p b) (lead_to l)
    where
      go : (t : Bool) → position_or_len (λ b. not (p b)) l ≡ length (lead p l)
          → cond (not (not t)) (1 + position_or_len (λ b. not (p b)) l) 0 ≡ length (cond t (b ∷ lead p l) [])
      go true e = omega (arith, e)
      go false e = refl

  lead_at : (l : List ℕ) → unwrap_or (position (λ b. not (p b)) l) (length l) ≡ length (lead p l)
  lead_at l = by_test (ltb (position_or_len (λ b. not (p b)) l) (length l))
      (λ e. rw (e, lead_to l))
      (λ e. rw e (omega (arith, lead_to l, lead_short l, ltb-false (position_or_len (λ b. not (p b)) l) (length l) e)))

  lead_take : (l : List ℕ) → take (length (lead p l)) l ≡ lead p l
  unfolding lead
  lead_take [] = refl
  lead_take (b ∷ l) = go (p b) (lead_take l)
    where
      go : (t : Bool) → take (length (lead p l)) l ≡ lead p l → take (length (cond t (b ∷ lead p l) [])) (b ∷ l) ≡ cond t (b ∷ lead p l) []
      go true e = ap (λ (w : List ℕ). b ∷ w) e
      go false e = refl

-- the digits at the front
pub digits_end : (l : List ℕ) → unwrap_or (position (λ b. not (is_digit b)) l) (length l) ≡ length (digits l)
digits_end l = lead_at is_digit l

pub digits_short : (l : List ℕ) → length (digits l) ≤ length l
digits_short l = lead_short is_digit l

pub digits_take : (l : List ℕ) → take (length (digits l)) l ≡ digits l
digits_take l = lead_take is_digit l

-- ---- what they say, byte by byte

-- reading on never makes a number smaller
read_more : (a : ℕ) (w : List ℕ) → a ≤ read_on a w
unfolding read_on
read_more a [] = omega arith
read_more a (b ∷ w) = omega (arith, read_more (a * 10 + (b - 48)) w)

-- the number after k of the digits w, of which one more is d
module _ (w : List ℕ) (k n : ℕ) (value : read_on n (drop k w) ≡ read_on 0 w) where
  pub read_end : length w ≤ k → n ≡ read_on 0 w
  unfolding read_on
  read_end h = rw (drop_of_length-le w h) at value

  module _ (d : ℕ) (h : k < length w) (e : d ≡ get_or w k 0 - 48) where
    pub read_next : read_on (n * 10 + d) (drop (k + 1) w) ≡ read_on 0 w
    unfolding read_on
    read_next = rw e (rw (drop-cons w k 0 h, ← add-one k) at value)

    -- a number above 2^32 - 1 is out of range
    pub read_over : (low high : ℕ) (l : List ℕ) (at : ℕ) → w ≡ digits (drop at l) → high ≤ 4294967295 → 4294967295 < n * 10 + d → Err Outside ≡ number_at low high l at
    unfolding number_at
    read_over low high l at is g over =
        let some : (at + length w ≡ at → ⊥) = λ (z : at + length w ≡ at). omega arith in
        let big : high < read_on 0 w = omega (arith, read_next, read_more (n * 10 + d) (drop (k + 1) w)) in
        rw (← is) (too_high low high at (at + length w) (read_on 0 w) some big)
