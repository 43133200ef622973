-- Tests of every byte of a word, by a loop; and when a word is a number.
-- Assumes nothing.
use Prim.Native.Nat.{ℕ, ◌+◌, ◌-◌, ◌*◌, ◌≤◌, ◌<◌}
use native.Mathlib.Omega.{arith}
use native.Mathlib.Numerals.{add-one}
use mathlib.Core.Path.{◌≡◌, refl, ◌∙◌}
use mathlib.Core.Bool.{Bool, true, false, ◌&&◌}
use mathlib.Core.List.{List, [], ◌∷◌}
use lib.ListN.{length, get_or, drop, drop_of_length-le}
use lib.Seq.{drop-cons}
use lib.Dec.{leb, eqb}
use borrow.Author.Tests.{le-leb, lt-leb, eqb-false}
use Rattle.std.specs.List.{list_all}
use Rattle.laws.specs.Lists.{within}
use Rattle.ascii.specs.Decimal.{read_on, is_digit}
use Rattle.std.proofs.Common.{Some, None}
use Rattle.console_parse.specs.Bytes.{is_number}
use Rattle.console_parse.specs.Scan.{number_of}

module _ (p : ℕ → Bool) (w : List ℕ) (i : ℕ) where
  pub all_on : i < length w → p (get_or w i 0) ≡ true → list_all p (drop (i + 1) w) ≡ list_all p (drop i w)
  all_on h e = rw (drop-cons w i 0 h, e, add-one i)

  pub all_off : i < length w → p (get_or w i 0) ≡ false → list_all p (drop i w) ≡ false
  all_off h e = rw (drop-cons w i 0 h, e)

  pub all_end : length w ≤ i → list_all p (drop i w) ≡ true
  all_end h = rw (drop_of_length-le w h)

-- reading on never makes a number smaller
pub read_more : (a : ℕ) (w : List ℕ) → a ≤ read_on a w
unfolding read_on
read_more a [] = omega arith
read_more a (b ∷ w) = omega (arith, read_more (a * 10 + (b - 48)) w)

pub read_turn : (n : ℕ) (w : List ℕ) (i : ℕ) → i < length w → read_on (n * 10 + (get_or w i 0 - 48)) (drop (i + 1) w) ≡ read_on n (drop i w)
unfolding read_on
read_turn n w i h = rw (drop-cons w i 0 h, add-one i)

pub read_end_lem : (n : ℕ) (w : List ℕ) (i : ℕ) → length w ≤ i → read_on n (drop i w) ≡ n
unfolding read_on
read_end_lem n w i h = rw (drop_of_length-le w h)

pub some_bytes : (w : List ℕ) → eqb (length w) 0 ≡ false → length w ≡ 0 → ⊥
some_bytes w h e = absurd (omega (arith, eqb-false (length w) 0 h, e))

and_false : (t : Bool) → (t && false) ≡ false
and_false true = refl
and_false false = refl

module _ (most : ℕ) (w : List ℕ) where
  pub got_empty : length w ≡ 0 → None ≡ number_of most w
  unfolding number_of is_number
  got_empty h = rw h

  pub got_long : 10 < length w → None ≡ number_of most w
  unfolding number_of is_number
  got_long h = rw (lt-leb (length w) 10 h, and_false (leb 1 (length w)))

  pub got_other : list_all is_digit w ≡ false → None ≡ number_of most w
  unfolding number_of is_number
  got_other h = rw (h, and_false (within 1 (length w) 10))

  pub got_large : most < read_on 0 w → None ≡ number_of most w
  unfolding number_of is_number
  got_large h = rw (lt-leb (read_on 0 w) most h, and_false (list_all is_digit w), and_false (within 1 (length w) 10))

  pub got_is : (n : ℕ) → (length w ≡ 0 → ⊥) → length w ≤ 10 → list_all is_digit w ≡ true → n ≡ read_on 0 w → n ≤ most → Some n ≡ number_of most w
  unfolding number_of is_number
  got_is n h g a e f =
      let one : 1 ≤ length w = omega arith in
      let low : read_on 0 w ≤ most = omega arith in
      rw (le-leb 1 (length w) one, le-leb (length w) 10 g, a, le-leb (read_on 0 w) most low, e)

-- a turn of the loop that reads a number n, and its ways out
module _ (w : List ℕ) (i : ℕ) where
  pub next : (n d : ℕ) → i < length w → d ≡ get_or w i 0 - 48 → read_on n (drop i w) ≡ read_on 0 w
      → read_on (n * 10 + d) (drop (i + 1) w) ≡ read_on 0 w
  next n d h e f = rw e (read_turn n w i h) ∙ f

  pub too_large : (most n d : ℕ) → most ≤ 4294967295 → i < length w → d ≡ get_or w i 0 - 48 → read_on n (drop i w) ≡ read_on 0 w
      → 4294967295 < n * 10 + d → None ≡ number_of most w
  too_large most n d m h e f g =
      got_large most w (omega (arith, next n d h e f, read_more (n * 10 + d) (drop (i + 1) w)))

  pub past : (most n : ℕ) → length w ≤ i → read_on n (drop i w) ≡ read_on 0 w → most < n → None ≡ number_of most w
  past most n h e g = got_large most w (omega (arith, e, read_end_lem n w i h))
