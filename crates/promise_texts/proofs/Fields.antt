-- A word and a number that stand in a line are read there.
-- Assumes nothing.
use Prim.Native.Nat.{ℕ, zero, suc, ◌+◌, ◌/◌, ◌%◌, ◌^◌, ◌≤◌, ◌<◌}
use native.Mathlib.Omega.{arith}
use mathlib.Core.Path.{◌≡◌, refl, sym, ap, ◌∙◌}
use mathlib.Core.Bool.{Bool, true, false, ◌&&◌}
use mathlib.Core.List.{List, [], ◌∷◌, ◌++◌, append_assoc, append-nil}
use lib.ListN.{length, take, drop, length-append}
use lib.Seq.{take-append_seam, drop-append_seam}
use lib.Dec.{leb, ltb}
use borrow.Author.Tests.{le-leb, eq-eqb, ltb-true}
use Rattle.std.specs.List.{list_all}
use Rattle.laws.proofs.Sums.{by_test, and_parts}
use Rattle.laws.proofs.Gates.{all_last}
use Rattle.ascii.specs.Decimal.{digits_of, decimal_of, is_digit}
use Rattle.ascii.proofs.Digits.{digits_back}
use Rattle.ascii.specs.Same.{same}
use Rattle.std.specs.Prelude.{Ok, Err}
use Rattle.text_line.specs.declared.NumberFault.TheVariants.{Missing}
use Rattle.text_line.specs.Lines.{lead, digits, starts_at, number_at, field_at}
use Rattle.text_line.proofs.Numbers.{fits}

-- ---- the digits of a number

lead_all : (p : ℕ → Bool) (v r : List ℕ) → list_all p v ≡ true → lead p (v ++ r) ≡ v ++ lead p r
unfolding lead
lead_all p [] r e = refl
lead_all p (b ∷ v) r e =
    let u : (p b ≡ true) × (list_all p v ≡ true) = and_parts (p b) (list_all p v) e in
    rw u.0 (ap (λ (w : List ℕ). b ∷ w) (lead_all p v r u.1))

is_digit_lem : (n : ℕ) → n < 10 → is_digit (48 + n) ≡ true
is_digit_lem n h =
    let low : leb 48 (48 + n) ≡ true = le-leb 48 (48 + n) (omega arith) in
    let high : leb (48 + n) 57 ≡ true = le-leb (48 + n) 57 (omega arith) in
    rw (low, high)

pub all_digits : (k n : ℕ) → list_all is_digit (digits_of k n) ≡ true
unfolding digits_of
all_digits zero n = refl
all_digits (suc k) n =
    by_test (ltb n 10) (λ e. rw e (rw (is_digit_lem n (ltb-true n 10 e))))
    (λ e. rw e (all_last is_digit (digits_of k (n / 10)) (48 + n % 10) (all_digits k (n / 10)) (is_digit_lem (n % 10) (omega arith))))

pub some_digits : (k n : ℕ) → 1 ≤ length (digits_of (suc k) n)
unfolding digits_of
some_digits k n =
    by_test (ltb n 10) (λ e. rw e (omega arith)) (λ e. rw e (omega (arith, length-append (digits_of k (n / 10)) ((48 + n % 10) ∷ []))))

-- the digits that stand there are the number's, and no more
only_digits : (n : ℕ) (rest : List ℕ) → digits rest ≡ [] → digits (decimal_of n ++ rest) ≡ decimal_of n
only_digits n rest e = lead_all is_digit (decimal_of n) rest (all_digits 20 n) ∙ ap (λ (w : List ℕ). decimal_of n ++ w) e ∙ append-nil (decimal_of n)

-- ---- a number, and a word with a number, behind pre

same_self : (v : List ℕ) → same v v ≡ true
same_self [] = refl
same_self (b ∷ v) = rw (eq-eqb b b refl) (same_self v)

pub starts : (v p r m : List ℕ) → m ≡ p ++ (v ++ r) → starts_at v m (length p) ≡ true
unfolding starts_at
starts v p r m q =
    let room : length p + length v ≤ length m = omega (arith, ap length q, length-append p (v ++ r), length-append v r) in
    rw (le-leb (length p + length v) (length m) room, q, drop-append_seam p (v ++ r), take-append_seam v r) (same_self v)

module _ (low high n : ℕ) (rest : List ℕ) (stop : digits rest ≡ []) (from : low ≤ n) (to : n ≤ high) (small : n < 10 ^ 20) where
  number_here : (pre l : List ℕ) → l ≡ pre ++ (decimal_of n ++ rest) → number_at low high l (length pre) ≡ Ok (n, length pre + length (decimal_of n))
  unfolding number_at
  number_here pre l e =
      let here : drop (length pre) l ≡ decimal_of n ++ rest = ap (drop (length pre)) e ∙ drop-append_seam pre (decimal_of n ++ rest) in
      let mine : digits (drop (length pre) l) ≡ decimal_of n = ap digits here ∙ only_digits n rest stop in
      let some : length pre + length (decimal_of n) ≡ length pre → ⊥ = λ z. omega (arith, some_digits 19 n) in
      rw (mine, digits_back 20 n small) (sym (fits low high (length pre) (length pre + length (decimal_of n)) n some from to))

  pub field_here : (w pre l : List ℕ) → l ≡ pre ++ (w ++ (decimal_of n ++ rest)) → field_at w low high l (length pre) ≡ Ok (n, length (pre ++ (w ++ decimal_of n)))
  unfolding field_at
  field_here w pre l e =
      let size : length (pre ++ w) ≡ length pre + length w = length-append pre w in
      let whole : length (pre ++ (w ++ decimal_of n)) ≡ length (pre ++ w) + length (decimal_of n) = omega (arith, length-append pre (w ++ decimal_of n), length-append w (decimal_of n)) in
      rw (starts w pre (decimal_of n ++ rest) l e, ← size, whole) (number_here (pre ++ w) l (e ∙ sym (append_assoc pre w (decimal_of n ++ rest))))

-- a word that differs from what stands there
module _ (w pre r l : List ℕ) (e : l ≡ pre ++ r) (h : same (take (length w) r) w ≡ false) where
  pub starts_not : starts_at w l (length pre) ≡ false
  unfolding starts_at
  starts_not = rw (e, drop-append_seam pre r, h, never (leb (length pre + length w) (length (pre ++ r))))
    where
      never : (t : Bool) → (t && false) ≡ false
      never true = refl
      never false = refl

  pub field_not : (low high : ℕ) → field_at w low high l (length pre) ≡ Err Missing
  unfolding field_at
  field_not low high = rw starts_not
