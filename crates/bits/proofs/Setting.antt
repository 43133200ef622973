-- One bit of a byte, and of a string of bytes, set to a value; every other bit stays.
-- Assumes nothing.
use Prim.Native.Nat.{ℕ, zero, suc, ◌+◌, ◌*◌, ◌/◌, ◌%◌, ◌^◌, ◌<◌, ◌≤◌, ◌-◌}
use mathlib.Core.Path.{◌≡◌, sym, ap, ◌∙◌}
use mathlib.Core.List.{List, [], ◌∷◌, ◌++◌}
use native.Mathlib.Omega.{arith}
use native.Mathlib.Nat.{add-mul, mul_assoc, mul_comm, zero-add, one-mul, mul-le-mul_right, suc-add}
use lib.ListN.{length, get_or, set, length-set}
use lib.Seq.{set-append_left}
use lib.Dec.{lit<}
use lib.Pow.{shl_exact, split, pow_mono}
use Rattle.laws.specs.Bits.{bits, onto, to_bits, value}
use Rattle.laws.proofs.Fields.{AreBits, bits_back, field_back, onto_value, to_bits_bits, to_bits_length, value_lt}

-- the bit at a place of a field
pub to_bits_at : (w v k j : ℕ) → k + suc j ≡ w → get_or (to_bits w v) k 0 ≡ v / 2 ^ j % 2
unfolding to_bits
to_bits_at zero v k j e = absurd (omega arith)
to_bits_at (suc w) v zero j e = ap (λ (x : ℕ). v / 2 ^ x % 2) (omega arith)
to_bits_at (suc w) v (suc k) j e = to_bits_at w v k j (omega arith)

dig : (a b p : ℕ) → (a * 2 + b) * p ≡ a * (p * 2) + b * p
dig a b p = add-mul (a * 2) b p ∙ ap (λ (x : ℕ). x + b * p) (mul_assoc a 2 p ∙ ap (λ (x : ℕ). a * x) (mul_comm 2 p))

-- a bit that is set, in the number that bits stand for
onto_set : (a : ℕ) (bs : List ℕ) (k j x : ℕ) → k + suc j ≡ length bs → onto a (set bs k x) + get_or bs k 0 * 2 ^ j ≡ onto a bs + x * 2 ^ j
unfolding onto
onto_set a [] k j x e = absurd (omega arith)
onto_set a (b ∷ bs) zero j x e =
    omega (
      arith,
      onto_value (a * 2 + b) bs,
      onto_value (a * 2 + x) bs,
      dig a b (2 ^ length bs),
      dig a x (2 ^ length bs),
      ap (λ (y : ℕ). b * 2 ^ y) (let e' : j ≡ length bs = omega arith in e'),
      ap (λ (y : ℕ). x * 2 ^ y) (let e' : j ≡ length bs = omega arith in e'),
    )
onto_set a (b ∷ bs) (suc k) j x e = onto_set (a * 2 + b) bs k j x (omega arith)

are_bits_set : (bs : List ℕ) (k x : ℕ) → AreBits bs → x < 2 → AreBits (set bs k x)
are_bits_set [] k x h hx = tt
are_bits_set (b ∷ bs) zero x h hx = (hx, h.1)
are_bits_set (b ∷ bs) (suc k) x h hx = (h.0, are_bits_set bs k x h.1 hx)

module _ (b c k j x : ℕ) (hb : b < 256) (hk : k + suc j ≡ 8) (hx : x < 2) (e : c + b / 2 ^ j % 2 * 2 ^ j ≡ b + x * 2 ^ j) where
  byte_value : c ≡ value (set (to_bits 8 b) k x)
  byte_value =
      omega (
        arith,
        onto_set 0 (to_bits 8 b) k j x (omega (arith, to_bits_length 8 b)),
        field_back 8 b hb,
        ap (λ (y : ℕ). y * 2 ^ j) (to_bits_at 8 b k j hk),
      )

  byte_set : to_bits 8 c ≡ set (to_bits 8 b) k x
  byte_set =
      ap (to_bits 8) byte_value
      ∙ ap (λ (n : ℕ). to_bits n (value (set (to_bits 8 b) k x))) (sym (length-set (to_bits 8 b) k x ∙ to_bits_length 8 b))
      ∙ bits_back 0 (set (to_bits 8 b) k x) (are_bits_set (to_bits 8 b) k x (to_bits_bits 8 b) hx)

  byte_lt : c < 256
  byte_lt =
      omega (
        arith,
        byte_value,
        value_lt (set (to_bits 8 b) k x) (are_bits_set (to_bits 8 b) k x (to_bits_bits 8 b) hx),
        ap (λ (n : ℕ). 2 ^ n) (length-set (to_bits 8 b) k x ∙ to_bits_length 8 b),
      )

-- ---- one bit of a byte, as code computes it

pub one_shl : (k : ℕ) → k < 8 → 1 * 2 ^ k % 2 ^ 8 ≡ 2 ^ k
one_shl k h = shl_exact {a = 1} 1 k 8 (lit< tt) (omega arith) ∙ one-mul (2 ^ k)

bit_mul : (b k : ℕ) → b / 2 ^ k % 2 * 2 ^ k ≤ b
bit_mul b k = omega (arith, split b k, mul-le-mul_right (2 ^ k) (let h : b / 2 ^ k % 2 ≤ b / 2 ^ k = omega arith in h))

module _ (b k x m : ℕ) (hb : b < 256) (hk : k < 8) (hx : x < 2) (e : m ≡ 2 ^ k) where
  pub old_le : b / 2 ^ k % 2 * m ≤ b
  old_le = rw e (bit_mul b k)

  pub old_fits : b / 2 ^ k % 2 * m < 256
  old_fits = omega (arith, old_le)

  m_lt : m < 256
  m_lt = omega (arith, pow_mono {j = 7} (let h : k ≤ 7 = omega arith in h))

  pub new_fits : x * m < 256
  new_fits = omega (arith, m_lt, mul-le-mul_right m (let h : x ≤ 1 = omega arith in h))

  sum_is : b - b / 2 ^ k % 2 * m + x * m + b / 2 ^ k % 2 * 2 ^ k ≡ b + x * 2 ^ k
  sum_is = omega (arith, old_le, ap (λ (y : ℕ). b / 2 ^ k % 2 * y) e, ap (λ (y : ℕ). x * y) e)

  pub byte_with : to_bits 8 (b - b / 2 ^ k % 2 * m + x * m) ≡ set (to_bits 8 b) (7 - k) x
  byte_with = byte_set b (b - b / 2 ^ k % 2 * m + x * m) (7 - k) k x hb (omega arith) hx sum_is

  pub sum_fits : b - b / 2 ^ k % 2 * m + x * m < 256
  sum_fits = byte_lt b (b - b / 2 ^ k % 2 * m + x * m) (7 - k) k x hb (omega arith) hx sum_is

-- ---- a string with one bit set: the byte that holds the bit is stored anew

set_append_add : (xs ys : List ℕ) (n x : ℕ) → set (xs ++ ys) (length xs + n) x ≡ xs ++ set ys n x
set_append_add [] ys n x = ap (λ (m : ℕ). set ys m x) (zero-add n)
set_append_add (a ∷ xs) ys n x =
    ap (λ (m : ℕ). set (a ∷ xs ++ ys) m x) (suc-add (length xs) n) ∙ ap (λ (l : List ℕ). a ∷ l) (set_append_add xs ys n x)

pub bits_set : (s : List ℕ) (i k c x : ℕ) → i < length s → to_bits 8 c ≡ set (to_bits 8 (get_or s i 0)) k x → k < 8 → bits (set s i c) ≡ set (bits s) (8 * i + k) x
unfolding bits
bits_set [] i k c x h e hk = absurd (omega arith)
bits_set (b ∷ s) zero k c x h e hk =
    ap (λ (l : List ℕ). l ++ bits s) e
    ∙ sym (ap (λ (n : ℕ). set (to_bits 8 b ++ bits s) n x) (zero-add k) ∙ set-append_left (to_bits 8 b) (bits s) k x (omega (arith, to_bits_length 8 b)))
bits_set (b ∷ s) (suc i) k c x h e hk =
    ap (λ (l : List ℕ). to_bits 8 b ++ l) (bits_set s i k c x (omega arith) e hk)
    ∙ sym
    (ap (λ (n : ℕ). set (to_bits 8 b ++ bits s) n x)
    (let q : 8 * suc i + k ≡ length (to_bits 8 b) + (8 * i + k) = omega (arith, to_bits_length 8 b) in q)
    ∙ set_append_add (to_bits 8 b) (bits s) (8 * i + k) x)

-- the bit as code counts it, from the lowest
pub bits_set_at : (s : List ℕ) (i k c x : ℕ) → i < length s → k < 8 → to_bits 8 c ≡ set (to_bits 8 (get_or s i 0)) (7 - (7 - k)) x → bits (set s i c) ≡ set (bits s) (8 * i + k) x
bits_set_at s i k c x h hk e =
    bits_set s i k c x h (e ∙ ap (λ (j : ℕ). set (to_bits 8 (get_or s i 0)) j x) (omega arith)) hk
