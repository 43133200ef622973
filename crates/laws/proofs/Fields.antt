-- The laws of fields, once for every width: what is written reads back, what is read writes back, fields that stand one behind the other.
-- Assumes nothing.
use Prim.Native.Nat.{ℕ, zero, suc, ◌+◌, ◌*◌, ◌/◌, ◌%◌, ◌^◌, ◌<◌, ◌≤◌, ◌-◌}
use mathlib.Core.Path.{◌≡◌, refl, sym, ap, ap₂, ◌∙◌}
use mathlib.Core.List.{List, [], ◌∷◌, ◌++◌, append_assoc}
use native.Mathlib.Omega.{arith}
use native.Mathlib.Nat.{pow-suc, mul_assoc, mod-lt, mod-eq_of_lt, add-mul, mul_comm, zero-add, zero-div}
use lib.ListN.{length, get_or, take, drop, replicate, length-append, length-drop, take-append-drop}
use lib.Seq.{take_at, drop_at, length-take-le}
use lib.Arith.{digits_lt}
use lib.Pow.{mod-pow-add, high, low}
use Rattle.laws.specs.Lists.{All}
use Rattle.laws.specs.Bits.{bits, onto, value, to_bits, zeros}

-- ---- each element has a property

module _ {A : Type 0} (P : A → Type 0) where
  pub all_append : (xs ys : List A) → All P xs → All P ys → All P (xs ++ ys)
  all_append [] ys h k = k
  all_append (x ∷ xs) ys h k = (h.0, all_append xs ys h.1 k)

  pub all_take : (n : ℕ) (xs : List A) → All P xs → All P (take n xs)
  all_take zero xs h = tt
  all_take (suc n) [] h = tt
  all_take (suc n) (x ∷ xs) h = (h.0, all_take n xs h.1)

  pub all_drop : (n : ℕ) (xs : List A) → All P xs → All P (drop n xs)
  all_drop zero xs h = h
  all_drop (suc n) [] h = tt
  all_drop (suc n) (x ∷ xs) h = all_drop n xs h.1

  pub all_replicate : (n : ℕ) (x : A) → P x → All P (replicate n x)
  all_replicate zero x h = tt
  all_replicate (suc n) x h = (h, all_replicate n x h)

abbrev pub IsBit : ℕ → Type 0
IsBit b = b < 2

abbrev pub IsByte : ℕ → Type 0
IsByte b = b < 256

abbrev pub AreBits : List ℕ → Type 0
AreBits bs = All IsBit bs

abbrev pub AreBytes : List ℕ → Type 0
AreBytes s = All IsByte s

-- the elements of a slice of bytes are bytes
pub are_bytes_of : (s : List ℕ) → ((i : ℕ) → get_or s i 0 < 256) → AreBytes s
are_bytes_of [] h = tt
are_bytes_of (b ∷ s) h = (h 0, are_bytes_of s (λ i. h (suc i)))

pub are_bits_zeros : (n : ℕ) → AreBits (zeros n)
are_bits_zeros n = all_replicate IsBit n 0 (omega arith)

-- ---- one field

pub to_bits_length : (w v : ℕ) → length (to_bits w v) ≡ w
unfolding to_bits
to_bits_length zero v = refl
to_bits_length (suc w) v = ap suc (to_bits_length w v)

pub to_bits_bits : (w v : ℕ) → AreBits (to_bits w v)
unfolding to_bits
to_bits_bits zero v = tt
to_bits_bits (suc w) v = (mod-lt (v / 2 ^ w) (omega arith), to_bits_bits w v)

pub to_bits_zero : (w : ℕ) → to_bits w 0 ≡ zeros w
unfolding to_bits
to_bits_zero zero = refl
to_bits_zero (suc w) = ap₂ (λ (x : ℕ) (l : List ℕ). x ∷ l) (ap (λ (x : ℕ). x % 2) (zero-div (2 ^ w))) (to_bits_zero w)

-- bits behind a number, and further bits behind those
pub onto_append : (a : ℕ) (xs ys : List ℕ) → onto a (xs ++ ys) ≡ onto (onto a xs) ys
unfolding onto
onto_append a [] ys = refl
onto_append a (x ∷ xs) ys = onto_append (a * 2 + x) xs ys

dig : (a b p : ℕ) → (a * 2 + b) * p ≡ a * (p * 2) + b * p
dig a b p = add-mul (a * 2) b p ∙ ap (λ (x : ℕ). x + b * p) (mul_assoc a 2 p ∙ ap (λ (x : ℕ). a * x) (mul_comm 2 p))

-- the number in front is shifted by as many places as there are bits
pub onto_value : (a : ℕ) (bs : List ℕ) → onto a bs ≡ a * 2 ^ length bs + value bs
unfolding onto
onto_value a [] = omega arith
onto_value a (b ∷ bs) =
    omega (
      arith,
      onto_value (a * 2 + b) bs,
      onto_value (0 + b) bs,
      dig a b (2 ^ length bs),
      ap (λ (x : ℕ). x * 2 ^ length bs) (zero-add b),
      ap (λ (x : ℕ). a * x) (pow-suc 2 (length bs)),
    )

pub onto_to_bits : (a w v : ℕ) → onto a (to_bits w v) ≡ a * 2 ^ w + v % 2 ^ w
unfolding onto to_bits
onto_to_bits a zero v = omega arith
onto_to_bits a (suc w) v =
    omega (
      arith,
      onto_to_bits (a * 2 + v / 2 ^ w % 2) w v,
      dig a (v / 2 ^ w % 2) (2 ^ w),
      ap (λ (x : ℕ). a * x) (pow-suc 2 w),
      ap (λ (x : ℕ). v % 2 ^ x) (let e : 1 + w ≡ suc w = omega arith in e),
      mod-pow-add v 1 w,
    )

-- a field that is written reads back
pub field_back : (w v : ℕ) → v < 2 ^ w → value (to_bits w v) ≡ v
field_back w v h = omega (arith, onto_to_bits 0 w v, mod-eq_of_lt h)

-- what is read fits the width
pub value_lt : (bs : List ℕ) → AreBits bs → value bs < 2 ^ length bs
unfolding onto
value_lt [] h = omega arith
value_lt (b ∷ bs) h =
    omega (
      arith,
      onto_value (0 + b) bs,
      digits_lt {q = 0 + b} {m = 2} (omega arith) (value_lt bs h.1),
      pow-suc 2 (length bs),
    )

-- a field that is read writes back
pub bits_back : (a : ℕ) (bs : List ℕ) → AreBits bs → to_bits (length bs) (onto a bs) ≡ bs
unfolding onto to_bits
bits_back a [] h = refl
bits_back a (b ∷ bs) h =
    ap₂ (λ (x : ℕ) (ys : List ℕ). x ∷ ys)
    (ap (λ (x : ℕ). x / 2 ^ length bs % 2) (onto_value (a * 2 + b) bs)
    ∙ ap (λ (x : ℕ). x % 2) (high (a * 2 + b) (length bs) (value_lt bs h.1)) ∙ omega arith)
    (bits_back (a * 2 + b) bs h.1)

-- ---- a field at the front of a string of bits

pub field_first : (w v : ℕ) (rest : List ℕ) → v < 2 ^ w → value (take w (to_bits w v ++ rest)) ≡ v
field_first w v rest h = ap value (take_at (to_bits w v) rest w (to_bits_length w v)) ∙ field_back w v h

pub field_rest : (w v : ℕ) (rest : List ℕ) → drop w (to_bits w v ++ rest) ≡ rest
field_rest w v rest = drop_at (to_bits w v) rest w (to_bits_length w v)

pub field_fits : (w v : ℕ) (rest : List ℕ) → w ≤ length (to_bits w v ++ rest)
field_fits w v rest = omega (arith, length-append (to_bits w v) rest, to_bits_length w v)

-- the bits that a field was read from
pub taken_back : (w : ℕ) (bs : List ℕ) → AreBits bs → w ≤ length bs → to_bits w (value (take w bs)) ≡ take w bs
taken_back w bs h n =
    ap (λ (k : ℕ). to_bits k (value (take w bs))) (sym (length-take-le w bs n)) ∙ bits_back 0 (take w bs) (all_take IsBit w bs h)

pub taken_split : (w : ℕ) (bs : List ℕ) → AreBits bs → w ≤ length bs → to_bits w (value (take w bs)) ++ drop w bs ≡ bs
taken_split w bs h n = ap (λ (l : List ℕ). l ++ drop w bs) (taken_back w bs h n) ∙ take-append-drop w bs

pub taken_lt : (w : ℕ) (bs : List ℕ) → AreBits bs → w ≤ length bs → value (take w bs) < 2 ^ w
taken_lt w bs h n = omega (arith, value_lt (take w bs) (all_take IsBit w bs h), ap (λ (k : ℕ). 2 ^ k) (length-take-le w bs n))

-- a front part of a string of bits is the number without its last places, the rest is those places
pub value_front : (k : ℕ) (bs : List ℕ) → AreBits bs → k ≤ length bs → value (take k bs) ≡ value bs / 2 ^ (length bs - k)
value_front k bs h n =
    let xs : List ℕ = take k bs in
    let ys : List ℕ = drop k bs in
    sym
    (ap (λ (l : List ℕ). value l / 2 ^ (length bs - k)) (sym (take-append-drop k bs))
    ∙ ap (λ (x : ℕ). x / 2 ^ (length bs - k)) (onto_append 0 xs ys ∙ onto_value (value xs) ys)
    ∙ ap (λ (j : ℕ). (value xs * 2 ^ j + value ys) / 2 ^ (length bs - k)) (length-drop k bs)
    ∙ high (value xs) (length bs - k) (omega (arith, value_lt ys (all_drop IsBit k bs h), ap (λ (j : ℕ). 2 ^ j) (length-drop k bs))))

pub value_back : (k : ℕ) (bs : List ℕ) → AreBits bs → k ≤ length bs → value (drop k bs) ≡ value bs % 2 ^ (length bs - k)
value_back k bs h n =
    let xs : List ℕ = take k bs in
    let ys : List ℕ = drop k bs in
    sym
    (ap (λ (l : List ℕ). value l % 2 ^ (length bs - k)) (sym (take-append-drop k bs))
    ∙ ap (λ (x : ℕ). x % 2 ^ (length bs - k)) (onto_append 0 xs ys ∙ onto_value (value xs) ys)
    ∙ ap (λ (j : ℕ). (value xs * 2 ^ j + value ys) % 2 ^ (length bs - k)) (length-drop k bs)
    ∙ low (value xs) (length bs - k) (omega (arith, value_lt ys (all_drop IsBit k bs h), ap (λ (j : ℕ). 2 ^ j) (length-drop k bs))))

-- ---- strings of bytes

pub bits_append : (xs ys : List ℕ) → bits (xs ++ ys) ≡ bits xs ++ bits ys
unfolding bits
bits_append [] ys = refl
bits_append (x ∷ xs) ys = rw (bits_append xs ys, append_assoc)

pub bits_length : (s : List ℕ) → length (bits s) ≡ 8 * length s
unfolding bits
bits_length [] = refl
bits_length (b ∷ s) = omega (arith, length-append (to_bits 8 b) (bits s), bits_length s, to_bits_length 8 b)

pub bits_bits : (s : List ℕ) → AreBits (bits s)
unfolding bits
bits_bits [] = tt
bits_bits (b ∷ s) = all_append IsBit (to_bits 8 b) (bits s) (to_bits_bits 8 b) (bits_bits s)

-- bytes are known by their bits
pub bits_inj : (s t : List ℕ) → AreBytes s → AreBytes t → bits s ≡ bits t → s ≡ t
unfolding bits
bits_inj [] [] hs ht e = refl
bits_inj [] (y ∷ t) hs ht e = absurd (omega (arith, ap length e, bits_length [], bits_length (y ∷ t)))
bits_inj (x ∷ s) [] hs ht e = absurd (omega (arith, ap length e, bits_length [], bits_length (x ∷ s)))
bits_inj (x ∷ s) (y ∷ t) hs ht e =
    ap₂ (λ (a : ℕ) (l : List ℕ). a ∷ l)
    (sym (field_first 8 x (bits s) hs.0) ∙ ap (λ (l : List ℕ). value (take 8 l)) e ∙ field_first 8 y (bits t) ht.0)
    (bits_inj s t hs.1 ht.1 (sym (field_rest 8 x (bits s)) ∙ ap (drop 8) e ∙ field_rest 8 y (bits t)))
