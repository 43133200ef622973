-- A field is the bytes that it touches as one number, without the bits in front and behind: once for every place and width.
-- Assumes nothing.
use Prim.Native.Nat.{ℕ, ◌+◌, ◌*◌, ◌/◌, ◌%◌, ◌^◌, ◌<◌, ◌≤◌, ◌-◌}
use mathlib.Core.Path.{◌≡◌, refl, sym, ap, ap₂, ◌∙◌}
use mathlib.Core.List.{List, [], ◌∷◌, ◌++◌, append-nil}
use native.Mathlib.Omega.{arith}
use native.Mathlib.Numerals.{add-one}
use native.Mathlib.Nat.{mul-mod_left, mod-eq_of_lt, add-zero}
use lib.ListN.{length, get_or, take, drop, length-drop, take-append-drop}
use lib.Seq.{take-suc, get_or-drop, length-take-le, drop-drop, drop-append-le, take-append-le, take-add}
use lib.Pow.{mod-pow-add, shl-shr, shr-shr, pow_mono}
use Rattle.laws.specs.Bits.{bits, onto, to_bits, value}
use Rattle.laws.proofs.Fields.{AreBits, IsBit, all_drop, bits_append, bits_bits, bits_length, onto_append, onto_to_bits, onto_value, taken_lt, value_back, value_front, value_lt}
use Rattle.laws.proofs.Packing.{drop_bits}
use Rattle.bits.specs.Places.{field_at, word_of}

pub word_none : (s : List ℕ) (i : ℕ) → 0 ≡ word_of s i 0
unfolding bits onto
word_none s i = refl

pub word_more : (s : List ℕ) (i j : ℕ) → i + j < length s → get_or s (i + j) 0 < 256 → word_of s i (j + 1) ≡ word_of s i j * 256 + get_or s (i + j) 0
unfolding bits
word_more s i j h hb =
    let t : List ℕ = drop i s in
    ap (λ (l : List ℕ). value (bits l))
    (ap (λ (n : ℕ). take n t) (add-one j) ∙ take-suc t j 0 (omega (arith, length-drop i s)) ∙ ap (λ (x : ℕ). take j t ++ (x ∷ [])) (get_or-drop i s j 0))
    ∙ ap value (bits_append (take j t) (get_or s (i + j) 0 ∷ []) ∙ ap (λ (l : List ℕ). bits (take j t) ++ l) (append-nil (to_bits 8 (get_or s (i + j) 0))))
    ∙ onto_append 0 (bits (take j t)) (to_bits 8 (get_or s (i + j) 0))
    ∙ onto_to_bits (word_of s i j) 8 (get_or s (i + j) 0)
    ∙ ap (λ (x : ℕ). word_of s i j * 256 + x) (mod-eq_of_lt hb)

word_length : (s : List ℕ) (i n : ℕ) → i + n ≤ length s → length (bits (take n (drop i s))) ≡ 8 * n
word_length s i n h =
    bits_length (take n (drop i s)) ∙ ap (λ (k : ℕ). 8 * k) (length-take-le n (drop i s) (omega (arith, length-drop i s)))

pub word_lt : (s : List ℕ) (i n : ℕ) → i + n ≤ length s → word_of s i n < 2 ^ (8 * n)
word_lt s i n h =
    omega (arith, value_lt (bits (take n (drop i s))) (bits_bits (take n (drop i s))), ap (λ (k : ℕ). 2 ^ k) (word_length s i n h))

-- of few bytes
pub word_small : (s : List ℕ) (i n : ℕ) → i + n ≤ length s → n ≤ 4 → word_of s i n < 4294967296
word_small s i n h k = omega (arith, word_lt s i n h, pow_mono {i = 8 * n} {j = 32} (omega arith))

-- a number of m places in a register of m + k, shifted up and down again: its w highest places
clip : (v k m w : ℕ) → w ≤ m → v * 2 ^ k % 2 ^ (m + k) / 2 ^ (m + k - w) ≡ v % 2 ^ m / 2 ^ (m - w)
clip v k m w h =
    ap (λ (x : ℕ). x / 2 ^ (m + k - w))
    (mod-pow-add (v * 2 ^ k) m k
    ∙ ap (λ (x : ℕ). x % 2 ^ m * 2 ^ k + v * 2 ^ k % 2 ^ k) (shl-shr v k)
    ∙ ap (λ (x : ℕ). v % 2 ^ m * 2 ^ k + x) (mul-mod_left v (2 ^ k)) ∙ add-zero (v % 2 ^ m * 2 ^ k))
    ∙ ap (λ (n : ℕ). v % 2 ^ m * 2 ^ k / 2 ^ n) (let e : m + k - w ≡ k + (m - w) = omega arith in e)
    ∙ sym (shr-shr (v % 2 ^ m * 2 ^ k) k (m - w)) ∙ ap (λ (x : ℕ). x / 2 ^ (m - w)) (shl-shr (v % 2 ^ m) k)

-- the bits of a field stand in the bytes that it touches
in_word : (s : List ℕ) (i bit w n : ℕ) → i + n ≤ length s → bit + w ≤ 8 * n → take w (drop (8 * i + bit) (bits s)) ≡ take w (drop bit (bits (take n (drop i s))))
in_word s i bit w n h k =
    let t : List ℕ = drop i s in
    let x : List ℕ = bits (take n t) in
    ap (take w)
    (sym (drop-drop bit (8 * i) (bits s))
    ∙ ap (drop bit) (drop_bits i s ∙ ap bits (sym (take-append-drop n t)) ∙ bits_append (take n t) (drop n t))
    ∙ drop-append-le bit x (bits (drop n t)) (omega (arith, word_length s i n h)))
    ∙ take-append-le w (drop bit x) (bits (drop n t)) (omega (arith, length-drop bit x, word_length s i n h))

pub word_field : (s : List ℕ) (i bit w n : ℕ) → i + n ≤ length s → bit + w ≤ 8 * n → 8 * n ≤ bit + 64
    → word_of s i n * 2 ^ (64 - (8 * n - bit)) % 2 ^ 64 / 2 ^ (64 - w) ≡ field_at s (8 * i + bit) w
unfolding field_at
word_field s i bit w n h k f =
    let x : List ℕ = bits (take n (drop i s)) in
    let hx : AreBits x = bits_bits (take n (drop i s)) in
    let l : length x ≡ 8 * n = word_length s i n h in
    let ld : length (drop bit x) ≡ 8 * n - bit = length-drop bit x ∙ ap (λ (j : ℕ). j - bit) l in
    let m : ℕ = 8 * n - bit in
    ap (λ (j : ℕ). word_of s i n * 2 ^ (64 - m) % 2 ^ j / 2 ^ (j - w)) (let e : 64 ≡ m + (64 - m) = omega arith in e)
    ∙ clip (word_of s i n) (64 - m) m w (omega arith)
    ∙ ap (λ (j : ℕ). value x % 2 ^ (j - bit) / 2 ^ (m - w)) (sym l)
    ∙ ap (λ (y : ℕ). y / 2 ^ (m - w)) (sym (value_back bit x hx (omega arith)))
    ∙ ap (λ (j : ℕ). value (drop bit x) / 2 ^ (j - w)) (sym ld)
    ∙ sym (value_front w (drop bit x) (all_drop IsBit bit x hx) (omega arith))
    ∙ ap value (sym (in_word s i bit w n h k))

-- four bytes
pub word_four : (s : List ℕ) (i a b c d : ℕ) → i + 4 ≤ length s
    → (a ≡ get_or s i 0) × (a < 256) → (b ≡ get_or s (i + 1) 0) × (b < 256) → (c ≡ get_or s (i + 2) 0) × (c < 256) → (d ≡ get_or s (i + 3) 0) × (d < 256)
    → a * 16777216 + b * 65536 + (c * 256 + d) ≡ word_of s i 4
word_four s i a b c d h ea eb ec ed =
    omega (
      arith,
      word_none s i,
      ap (λ (k : ℕ). get_or s k 0) (add-zero i),
      word_more s i 0 (omega arith) (omega (arith, ap (λ (k : ℕ). get_or s k 0) (add-zero i))),
      word_more s i 1 (omega arith) (omega arith),
      word_more s i 2 (omega arith) (omega arith),
      word_more s i 3 (omega arith) (omega arith),
    )

-- some bytes and those behind them
pub word_joined : (s : List ℕ) (i a b : ℕ) → i + a + b ≤ length s → word_of s i (a + b) ≡ word_of s i a * 2 ^ (8 * b) + word_of s (i + a) b
word_joined s i a b h =
    let t : List ℕ = drop i s in
    ap (λ (l : List ℕ). value (bits l)) (take-add a b t) ∙ ap value (bits_append (take a t) (take b (drop a t)))
    ∙ onto_append 0 (bits (take a t)) (bits (take b (drop a t))) ∙ onto_value (value (bits (take a t))) (bits (take b (drop a t)))
    ∙ ap (λ (l : List ℕ). word_of s i a * 2 ^ length (bits (take b l)) + value (bits (take b l))) (drop-drop a i s)
    ∙ ap (λ (n : ℕ). word_of s i a * 2 ^ n + word_of s (i + a) b) (word_length s (i + a) b h)

-- a field that lies in eight bytes
pub eight_field : (s : List ℕ) (i bit w v : ℕ) → i + 8 ≤ length s → bit + w ≤ 64 → v ≡ word_of s i 8 → v * 2 ^ bit % 2 ^ 64 / 2 ^ (64 - w) ≡ field_at s (8 * i + bit) w
eight_field s i bit w v h k e =
    ap₂ (λ (x j : ℕ). x * 2 ^ j % 2 ^ 64 / 2 ^ (64 - w)) e (let q : bit ≡ 64 - (8 * 8 - bit) = omega arith in q)
    ∙ word_field s i bit w 8 h k (omega arith)

-- a field that lies in four bytes
pub near_field : (s : List ℕ) (i bit w v : ℕ) → i + 4 ≤ length s → bit + w ≤ 32 → v ≡ word_of s i 4 → v * 2 ^ (32 + bit) % 2 ^ 64 / 2 ^ (64 - w) ≡ field_at s (8 * i + bit) w
near_field s i bit w v h k e =
    ap₂ (λ (x j : ℕ). x * 2 ^ j % 2 ^ 64 / 2 ^ (64 - w)) e (let q : 32 + bit ≡ 64 - (8 * 4 - bit) = omega arith in q)
    ∙ word_field s i bit w 4 h k (omega arith)

pub field_none : (s : List ℕ) (at : ℕ) → 0 ≡ field_at s at 0
unfolding field_at onto
field_none s at = refl

pub field_lt : (s : List ℕ) (at w : ℕ) → at + w ≤ 8 * length s → field_at s at w < 2 ^ w
unfolding field_at
field_lt s at w h =
    taken_lt w (drop at (bits s)) (all_drop IsBit at (bits s) (bits_bits s)) (omega (arith, length-drop at (bits s), bits_length s))

-- two fields, one behind the other, are one
pub field_joined : (s : List ℕ) (at a b : ℕ) → at + a + b ≤ 8 * length s → field_at s at (a + b) ≡ field_at s at a * 2 ^ b + field_at s (at + a) b
unfolding field_at
field_joined s at a b h =
    let t : List ℕ = drop at (bits s) in
    let e : drop a t ≡ drop (at + a) (bits s) = drop-drop a at (bits s) in
    ap value (take-add a b t) ∙ onto_append 0 (take a t) (take b (drop a t)) ∙ onto_value (value (take a t)) (take b (drop a t))
    ∙ ap (λ (n : ℕ). value (take a t) * 2 ^ n + value (take b (drop a t))) (length-take-le b (drop a t) (omega (arith, length-drop a t, length-drop at (bits s), bits_length s)))
    ∙ ap (λ (l : List ℕ). value (take a t) * 2 ^ b + value (take b l)) e
