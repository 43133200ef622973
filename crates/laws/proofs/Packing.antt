-- Bits as bytes: zero bits to the end of the last byte, and buffers that are written from the front.
-- Assumes nothing.
use Prim.Native.Nat.{ℕ, zero, suc, ◌+◌, ◌*◌, ◌^◌, ◌<◌, ◌≤◌, ◌-◌}
use mathlib.Core.Path.{◌≡◌, refl, sym, ap, ap₂, ◌∙◌}
use mathlib.Core.List.{List, [], ◌∷◌, ◌++◌, append_assoc}
use native.Mathlib.Omega.{arith}
use lib.ListN.{length, take, drop, length-append, length-drop, length-replicate}
use lib.Seq.{paste, take-paste, drop-paste, take-length, drop-append-add, drop-drop, drop-nil, take-add, take-append-add, length-take-le}
use Rattle.laws.specs.Bits.{bits, bytes, bytes_for, pack, to_bits, zeros}
use Rattle.laws.proofs.Fields.{AreBits, AreBytes, IsBit, IsByte, all_append, all_drop, all_take, are_bits_zeros, bits_append, bits_inj, bits_length, taken_back, to_bits_length, value_lt}

-- ---- packing

pub bytes_length : (n : ℕ) (bs : List ℕ) → length (bytes n bs) ≡ n
unfolding bytes
bytes_length zero bs = refl
bytes_length (suc n) bs = ap suc (bytes_length n (drop 8 bs))

pub bytes_bits : (n : ℕ) (bs : List ℕ) → AreBits bs → 8 * n ≤ length bs → bits (bytes n bs) ≡ take (8 * n) bs
unfolding bytes bits
bytes_bits zero bs h l = refl
bytes_bits (suc n) bs h l =
    ap₂ (λ (x y : List ℕ). x ++ y)
    (taken_back 8 bs h (omega arith))
    (bytes_bits n (drop 8 bs) (all_drop IsBit 8 bs h) (omega (arith, length-drop 8 bs)))
    ∙ sym (take-add 8 (8 * n) bs) ∙ ap (λ (k : ℕ). take k bs) (let q : 8 + 8 * n ≡ 8 * suc n = omega arith in q)

pub bytes_bytes : (n : ℕ) (bs : List ℕ) → AreBits bs → 8 * n ≤ length bs → AreBytes (bytes n bs)
unfolding bytes
bytes_bytes zero bs h l = tt
bytes_bytes (suc n) bs h l = (
  omega (arith, value_lt (take 8 bs) (all_take IsBit 8 bs h), ap (λ (k : ℕ). 2 ^ k) (length-take-le 8 bs (omega arith))),
  bytes_bytes n (drop 8 bs) (all_drop IsBit 8 bs h) (omega (arith, length-drop 8 bs)),
)

take_zeros : (k m : ℕ) → k ≤ m → take k (zeros m) ≡ zeros k
take_zeros zero m h = refl
take_zeros (suc k) zero h = absurd (omega arith)
take_zeros (suc k) (suc m) h = ap (λ (l : List ℕ). 0 ∷ l) (take_zeros k m (omega arith))

-- as many zeros as n bits lack to a whole byte
abbrev pub pad_of : ℕ → ℕ
pad_of n = 8 * bytes_for n - n

pub pad_few : (n : ℕ) → pad_of n < 8
pad_few n = omega arith

pub pack_length : (bs : List ℕ) → length (pack bs) ≡ bytes_for (length bs)
unfolding pack
pack_length bs = bytes_length (bytes_for (length bs)) (bs ++ zeros 7)

room : (bs : List ℕ) → 8 * bytes_for (length bs) ≤ length (bs ++ zeros 7)
room bs = omega (arith, length-append bs (zeros 7))

pub pack_bits : (bs : List ℕ) → AreBits bs → bits (pack bs) ≡ bs ++ zeros (pad_of (length bs))
unfolding pack
pack_bits bs h =
    bytes_bits (bytes_for (length bs)) (bs ++ zeros 7) (all_append IsBit bs (zeros 7) h (are_bits_zeros 7)) (room bs)
    ∙ ap (λ (k : ℕ). take k (bs ++ zeros 7)) (let e : 8 * bytes_for (length bs) ≡ length bs + pad_of (length bs) = omega arith in e)
    ∙ take-append-add bs (zeros 7) (pad_of (length bs))
    ∙ ap (λ (l : List ℕ). bs ++ l) (take_zeros (pad_of (length bs)) 7 (omega arith))

pub pack_bytes : (bs : List ℕ) → AreBits bs → AreBytes (pack bs)
unfolding pack
pack_bytes bs h =
    bytes_bytes (bytes_for (length bs)) (bs ++ zeros 7) (all_append IsBit bs (zeros 7) h (are_bits_zeros 7)) (room bs)

-- bytes whose bits are these, with fewer than eight zeros behind, are the packed ones
pub pack_unique : (bs s : List ℕ) (k : ℕ) → AreBits bs → AreBytes s → k < 8 → bits s ≡ bs ++ zeros k → pack bs ≡ s
pack_unique bs s k h hs hk e =
    let n : 8 * length s ≡ length bs + k = omega (arith, ap length e, bits_length s, length-append bs (zeros k), length-replicate {A = ℕ} k 0) in
    bits_inj (pack bs) s (pack_bytes bs h) hs
    (pack_bits bs h ∙ ap (λ (j : ℕ). bs ++ zeros j) (let q : pad_of (length bs) ≡ k = omega arith in q) ∙ sym e)

-- ---- a buffer that is written from its start

-- f goes over the first places of d
abbrev pub front : List ℕ → List ℕ → List ℕ
front f d = f ++ drop (length f) d

-- two fields, one behind the other, are one
pub paste_more : (d f g : List ℕ) (at n w : ℕ) → at ≤ length d → length f ≡ n → length g ≡ w → paste (paste d at f n) (at + n) g w ≡ paste d at (f ++ g) (n + w)
paste_more d f g at n w h ef eg =
    ap₂ (λ (x y : List ℕ). x ++ y)
    (ap (λ (x : List ℕ). x ++ take w g) (take-paste d at f n h (omega arith))
    ∙ append_assoc (take at d) (take n f) (take w g)
    ∙ ap (λ (x : List ℕ). take at d ++ x)
    (ap₂ (λ (x y : List ℕ). x ++ y) (ap (λ (k : ℕ). take k f) (sym ef) ∙ take-length f) (ap (λ (k : ℕ). take k g) (sym eg) ∙ take-length g)
    ∙ sym (take-length (f ++ g)) ∙ ap (λ (k : ℕ). take k (f ++ g)) (let e : length (f ++ g) ≡ n + w = omega (arith, length-append f g) in e)))
    (sym (drop-drop w (at + n) (paste d at f n))
    ∙ ap (drop w) (drop-paste d at f n h (omega arith))
    ∙ drop-drop w (at + n) d ∙ ap (λ (k : ℕ). drop k d) (let e : at + n + w ≡ at + (n + w) = omega arith in e))

-- what is written at the start goes over the first places
pub paste_front : (d f : List ℕ) (n : ℕ) → length f ≡ n → paste d 0 f n ≡ front f d
paste_front d f n e =
    ap₂ (λ (x : List ℕ) (k : ℕ). x ++ drop k d) (ap (λ (k : ℕ). take k f) (sym e) ∙ take-length f) (let q : 0 + n ≡ length f = omega arith in q)

pub drop_bits : (n : ℕ) (s : List ℕ) → drop (8 * n) (bits s) ≡ bits (drop n s)
unfolding bits
drop_bits zero s = refl
drop_bits (suc n) [] = drop-nil (8 * suc n)
drop_bits (suc n) (b ∷ s) =
    ap (λ (k : ℕ). drop k (to_bits 8 b ++ bits s)) (let e : 8 * suc n ≡ length (to_bits 8 b) + 8 * n = omega (arith, to_bits_length 8 b) in e)
    ∙ drop-append-add (to_bits 8 b) (bits s) (8 * n) ∙ drop_bits n s

-- a buffer whose bits are these, padded to whole bytes, and then its old ones, holds the packed bytes, and then its old ones
pub front_bytes : (bs old new : List ℕ) → AreBits bs → AreBytes old → AreBytes new → bits new ≡ front (bs ++ zeros (pad_of (length bs))) (bits old)
    → new ≡ pack bs ++ drop (bytes_for (length bs)) old
front_bytes bs old new h ho hn e =
    let n : ℕ = bytes_for (length bs) in
    bits_inj new (pack bs ++ drop n old) hn (all_append IsByte (pack bs) (drop n old) (pack_bytes bs h) (all_drop IsByte n old ho))
    (e
    ∙ ap₂ (λ (x y : List ℕ). x ++ y) (sym (pack_bits bs h))
    (ap (λ (k : ℕ). drop k (bits old)) (let q : length (bs ++ zeros (pad_of (length bs))) ≡ 8 * n = omega (arith, length-append bs (zeros (pad_of (length bs))), length-replicate {A = ℕ} (pad_of (length bs)) 0) in q)
    ∙ drop_bits n old)
    ∙ sym (bits_append (pack bs) (drop n old)))
