-- A buffer after bits were written at a place.
-- Assumes nothing.
use Prim.Native.Nat.{ℕ, ◌+◌, ◌*◌, ◌≤◌, ◌<◌}
use native.Mathlib.Omega.{arith}
use mathlib.Core.Bool.{true}
use mathlib.Core.List.{List, [], ◌++◌}
use mathlib.Core.Path.{◌≡◌, refl, ap, ap₂, sym, ◌∙◌}
use borrow.Author.Tests.{le-leb, lt-ltb}
use lib.ListN.{length, take, drop, length-append}
use lib.Seq.{paste, paste-zero, length-paste, take-length}
use Rattle.laws.specs.Bits.{bits, bytes}
use Rattle.laws.proofs.Fields.{AreBits, AreBytes, IsBit, all_append, all_take, all_drop, bits_bits, bits_inj, bits_length}
use Rattle.laws.proofs.Packing.{bytes_length, bytes_bits, bytes_bytes, paste_more}
use Rattle.rules.specs.declared.Call.{Call}
use Rattle.rules.specs.declared.Place.{Place}
use Rattle.rules.specs.Recordings.{call_bits, recordable, place_in, bit_at, place_after, written, append_of, appended_to}
use Rattle.record_call.proofs.Widths.{some_width}

module _ (s : List ℕ) (p : Place) (bs : List ℕ) where
  -- the buffer's bits with these at the place
  abbrev pub pasted : List ℕ
  pasted = paste (bits s) (bit_at p) bs (length bs)

  pasted_is : pasted ≡ take (bit_at p) (bits s) ++ bs ++ drop (bit_at p + length bs) (bits s)
  pasted_is = ap (λ (l : List ℕ). take (bit_at p) (bits s) ++ l ++ drop (bit_at p + length bs) (bits s)) (take-length bs)

  module _ (h : AreBits bs) (room : bit_at p + length bs ≤ 8 * length s) where
    pasted_bits : AreBits pasted
    pasted_bits =
        all_append IsBit (take (bit_at p) (bits s) ++ take (length bs) bs) (drop (bit_at p + length bs) (bits s))
        (all_append IsBit (take (bit_at p) (bits s)) (take (length bs) bs) (all_take IsBit (bit_at p) (bits s) (bits_bits s)) (all_take IsBit (length bs) bs h))
        (all_drop IsBit (bit_at p + length bs) (bits s) (bits_bits s))

    pub pasted_length : length pasted ≡ 8 * length s
    pasted_length = length-paste (bits s) (bit_at p) bs (length bs) (omega (arith, bits_length s)) (omega arith) ∙ bits_length s

    written_is : written s p bs ≡ bytes (length s) pasted
    unfolding written
    written_is = ap (bytes (length s)) (sym pasted_is)

    pub written_bits : bits (written s p bs) ≡ pasted
    written_bits =
        ap bits written_is ∙ bytes_bits (length s) pasted pasted_bits (omega (arith, pasted_length))
        ∙ ap (λ (k : ℕ). take k pasted) (sym pasted_length) ∙ take-length pasted

    pub written_bytes : AreBytes (written s p bs)
    written_bytes = rw written_is (bytes_bytes (length s) pasted pasted_bits (omega (arith, pasted_length)))

    pub written_by : (new : List ℕ) → AreBytes new → bits new ≡ pasted → new ≡ written s p bs
    written_by new hn e = bits_inj new (written s p bs) hn written_bytes (e ∙ sym written_bits)

  pub written_length : length (written s p bs) ≡ length s
  unfolding written
  written_length = bytes_length (length s) (take (bit_at p) (bits s) ++ bs ++ drop (bit_at p + length bs) (bits s))

-- ---- one behind the other

pub place_same : (p : Place) → p.bit < 8 → place_after p 0 ≡ p
unfolding place_after
place_same p h = ap₂ (λ (a b : ℕ). record { byte = a; bit = b }) (omega arith) (omega arith)

pub place_more : (p : Place) (a b : ℕ) → place_after (place_after p a) b ≡ place_after p (a + b)
unfolding place_after
place_more p a b = ap₂ (λ (x y : ℕ). record { byte = x; bit = y }) (omega arith) (omega arith)

pub place_bit : (p : Place) (n : ℕ) → bit_at (place_after p n) ≡ bit_at p + n
unfolding place_after
place_bit p n = omega arith

pub written_none : (s : List ℕ) (p : Place) → AreBytes s → bit_at p ≤ 8 * length s → s ≡ written s p []
written_none s p hs h = written_by s p [] tt (omega arith) s hs (paste-zero (bits s) (bit_at p) [])

pub written_more : (s : List ℕ) (p : Place) (f g : List ℕ) → AreBits f → AreBits g → bit_at p + length f + length g ≤ 8 * length s
    → written (written s p f) (place_after p (length f)) g ≡ written s p (f ++ g)
written_more s p f g hf hg h =
    let q : Place = place_after p (length f) in
    let here : bit_at q ≡ bit_at p + length f = place_bit p (length f) in
    let n : length (written s p f) ≡ length s = written_length s p f in
    let room : bit_at q + length g ≤ 8 * length (written s p f) = omega arith in
    written_by s p (f ++ g) (all_append IsBit f g hf hg) (omega (arith, length-append f g)) (written (written s p f) q g) (written_bytes (written s p f) q g hg room)
    (written_bits (written s p f) q g hg room
    ∙ ap₂ (λ (d : List ℕ) (k : ℕ). paste d k g (length g)) (written_bits s p f hf (omega arith)) here
    ∙ paste_more (bits s) f g (bit_at p) (length f) (length g) (omega (arith, bits_length s)) refl refl
    ∙ ap (paste (bits s) (bit_at p) (f ++ g)) (sym (length-append f g)))

-- ---- a call with room

pub place_there : (s : List ℕ) (p : Place) → p.bit < 8 → p.byte < length s → place_in s p ≡ true
unfolding place_in
place_there s p h k = rw (le-leb p.byte (length s) (omega arith), lt-ltb p.bit 8 h, lt-ltb p.byte (length s) k)

pub appended_is : (s : List ℕ) (p : Place) (c : Call) → p.bit < 8 → recordable c ≡ true → bit_at p + length (call_bits c) ≤ 8 * length s → appended_to s p c ≡ written s p (call_bits c)
unfolding appended_to append_of
appended_is s p c h k room = rw (place_there s p h (omega (arith, some_width c)), k, le-leb (bit_at p + length (call_bits c)) (8 * length s) room)
