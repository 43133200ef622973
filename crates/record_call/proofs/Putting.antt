-- A field that is put at a place: the answer, and the buffer.
-- Assumes nothing.
use Prim.Native.Nat.{ℕ, ◌+◌, ◌-◌, ◌*◌, ◌/◌, ◌%◌, ◌^◌, ◌≤◌, ◌<◌, min}
use native.Mathlib.Omega.{arith}
use mathlib.Core.Bool.{true, false}
use mathlib.Core.List.{List}
use mathlib.Core.Path.{◌≡◌, ap, ap₂, sym, ◌∙◌}
use borrow.Author.Tests.{leb-true, leb-false, le-leb, lt-leb}
use lib.Dec.{leb}
use lib.ListN.{length}
use lib.Seq.{paste}
use Rattle.laws.specs.Bits.{bits, to_bits}
use Rattle.laws.proofs.Sums.{by_test}
use Rattle.laws.proofs.Fields.{AreBytes, bits_inj, to_bits_bits, to_bits_length}
use Rattle.bits.specs.Places.{put_of, put_by, put_bits}
use Rattle.bits.specs.declared.NotPut.{NotPut}
use Rattle.bits.specs.declared.NotPut.TheVariants.{NoRoom}
use Rattle.std.specs.Prelude.{Result, Ok, Err}
use Rattle.rules.specs.declared.Refusal.{Refusal}
use Rattle.rules.specs.declared.Refusal.TheVariants.{ShortBuffer}
use Rattle.rules.specs.declared.Place.{Place}
use Rattle.rules.specs.Recordings.{bit_at, place_after, fits}
use Rattle.record_call.specs.Places.{put_answer, put_buffer}
use Rattle.record_call.proofs.Written.{written_by}

module _ (s new : List ℕ) (p : Place) (w v : ℕ) (r : Result (Unit {0}) NotPut) (some : 1 ≤ w) (few : w ≤ 9) (er : r ≡ put_of (length s) (bit_at p) w)
    (hs : AreBytes s) (hn : AreBytes new) (eb : bits new ≡ put_bits s (bit_at p) w v) where
  abbrev field : List ℕ
  field = to_bits w v

  abbrev Put : Result Place Refusal → Type 0
  Put a = (a ≡ put_answer s p field) × (new ≡ put_buffer s p field)

  -- there is room for the field, as `bits` tests it, or there is none
  with_room : bit_at p + w ≤ 8 * length s → put_of (length s) (bit_at p) w ≡ Ok tt
  unfolding put_of
  with_room h = rw (le-leb w 64 (omega arith), le-leb w (8 * length s - bit_at p) (omega arith))

  without : 8 * length s < bit_at p + w → put_of (length s) (bit_at p) w ≡ Err NoRoom
  unfolding put_of
  without h = rw (le-leb w 64 (omega arith), lt-leb w (8 * length s - bit_at p) (omega arith))

  room_of : r ≡ Ok tt → bit_at p + w ≤ 8 * length s
  room_of e = by_test (leb (bit_at p + w) (8 * length s)) (λ y. leb-true (bit_at p + w) (8 * length s) y)
      (λ y. let x : ◌≡◌ {A = Result (Unit {0}) NotPut} (Err NoRoom) (Ok tt) = sym (without (leb-false (bit_at p + w) (8 * length s) y)) ∙ sym er ∙ e in absurd (let z : ◌≡◌ {A = ℕ} 0 1 = cc in omega arith))

  no_room : (r ≡ Ok tt → ⊥) → 8 * length s < bit_at p + w
  no_room n = by_test (leb (bit_at p + w) (8 * length s))
      (λ y. absurd (n (er ∙ with_room (leb-true (bit_at p + w) (8 * length s) y))))
      (λ y. leb-false (bit_at p + w) (8 * length s) y)

  -- the place behind the field is one that the machine has numbers for
  pub put_done : length s < 2 ^ 64 → (q : Place) → q.byte ≡ min (p.byte + (p.bit + w) / 8) 18446744073709551615 → q.bit ≡ (p.bit + w) % 8 → r ≡ Ok tt → Put (Ok q)
  unfolding put_answer put_buffer put_bits place_after
  put_done short q qb qi e =
      let h = room_of e in
      let l : length field ≡ w = to_bits_length w v in
      let f : fits s p field ≡ true = le-leb (bit_at p + length field) (8 * length s) (omega arith) in
      let byte : q.byte ≡ p.byte + (p.bit + w) / 8 = omega arith in
      let there : ◌≡◌ {A = Place} q (record { byte = p.byte + (p.bit + w) / 8; bit = (p.bit + w) % 8 }) = ap₂ (λ (a b : ℕ). record { byte = a; bit = b }) byte qi in (
        rw (f, l) (ap Ok there),
        written_by s p field (to_bits_bits w v) (omega arith) new hn
            (eb ∙ ap (λ (x : Result (Unit {0}) NotPut). put_by x (bits s) (bit_at p) w v) (sym er ∙ e) ∙ ap (paste (bits s) (bit_at p) field) (sym l))
            ∙ rw f,
      )

  pub put_full : (r ≡ Ok tt → ⊥) → Put (Err ShortBuffer)
  unfolding put_answer put_buffer put_bits
  put_full n =
      let h = no_room n in
      let f : fits s p field ≡ false = lt-leb (bit_at p + length field) (8 * length s) (omega (arith, to_bits_length w v)) in (
        rw f,
        bits_inj new s hn hs (eb ∙ ap (λ (x : Result (Unit {0}) NotPut). put_by x (bits s) (bit_at p) w v) (without h)) ∙ rw f,
      )
