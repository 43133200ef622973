-- End behind calls: the bytes of their recording, and the buffer that has it in front.
-- Assumes nothing.
use Prim.Native.Nat.{ℕ, ◌+◌, ◌-◌, ◌*◌, ◌≤◌, ◌<◌}
use native.Mathlib.Omega.{arith}
use mathlib.Core.Bool.{true}
use mathlib.Core.List.{List, ◌++◌, append_assoc}
use mathlib.Core.Path.{◌≡◌, refl, ap, ap₂, sym, ◌∙◌}
use borrow.Author.Tests.{le-leb}
use lib.ListN.{length, drop, length-append, length-replicate}
use Rattle.laws.specs.Lists.{flat}
use Rattle.laws.specs.Bits.{bits, bytes_for, to_bits, zeros, pack}
use Rattle.laws.proofs.Fields.{AreBits, AreBytes, IsBit, all_append, are_bits_zeros, to_bits_bits, to_bits_length}
use Rattle.laws.proofs.Packing.{front, front_bytes, pack_length, pad_of, paste_front}
use Rattle.rules.specs.declared.Call.{Call}
use Rattle.std.specs.Prelude.{Result, Ok}
use Rattle.rules.specs.declared.Refusal.{Refusal}
use Rattle.rules.specs.declared.Place.{Place}
use Rattle.rules.specs.Recordings.{call_bits, recording_of, bit_at, place_after, first_place, fits, written, end_bits, finish_of, finished_by, finished_to}
use Rattle.record_call.proofs.Widths.{calls_bits}
use Rattle.record_call.proofs.Written.{place_bit, place_there, written_bits, written_bytes, written_length, written_more}

module _ (calls : List Call) (old : List ℕ) (p : Place) (ho : AreBytes old) (at-end : p ≡ place_after first_place (length (flat call_bits calls))) (small : p.bit < 8) where
  abbrev body : List ℕ
  body = flat call_bits calls

  -- the calls' bits, and end
  abbrev fields : List ℕ
  fields = body ++ to_bits 2 3

  here : bit_at p ≡ length body
  here = omega (arith, ap bit_at at-end, place_bit first_place (length body))

  fields_length : length fields ≡ length body + 2
  fields_length = length-append body (to_bits 2 3) ∙ ap (λ (k : ℕ). length body + k) (to_bits_length 2 3)

  pub bytes_are : length (recording_of calls) ≡ p.byte + bytes_for (p.bit + 2)
  unfolding recording_of
  bytes_are = pack_length fields ∙ (let e : bytes_for (length fields) ≡ p.byte + bytes_for (p.bit + 2) = omega (arith, fields_length, here) in e)

  module _ (room : length (recording_of calls) ≤ length old) where
    abbrev buffer : List ℕ
    buffer = written old first_place body

    buffer_length : length buffer ≡ length old
    buffer_length = written_length old first_place body

    end_length : length (end_bits p) ≡ 8 * bytes_for (p.bit + 2) - p.bit
    end_length = length-append (to_bits 2 3) (zeros (8 * bytes_for (p.bit + 2) - (p.bit + 2)))
        ∙ ap₂ ◌+◌ (to_bits_length 2 3) (length-replicate {A = ℕ} (8 * bytes_for (p.bit + 2) - (p.bit + 2)) 0) ∙ (let e : 2 + (8 * bytes_for (p.bit + 2) - (p.bit + 2)) ≡ 8 * bytes_for (p.bit + 2) - p.bit = omega arith in e)

    end_fits : fits buffer p (end_bits p) ≡ true
    end_fits = le-leb (bit_at p + length (end_bits p)) (8 * length buffer) (omega (arith, end_length, buffer_length, bytes_are))

    pub finishes : finish_of buffer p ≡ Ok (length (recording_of calls))
    unfolding finish_of
    finishes = rw (place_there buffer p small (omega (arith, buffer_length, bytes_are)), end_fits) (ap Ok (sym bytes_are))

    end_bits_lem : AreBits (end_bits p)
    end_bits_lem = all_append IsBit (to_bits 2 3) (zeros (8 * bytes_for (p.bit + 2) - (p.bit + 2))) (to_bits_bits 2 3) (are_bits_zeros (8 * bytes_for (p.bit + 2) - (p.bit + 2)))

    all_room : bit_at first_place + length (body ++ end_bits p) ≤ 8 * length old
    all_room = omega (arith, length-append body (end_bits p), end_length, bytes_are, here)

    whole_is : body ++ end_bits p ≡ fields ++ zeros (pad_of (length fields))
    whole_is = sym (append_assoc body (to_bits 2 3) (zeros (8 * bytes_for (p.bit + 2) - (p.bit + 2))))
        ∙ ap (λ (k : ℕ). fields ++ zeros k) (let e : 8 * bytes_for (p.bit + 2) - (p.bit + 2) ≡ pad_of (length fields) = omega (arith, fields_length, here) in e)

    -- the bits that are written are all in front
    front_is : bits (written old first_place (body ++ end_bits p)) ≡ front (fields ++ zeros (pad_of (length fields))) (bits old)
    front_is = written_bits old first_place (body ++ end_bits p) (all_append IsBit body (end_bits p) (calls_bits calls) end_bits_lem) all_room
        ∙ paste_front (bits old) (body ++ end_bits p) (length (body ++ end_bits p)) refl ∙ ap (λ (l : List ℕ). front l (bits old)) whole_is

    pub finished : finished_to buffer p ≡ recording_of calls ++ drop (length (recording_of calls)) old
    unfolding finished_to recording_of
    finished =
        ap (λ (a : Result ℕ Refusal). finished_by a buffer p) finishes
        ∙ ap (λ (q : Place). written buffer q (end_bits p)) at-end
        ∙ written_more old first_place body (end_bits p) (calls_bits calls) end_bits_lem (omega (arith, all_room, length-append body (end_bits p)))
        ∙ front_bytes fields old (written old first_place (body ++ end_bits p)) (all_append IsBit body (to_bits 2 3) (calls_bits calls) (to_bits_bits 2 3)) ho
        (written_bytes old first_place (body ++ end_bits p) (all_append IsBit body (end_bits p) (calls_bits calls) end_bits_lem) all_room) front_is
        ∙ ap (λ (k : ℕ). pack fields ++ drop k old) (sym (pack_length fields))
