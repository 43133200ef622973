-- The cab's recorder leaves the recording of the calls that it was given. Assumes nothing.
use Prim.Native.Nat.{ℕ, ◌+◌, ◌*◌, ◌≤◌, ◌<◌}
use native.Mathlib.Omega.{arith}
use mathlib.Core.Bool.{true}
use mathlib.Core.List.{List, [], ◌∷◌, ◌++◌}
use mathlib.Core.Path.{◌≡◌, refl, ap, sym, subst, ◌∙◌}
use borrow.Author.Tests.{le-leb}
use lib.ListN.{length, length-append}
use Rattle.std.specs.List.{list_all}
use Rattle.laws.specs.Lists.{flat}
use Rattle.laws.proofs.Sums.{and_parts}
use Rattle.laws.proofs.Fields.{AreBytes}
use Rattle.rules.specs.declared.Call.{Call}
use Rattle.std.specs.Prelude.{Ok}
use Rattle.rules.specs.Numbers.{record_says}
use Rattle.rules.specs.declared.Place.{Place}
use Rattle.rules.specs.Recordings.{call_bits, recordable, bit_at, place_after, first_place, written, append_of, appended_to}
use Rattle.record_call.proofs.Widths.{call_bits_lem, calls_bits, some_width}
use Rattle.record_call.proofs.Written.{place_same, place_more, place_bit, place_there, written_none, written_more, written_bytes, written_length, appended_is}
use Rattle.record_call.proofs.Finishing.{bytes_are, finishes, finished}
use Rattle.promise_replay.specs.Recorder.{Appends, none, one_more, RecorderRecords}

-- a call with room is appended
answers : (s : List ℕ) (p : Place) (c : Call) → p.bit < 8 → recordable c ≡ true → bit_at p + length (call_bits c) ≤ 8 * length s
    → append_of s p c ≡ Ok (place_after p (length (call_bits c)))
unfolding append_of
answers s p c h k room = rw (place_there s p h (omega (arith, some_width c)), k, le-leb (bit_at p + length (call_bits c)) (8 * length s) room)

small_after : (p : Place) (n : ℕ) → (place_after p n).bit < 8
unfolding place_after
small_after p n = omega arith

-- calls one after the other are written one behind the other
all_appended : (cs : List Call) (s : List ℕ) (p : Place) → AreBytes s → p.bit < 8 → list_all recordable cs ≡ true → bit_at p + length (flat call_bits cs) ≤ 8 * length s
    → Appends cs s p (written s p (flat call_bits cs)) (place_after p (length (flat call_bits cs)))
unfolding flat
all_appended [] s p hs h can room =
    subst (λ (b : List ℕ). Appends [] s p b (place_after p 0)) (written_none s p hs (omega (arith, room)))
    (subst (λ (q : Place). Appends [] s p s q) (sym (place_same p h)) none)
all_appended (c ∷ cs) s p hs h can room =
    let u = and_parts (recordable c) (list_all recordable cs) can in
    let w : List ℕ = call_bits c in
    let rest : List ℕ = flat call_bits cs in
    let q : Place = place_after p (length w) in
    let n : length (w ++ rest) ≡ length w + length rest = length-append w rest in
    let fit : bit_at p + length w ≤ 8 * length s = omega arith in
    let is : appended_to s p c ≡ written s p w = appended_is s p c h u.0 fit in
    let more : Appends cs (written s p w) q (written (written s p w) q rest) (place_after q (length rest)) =
    all_appended cs (written s p w) q (written_bytes s p w (call_bits_lem c) fit) (small_after p (length w)) u.1 (omega (arith, place_bit p (length w), written_length s p w)) in
    one_more q (answers s p c h u.0 fit)
    (subst (λ (b : List ℕ). Appends cs b q (written s p (w ++ rest)) (place_after p (length (w ++ rest)))) (sym is)
    (subst (λ (b : List ℕ). Appends cs (written s p w) q b (place_after p (length (w ++ rest)))) (written_more s p w rest (call_bits_lem c) (calls_bits cs) (omega arith))
    (subst (λ (x : Place). Appends cs (written s p w) q (written (written s p w) q rest) x) (place_more p (length w) (length rest) ∙ ap (place_after p) (sym n)) more)))

pub recorder_records : RecorderRecords
unfolding RecorderRecords
recorder_records calls buffer hb can room =
    let body : List ℕ = flat call_bits calls in
    let p : Place = place_after first_place (length body) in
    let here : bit_at p ≡ bit_at first_place + length body = place_bit first_place (length body) in
    let fit : bit_at first_place + length body ≤ 8 * length buffer = omega (arith, bytes_are calls buffer p hb refl (small_after first_place (length body))) in
    record {
      last = written buffer first_place body;
      place = p;
      appends = all_appended calls buffer first_place hb (omega arith) can fit;
      says = ap record_says (finishes calls buffer p hb refl (small_after first_place (length body)) room);
      leaves = finished calls buffer p hb refl (small_after first_place (length body)) room;
    }
