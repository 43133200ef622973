-- Calls as bits, and what the bits say: the calls, and the end. Assumes nothing.
use Prim.Native.Nat.{ℕ, zero, suc, ◌^◌, ◌<◌}
use native.Mathlib.Omega.{arith}
use mathlib.Core.Bool.{true, false}
use mathlib.Core.List.{List, ◌++◌, append_assoc}
use mathlib.Core.Path.{◌≡◌, refl, ap, ◌∙◌}
use borrow.Author.Tests.{ltb-true, le-leb, lt-ltb}
use lib.ListN.{length, length-replicate}
use Rattle.std.specs.List.{list_all}
use Rattle.laws.specs.Lists.{flat}
use Rattle.laws.specs.Bits.{to_bits, bits, zeros}
use Rattle.laws.proofs.Fields.{all_append, IsBit, to_bits_bits, field_first, field_rest, field_fits}
use Rattle.laws.proofs.Packing.{pad_of, pad_few, pack_bits}
use Rattle.rules.specs.declared.Call.{Call}
use Rattle.rules.specs.declared.Call.TheVariants.{Posts, Units}
use Rattle.std.specs.Prelude.{Ok, Some, None}
use Rattle.rules.specs.Sheet.{is_zero}
use Rattle.record_call.proofs.Widths.{calls_bits}
use Rattle.rules.specs.Recordings.{call_kind, stream_field, call_bits, recordable, recording_of, post_mark, kind_mark, mark_of}

-- ---- a call's bits say the call

post_says_lem : (k : ℕ) (rest : List ℕ) → k < 16 → post_mark (to_bits 4 k ++ rest) ≡ Ok (Some (Posts k))
post_says_lem k rest h = rw (le-leb 4 (length (to_bits 4 k ++ rest)) (field_fits 4 k rest), field_first 4 k rest h)

kind_says : (c : Call) (rest : List ℕ) → recordable c ≡ true → kind_mark (call_kind c) (stream_field c ++ rest) ≡ Ok (Some c)
kind_says (Posts k) rest e = post_says_lem k rest (ltb-true k 16 e)
kind_says (Units true) rest e = refl
kind_says (Units false) rest e = refl

kind_small : (c : Call) → call_kind c < 2 ^ 2
kind_small (Posts k) = omega arith
kind_small (Units true) = omega arith
kind_small (Units false) = omega arith

pub mark_call : (c : Call) (rest : List ℕ) → recordable c ≡ true → mark_of (call_bits c ++ rest) ≡ Ok (Some c)
unfolding mark_of call_bits
mark_call c rest e =
    ap mark_of (append_assoc (to_bits 2 (call_kind c)) (stream_field c) rest)
    ∙ rw (le-leb 2 (length (to_bits 2 (call_kind c) ++ (stream_field c ++ rest))) (field_fits 2 (call_kind c) (stream_field c ++ rest)), field_first 2 (call_kind c) (stream_field c ++ rest) (kind_small c), field_rest 2 (call_kind c) (stream_field c ++ rest))
    (kind_says c rest e)

-- ---- the end

zeros_zero : (n : ℕ) → list_all is_zero (zeros n) ≡ true
zeros_zero zero = refl
zeros_zero (suc n) = zeros_zero n

pub mark_end : (pad : ℕ) → pad < 8 → mark_of (to_bits 2 3 ++ zeros pad) ≡ (Ok None)
unfolding mark_of
mark_end pad h =
    rw (le-leb 2 (length (to_bits 2 3 ++ zeros pad)) (field_fits 2 3 (zeros pad)), field_first 2 3 (zeros pad) (omega arith), field_rest 2 3 (zeros pad))
    (rw (lt-ltb (length (zeros pad)) 8 (omega (arith, length-replicate {A = ℕ} pad 0)), zeros_zero pad))

-- ---- the bits of a recording

abbrev pub padding : List Call → ℕ
padding calls = pad_of (length (flat call_bits calls ++ to_bits 2 3))

pub recording_bits : (calls : List Call) → bits (recording_of calls) ≡ flat call_bits calls ++ (to_bits 2 3 ++ zeros (padding calls))
unfolding recording_of
recording_bits calls =
    pack_bits (flat call_bits calls ++ to_bits 2 3) (all_append IsBit (flat call_bits calls) (to_bits 2 3) (calls_bits calls) (to_bits_bits 2 3))
    ∙ append_assoc (flat call_bits calls) (to_bits 2 3) (zeros (padding calls))

pub padding_few : (calls : List Call) → padding calls < 8
padding_few calls = pad_few (length (flat call_bits calls ++ to_bits 2 3))
