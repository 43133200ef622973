-- A trace's recording as a whole: the answer, and the buffer.
-- Assumes nothing.
use Prim.Native.Nat.{ℕ, ◌+◌, ◌-◌, ◌*◌, ◌≤◌, ◌<◌}
use native.Mathlib.Omega.{arith}
use mathlib.Core.Bool.{Bool, true, false}
use mathlib.Core.List.{List}
use mathlib.Core.Path.{◌≡◌, refl, ap, sym, subst, ◌∙◌}
use borrow.Author.Tests.{leb-true, leb-false, le-leb, lt-leb}
use lib.Dec.{leb}
use lib.ListN.{length}
use Rattle.laws.specs.Lists.{flat}
use Rattle.laws.specs.Bits.{bytes_for}
use Rattle.laws.proofs.Fields.{AreBytes}
use Rattle.rules.specs.declared.Call.{Call}
use Rattle.rules.specs.declared.Place.{Place}
use Rattle.rules.specs.declared.Refusal.TheVariants.{BadByte, ShortBuffer}
use Rattle.std.specs.Prelude.{Result, Ok, Err}
use Rattle.rules.specs.declared.Refusal.{Refusal}
use Rattle.rules.specs.Recordings.{call_bits, recording_of, bit_at, place_after, first_place, written, finish_of, finished_to, record_of, recorded_by}
use Rattle.record_call.proofs.Written.{place_bit}
use Rattle.record_call.proofs.Finishing.{bytes_are, finishes, finished}
use Rattle.trace_bytes.specs.Scripts.{Script, script_of}
use Rattle.trace_bytes.proofs.Scripts.{script_heard}
use Rattle.record_trace.specs.declared.Taking.{Taking}
use Rattle.record_trace.specs.Traces.{trace_record_of, trace_recorded_to}
use Rattle.record_trace.specs.Taking.{taking_first, taking_on, put_on}
use Rattle.record_trace.proofs.Takings.{on_within}
use Rattle.record_trace.proofs.Scripts.{TakenTo, Taken, taken, puts}

-- ---- whether there is room

pub room_none : (len : ℕ) (p : Place) → len < p.byte → false ≡ leb (p.byte + bytes_for (p.bit + 2)) len
room_none len p h = sym (lt-leb (p.byte + bytes_for (p.bit + 2)) len (omega arith))

pub room_rest : (len n : ℕ) (p : Place) → n ≡ bytes_for (p.bit + 2) → p.byte ≤ len → leb n (len - p.byte) ≡ leb (p.byte + bytes_for (p.bit + 2)) len
room_rest len n p same h = go (leb (p.byte + bytes_for (p.bit + 2)) len) refl
  where
    go : (t : Bool) → leb (p.byte + bytes_for (p.bit + 2)) len ≡ t → leb n (len - p.byte) ≡ t
    go true e = le-leb n (len - p.byte) (omega (arith, leb-true (p.byte + bytes_for (p.bit + 2)) len e))
    go false e = lt-leb n (len - p.byte) (omega (arith, leb-false (p.byte + bytes_for (p.bit + 2)) len e))

-- ---- the whole

module _ (trace old : List ℕ) where
  abbrev script : Script
  script = script_of trace

  abbrev pub Records : Result ℕ Refusal → List ℕ → Type 0
  Records a new = (a ≡ trace_record_of trace (length old)) × (new ≡ trace_recorded_to trace old)

  by_answer : (a : Result ℕ Refusal) (new : List ℕ) → a ≡ trace_record_of trace (length old) → new ≡ recorded_by a script.calls old → Records a new
  unfolding trace_recorded_to
  by_answer a new e f = (e, f ∙ ap (λ (x : Result ℕ Refusal). recorded_by x script.calls old) e)

  as_script : (a : Result Taking Refusal) → a ≡ taking_on taking_first trace → Taken first_place script a
  as_script a e = subst (λ (x : Result Taking Refusal). Taken first_place script x) (sym e) (rw (script_heard trace) (taken first_place false trace (omega arith)))

  is_bad : script.bad ≡ true → Records (Err BadByte) old
  unfolding trace_record_of
  is_bad e = by_answer (Err BadByte) old (rw e refl) refl

  pub bad_trace : (why : Refusal) → Err why ≡ taking_on taking_first trace → Records (Err why) old
  bad_trace why e = let k = as_script (Err why) e in rw k.0 (is_bad k.1)

  module _ (t : Taking) (et : Ok t ≡ taking_on taking_first trace) where
    to_script : TakenTo first_place script t
    to_script = as_script (Ok t) et

    pub small : t.place.bit < 8
    small = (on_within trace taking_first t 0 (record { bit = omega arith; byte = omega arith }) (sym et)).bit

    pub cut_trace : t.waiting ≡ true → Records (Err BadByte) old
    cut_trace e = is_bad (sym to_script.bad ∙ e)

    module _ (good : t.waiting ≡ false) where
      is_good : script.bad ≡ false
      is_good = sym to_script.bad ∙ good

      at_end : t.place ≡ place_after first_place (length (flat call_bits script.calls))
      at_end = to_script.end is_good

      bytes : AreBytes old → length (recording_of script.calls) ≡ t.place.byte + bytes_for (t.place.bit + 2)
      bytes ho = bytes_are script.calls old t.place ho at_end small

      pub no_room : (r : Bool) → AreBytes old → r ≡ leb (t.place.byte + bytes_for (t.place.bit + 2)) (length old) → r ≡ false → Records (Err ShortBuffer) old
      unfolding trace_record_of record_of
      no_room r ho e f =
          by_answer (Err ShortBuffer) old (rw (is_good, ap (λ (k : ℕ). leb k (length old)) (bytes ho) ∙ sym e ∙ f)) refl

      calls_put : (new : List ℕ) → AreBytes old → bit_at first_place + length (flat call_bits script.calls) ≤ 8 * length old → new ≡ put_on taking_first trace old
          → new ≡ written old first_place (flat call_bits script.calls)
      calls_put new ho h e = e ∙ (rw (script_heard trace) (puts first_place false trace old (omega arith) ho (sym (ap (λ (s : Script). s.bad) (script_heard trace)) ∙ is_good) (rw (script_heard trace) at h)))

      pub recorded : (r : Bool) (mid new : List ℕ) (a : Result ℕ Refusal) → AreBytes old → r ≡ leb (t.place.byte + bytes_for (t.place.bit + 2)) (length old) → r ≡ true → mid ≡ put_on taking_first trace old
          → a ≡ finish_of mid t.place → new ≡ finished_to mid t.place → Records a new
      unfolding trace_record_of record_of
      recorded r mid new a ho e f em ea en =
          let calls : List Call = script.calls in
          let n : ℕ = length (recording_of calls) in
          let room : n ≤ length old = omega (arith, bytes ho, leb-true (t.place.byte + bytes_for (t.place.bit + 2)) (length old) (sym e ∙ f)) in
          let fit : bit_at first_place + length (flat call_bits calls) ≤ 8 * length old = omega (arith, bytes ho, ap bit_at at_end, place_bit first_place (length (flat call_bits calls))) in
          let put : mid ≡ written old first_place (flat call_bits calls) = calls_put mid ho fit em in
          let done : a ≡ Ok n = ea ∙ ap (λ (b : List ℕ). finish_of b t.place) put ∙ finishes calls old t.place ho at_end small room in
          by_answer a new (done ∙ rw (is_good, le-leb n (length old) room))
          (en ∙ ap (λ (b : List ℕ). finished_to b t.place) put ∙ finished calls old t.place ho at_end small room
          ∙ ap (λ (x : Result ℕ Refusal). recorded_by x calls old) (sym done))

-- the second walk ends where the first one did
module _ (trace : List ℕ) where
  pub same_end : (t u : Taking) → Ok t ≡ taking_on taking_first trace → Ok u ≡ taking_on taking_first trace → t ≡ u
  same_end t u e f = let x : ◌≡◌ {A = Result Taking Refusal} (Ok t) (Ok u) = e ∙ sym f in cc

  pub never_bad : (t : Taking) (why : Refusal) {P : Type 0} → Ok t ≡ taking_on taking_first trace → Err why ≡ taking_on taking_first trace → P
  never_bad t why e f = let x : ◌≡◌ {A = Result Taking Refusal} (Ok t) (Err why) = e ∙ sym f in absurd (let z : ◌≡◌ {A = ℕ} 0 1 = cc in omega arith)
