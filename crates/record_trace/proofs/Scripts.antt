-- What the bytes of a trace leave: the place behind its script's calls, and the buffer with them in it.
-- Assumes nothing.
use Prim.Native.Nat.{ℕ, ◌+◌, ◌*◌, ◌≤◌, ◌<◌}
use native.Mathlib.Omega.{arith}
use mathlib.Core.Bool.{Bool, true, false, cond, ◌||◌, true≢false}
use mathlib.Core.List.{List, [], ◌∷◌, ◌++◌}
use mathlib.Core.Path.{◌≡◌, refl, ap, sym, ◌∙◌}
use borrow.Author.Tests.{lt-ltb}
use Prim.Native.Char.{code}
use lib.Dec.{eqb, leb}
use lib.ListN.{length, length-append}
use Rattle.laws.specs.Lists.{flat}
use Rattle.laws.proofs.Sums.{by_test}
use Rattle.laws.proofs.Fields.{AreBytes}
use Rattle.ascii.specs.Hex.{is_hex, hex_of}
use Rattle.std.specs.Prelude.{Result, Ok, Err}
use Rattle.rules.specs.declared.Refusal.{Refusal}
use Rattle.rules.specs.declared.Refusal.TheVariants.{BadByte}
use Rattle.rules.specs.declared.Call.{Call}
use Rattle.rules.specs.declared.Call.TheVariants.{Posts, Units}
use Rattle.rules.specs.declared.Place.{Place}
use Rattle.rules.specs.Recordings.{call_bits, recordable, bit_at, place_after, written, appended_to}
use Rattle.record_call.proofs.Widths.{call_bits_lem, calls_bits}
use Rattle.record_call.proofs.Written.{place_same, place_more, place_bit, written_none, written_more, written_bytes, written_length, appended_is}
use Rattle.trace_bytes.specs.declared.Heard.{Heard}
use Rattle.trace_bytes.specs.declared.Heard.TheVariants.{Skip, More, Makes}
use Rattle.trace_bytes.specs.Steps.{between_steps, after_p, heard_of}
use Rattle.trace_bytes.specs.Scripts.{Script, step_then, heard_then, hearing}
use Rattle.record_trace.specs.declared.Taking.{Taking}
use Rattle.record_trace.specs.Taking.{taking, taking_past, taking_by, taking_on, put_by, put_on}

-- ---- a step of a trace can be recorded, and what is no step is refused with 9

hex_small : (b : ℕ) → hex_of b < 16
hex_small b = by_test (leb b (code "9")) (λ y. rw y (omega arith)) (λ y. rw y (omega arith))

abbrev Sound : Result Heard Refusal → Type 0
Sound (Ok Skip) = true ≡ true
Sound (Ok More) = true ≡ true
Sound (Ok (Makes c)) = recordable c ≡ true
Sound (Err why) = why ≡ BadByte

heard_sound : (waiting : Bool) (b : ℕ) → Sound (heard_of waiting b)
unfolding after_p between_steps
heard_sound true b = go (is_hex b)
  where
    go : (h : Bool) → Sound (cond h (Ok (Makes (Posts (hex_of b)))) (Err BadByte))
    go true = lt-ltb (hex_of b) 16 (hex_small b)
    go false = refl
heard_sound false b = go (eqb b (code "p")) (eqb b (code "u")) (eqb b (code "d")) (eqb b (code " ") || eqb b (code "\n"))
  where
    go : (p u d k : Bool) → Sound (cond p (Ok More) (cond u (Ok (Makes (Units false))) (cond d (Ok (Makes (Units true))) (cond k (Ok Skip) (Err BadByte)))))
    go true u d k = refl
    go false true d k = refl
    go false false true k = refl
    go false false false true = refl
    go false false false false = refl

-- ---- where the calls end

pub record TakenTo (p : Place) (s : Script) (t : Taking) : Type 0 where
  pub bad : t.waiting ≡ s.bad
  pub end : s.bad ≡ false → t.place ≡ place_after p (length (flat call_bits s.calls))

abbrev pub Taken : Place → Script → Result Taking Refusal → Type 0
Taken p s (Ok t) = TakenTo p s t
Taken p s (Err why) = (why ≡ BadByte) × (s.bad ≡ true)

-- behind a call
taken_past : (p : Place) (c : Call) (s : Script) (r : Result Taking Refusal) → p.bit < 8 → Taken (place_after p (length (call_bits c))) s r → Taken p (step_then c s) r
unfolding flat place_after
taken_past p c s (Ok t) h k =
    record {
      bad = k.bad;
      end = λ x. k.end x ∙ place_more p (length (call_bits c)) (length (flat call_bits s.calls)) ∙ ap (place_after p) (sym (length-append (call_bits c) (flat call_bits s.calls)));
    }
taken_past p c s (Err why) h k = k

pub taken : (p : Place) (waiting : Bool) (l : List ℕ) → p.bit < 8 → Taken p (hearing waiting l) (taking_on (taking p waiting) l)
unfolding taking_on hearing flat place_after
taken p true [] h = record { bad = refl; end = λ e. absurd (true≢false e) }
taken p false [] h = record { bad = refl; end = λ e. sym (place_same p h) }
taken p waiting (b ∷ l) h =
    go (heard_of waiting b) (heard_sound waiting b) (taken p false l h) (taken p true l h) (λ (c : Call). let q : Place = place_after p (length (call_bits c)) in taken q false l (omega arith))
  where
    go : (x : Result Heard Refusal) → Sound x → Taken p (hearing false l) (taking_on (taking p false) l) → Taken p (hearing true l) (taking_on (taking p true) l)
        → ((c : Call) → Taken (place_after p (length (call_bits c))) (hearing false l) (taking_on (taking_past (taking p waiting) c) l))
        → Taken p (heard_then x (hearing false l) (hearing true l)) (taking_by (taking p waiting) x (λ (u : Taking). taking_on u l))
    go (Ok Skip) s e f g = e
    go (Ok More) s e f g = f
    go (Ok (Makes c)) s e f g = taken_past p c (hearing false l) (taking_on (taking_past (taking p waiting) c) l) h (g c)
    go (Err why) s e f g = (s, refl)

-- ---- the buffer with the calls in it

-- where the script is good and its calls have room, they are written one behind the other
abbrev Puts : Place → List ℕ → Script → List ℕ → Type 0
Puts p buffer s new = s.bad ≡ false → bit_at p + length (flat call_bits s.calls) ≤ 8 * length buffer → new ≡ written buffer p (flat call_bits s.calls)

-- a call, and the rest behind it
put_step : (p : Place) (buffer : List ℕ) (c : Call) (s : Script) (more : List ℕ → List ℕ) → p.bit < 8 → AreBytes buffer → recordable c ≡ true
    → ((old : List ℕ) → AreBytes old → Puts (place_after p (length (call_bits c))) old s (more old))
    → Puts p buffer (record { calls = c ∷ s.calls; bad = s.bad }) (more (appended_to buffer p c))
unfolding flat
put_step p buffer c s more h hb ok g e room =
    let w : List ℕ = call_bits c in
    let rest : List ℕ = flat call_bits s.calls in
    let n : length (w ++ rest) ≡ length w + length rest = length-append w rest in
    ap more (appended_is buffer p c h ok (omega arith))
    ∙ g (written buffer p w) (written_bytes buffer p w (call_bits_lem c) (omega arith)) e (omega (arith, place_bit p (length w), written_length buffer p w))
    ∙ written_more buffer p w rest (call_bits_lem c) (calls_bits s.calls) (omega arith)

pub puts : (p : Place) (waiting : Bool) (l buffer : List ℕ) → p.bit < 8 → AreBytes buffer → Puts p buffer (hearing waiting l) (put_on (taking p waiting) l buffer)
unfolding put_on hearing flat place_after
puts p true [] buffer h hb = λ e r. absurd (true≢false e)
puts p false [] buffer h hb = λ e r. written_none buffer p hb (omega (arith, r))
puts p waiting (b ∷ l) buffer h hb =
    go (heard_of waiting b) (heard_sound waiting b) (puts p false l buffer h hb) (puts p true l buffer h hb)
    (λ (c : Call) (old : List ℕ) ho. let q : Place = place_after p (length (call_bits c)) in puts q false l old (omega arith) ho)
  where
    go : (x : Result Heard Refusal) → Sound x → Puts p buffer (hearing false l) (put_on (taking p false) l buffer)
        → Puts p buffer (hearing true l) (put_on (taking p true) l buffer)
        → ((c : Call) (old : List ℕ) → AreBytes old → Puts (place_after p (length (call_bits c))) old (hearing false l) (put_on (taking_past (taking p waiting) c) l old))
        → Puts p buffer (heard_then x (hearing false l) (hearing true l)) (put_by (taking p waiting) x (λ (u : Taking) (y : List ℕ). put_on u l y) buffer)
    go (Ok Skip) s e f g = e
    go (Ok More) s e f g = f
    go (Ok (Makes c)) s e f g = put_step p buffer c (hearing false l) (put_on (taking_past (taking p waiting) c) l) h hb s (g c)
    go (Err why) s e f g = λ x r. absurd (true≢false x)
