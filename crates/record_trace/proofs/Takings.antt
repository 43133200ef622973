-- A trace taken byte by byte: the turns of the two loops.
-- Assumes nothing.
use Prim.Native.Nat.{ℕ, ◌+◌, ◌/◌, ◌%◌, ◌^◌, ◌≤◌, ◌<◌, min}
use native.Mathlib.Omega.{arith}
use native.Mathlib.Numerals.{add-one}
use mathlib.Core.Bool.{false}
use mathlib.Core.List.{List, [], ◌∷◌}
use mathlib.Core.Path.{◌≡◌, ap, ap₂, sym, ◌∙◌}
use lib.ListN.{length, get_or, drop, drop_of_length-le}
use lib.Seq.{drop-cons}
use Rattle.std.specs.Prelude.{Result, Ok, Err}
use Rattle.rules.specs.declared.Call.{Call}
use Rattle.rules.specs.declared.Refusal.{Refusal}
use Rattle.rules.specs.declared.Place.{Place}
use Rattle.rules.specs.Recordings.{call_bits, place_after}
use Rattle.record_call.proofs.Widths.{call_width}
use Rattle.trace_bytes.specs.declared.Heard.{Heard}
use Rattle.trace_bytes.specs.declared.Heard.TheVariants.{Skip, More, Makes}
use Rattle.trace_bytes.specs.Steps.{heard_of}
use Rattle.record_trace.specs.declared.Taking.{Taking}
use Rattle.record_trace.specs.Taking.{taking, taking_first, taking_past, taking_next, taking_by, taking_on, put_next, put_by, put_on}

-- ---- a byte

-- the place behind a call is one that the machine has numbers for
pub past_is : (t : Taking) (c : Call) (q : Place) (w : ℕ) → t.place.bit < 8 → t.place.byte + 1 < 2 ^ 64 → w ≡ length (call_bits c)
    → q.byte ≡ min (t.place.byte + (t.place.bit + w) / 8) 18446744073709551615 → q.bit ≡ (t.place.bit + w) % 8 → taking q false ≡ taking_past t c
unfolding place_after
past_is t c q w h g e eb ei =
    ap₂ (λ (a b : ℕ). taking (record { byte = a; bit = b }) false) (omega (arith, call_width c)) (ei ∙ ap (λ (n : ℕ). (t.place.bit + n) % 8) e)

-- ---- the place stays one, and moves by a byte at most

pub record Within (t : Taking) (i : ℕ) : Type 0 where
  pub bit : t.place.bit < 8
  pub byte : t.place.byte ≤ i

next_within : (t : Taking) (i : ℕ) (h : Heard) → Within t i → Within (taking_next t h) (i + 1)
unfolding place_after
next_within t i Skip w = record { bit = w.bit; byte = omega (arith, w.byte) }
next_within t i More w = record { bit = w.bit; byte = omega (arith, w.byte) }
next_within t i (Makes c) w = record { bit = omega arith; byte = omega (arith, w.byte, w.bit, call_width c) }

pub on_within : (l : List ℕ) (t u : Taking) (i : ℕ) → Within t i → taking_on t l ≡ Ok u → Within u (i + length l)
unfolding taking_on
on_within [] t u i w = λ e. let same : t ≡ u = cc in rw (← same) (record { bit = w.bit; byte = omega (arith, w.byte) })
on_within (b ∷ l) t u i w = go (heard_of t.waiting b) (λ (v : Taking) k. on_within l v u (i + 1) k)
  where
    go : (a : Result Heard Refusal) → ((v : Taking) → Within v (i + 1) → taking_on v l ≡ Ok u → Within u (i + 1 + length l))
        → taking_by t a (λ (v : Taking). taking_on v l) ≡ Ok u → Within u (i + length (b ∷ l))
    go (Ok h) f e =
        let more : Within u (i + 1 + length l) = f (taking_next t h) (next_within t i h w) e in
        record { bit = more.bit; byte = omega (arith, more.byte) }
    go (Err why) f e = absurd (let z : ◌≡◌ {A = ℕ} 0 1 = cc in omega arith)

-- ---- the loops

rest_cons : (l : List ℕ) (i : ℕ) → i < length l → drop i l ≡ get_or l i 0 ∷ drop (i + 1) l
rest_cons l i h = drop-cons l i 0 h ∙ ap (λ (k : ℕ). get_or l i 0 ∷ drop k l) (sym (add-one i))

pub record Measuring (l : List ℕ) (t : Taking) (i : ℕ) : Type 0 where
  pub inside : i ≤ length l
  pub within : Within t i
  pub same : taking_on t (drop i l) ≡ taking_on taking_first l

-- what the byte is heard as decides what is taken
module _ (l : List ℕ) (t : Taking) (i : ℕ) (low : i < length l) (m : Measuring l t i) (a : Result Heard Refusal) (ea : a ≡ heard_of t.waiting (get_or l i 0)) where
  heard_so : taking_by t a (λ (u : Taking). taking_on u (drop (i + 1) l)) ≡ taking_on taking_first l
  unfolding taking_on
  heard_so = ap (λ (x : Result Heard Refusal). taking_by t x (λ (u : Taking). taking_on u (drop (i + 1) l))) ea ∙ sym (ap (taking_on t) (rest_cons l i low)) ∙ m.same

  pub measure_turn : (h : Heard) (r : Taking) → a ≡ Ok h → r ≡ taking_next t h → Measuring l r (i + 1)
  measure_turn h r e f =
      rw f (record {
        inside = omega arith;
        within = next_within t i h m.within;
        same = rw e at heard_so;
      })

  pub measure_stop : (why : Refusal) → a ≡ Err why → Err why ≡ taking_on taking_first l
  measure_stop why e = rw e at heard_so

pub measure_end : (l : List ℕ) (t : Taking) (i : ℕ) → length l ≤ i → Measuring l t i → Ok t ≡ taking_on taking_first l
unfolding taking_on
measure_end l t i h m = sym (ap (taking_on t) (drop_of_length-le l h)) ∙ m.same

pub record PuttingCalls (l old new : List ℕ) (t : Taking) (i : ℕ) : Type 0 where
  pub size : length new ≡ length old
  pub measuring : Measuring l t i
  pub same : put_on t (drop i l) new ≡ put_on taking_first l old

module _ (l old new : List ℕ) (t : Taking) (i : ℕ) (low : i < length l) (m : PuttingCalls l old new t i) (a : Result Heard Refusal) (ea : a ≡ heard_of t.waiting (get_or l i 0)) where
  put_so : put_by t a (λ (u : Taking) (x : List ℕ). put_on u (drop (i + 1) l) x) new ≡ put_on taking_first l old
  unfolding put_on
  put_so = ap (λ (y : Result Heard Refusal). put_by t y (λ (u : Taking) (x : List ℕ). put_on u (drop (i + 1) l) x) new) ea ∙ sym (ap (λ (x : List ℕ). put_on t x new) (rest_cons l i low)) ∙ m.same

  pub put_turn : (h : Heard) (r : Taking) (after : List ℕ) → a ≡ Ok h → length after ≡ length new → after ≡ put_next t h new → r ≡ taking_next t h → PuttingCalls l old after r (i + 1)
  put_turn h r after e n f g =
      record {
        size = n ∙ m.size;
        measuring = measure_turn l t i low m.measuring a ea h r e g;
        same = rw (f, g) (rw e at put_so);
      }

  pub put_stop : (why : Refusal) → a ≡ Err why → (Err why ≡ taking_on taking_first l) × (new ≡ put_on taking_first l old)
  put_stop why e = (measure_stop l t i low m.measuring a ea why e, rw e at put_so)

pub put_all : (l old new : List ℕ) (t : Taking) (i : ℕ) → length l ≤ i → PuttingCalls l old new t i → (Ok t ≡ taking_on taking_first l) × (new ≡ put_on taking_first l old)
unfolding put_on
put_all l old new t i h m = (measure_end l t i h m.measuring, sym (ap (λ (x : List ℕ). put_on t x new) (drop_of_length-le l h)) ∙ m.same)
