-- A trace byte by byte: where its calls end, and the buffer with them in it.
-- Assumes nothing.
use Rattle.std.specs.Prelude.{ℕ, Bool, true, false, List, [], ◌∷◌, length, Result, Ok, Err}
use Rattle.rules.specs.declared.Call.{Call}
use Rattle.rules.specs.declared.Place.{Place}
use Rattle.rules.specs.declared.Refusal.{Refusal}
use Rattle.rules.specs.Recordings.{call_bits, place_after, first_place, appended_to}
use Rattle.trace_bytes.specs.declared.Heard.{Heard}
use Rattle.trace_bytes.specs.declared.Heard.TheVariants.{Skip, More, Makes}
use Rattle.trace_bytes.specs.Steps.{heard_of}
use Rattle.record_trace.specs.declared.Taking.{Taking}

-- the place behind the calls so far, and whether a p waits for its digit
abbrev pub taking : Place → Bool → Taking
taking p waiting = record { place = p; waiting = waiting }

abbrev pub taking_first : Taking
taking_first = taking first_place false

-- behind a call
abbrev pub taking_past : Taking → Call → Taking
taking_past t c = taking (place_after t.place (length (call_bits c))) false

abbrev pub taking_next : Taking → Heard → Taking
taking_next t Skip = taking t.place false
taking_next t More = taking t.place true
taking_next t (Makes c) = taking_past t c

-- bytes one after the other; behind one that is no step nothing more is taken
abbrev pub taking_by : Taking → Result Heard Refusal → (Taking → Result Taking Refusal) → Result Taking Refusal
taking_by t (Ok h) rest = rest (taking_next t h)
taking_by t (Err why) rest = Err why

unfoldable pub taking_on : Taking → List ℕ → Result Taking Refusal
taking_on t [] = Ok t
taking_on t (b ∷ l) = taking_by t (heard_of t.waiting b) (λ (u : Taking). taking_on u l)

-- the buffer behind a byte
abbrev pub put_next : Taking → Heard → List ℕ → List ℕ
put_next t Skip buffer = buffer
put_next t More buffer = buffer
put_next t (Makes c) buffer = appended_to buffer t.place c

abbrev pub put_by : Taking → Result Heard Refusal → (Taking → List ℕ → List ℕ) → List ℕ → List ℕ
put_by t (Ok h) rest buffer = rest (taking_next t h) (put_next t h buffer)
put_by t (Err why) rest buffer = buffer

unfoldable pub put_on : Taking → List ℕ → List ℕ → List ℕ
put_on t [] buffer = buffer
put_on t (b ∷ l) buffer = put_by t (heard_of t.waiting b) (λ (u : Taking) (x : List ℕ). put_on u l x) buffer
