-- A trace's recording on a page: what was recorded, and the whole buffer in hex.
-- Assumes nothing.
use Prim.Native.Nat.{ℕ, ◌≤◌, ◌<◌}
use native.Mathlib.Omega.{arith}
use mathlib.Core.Path.{◌≡◌, refl, ap, ◌∙◌}
use mathlib.Core.Bool.{true, false}
use mathlib.Core.List.{List, [], ◌∷◌}
use lib.ListN.{length, take, drop, replicate, length-append, length-drop, length-replicate}
use lib.Dec.{leb}
use borrow.Author.Tests.{le-leb, lt-leb, leb-true}
use Rattle.laws.proofs.Sums.{by_test}
use Rattle.std.specs.Prelude.{Result}
use Rattle.rules.specs.declared.Refusal.{Refusal}
use Rattle.rules.specs.Numbers.{record_says}
use Rattle.rules.specs.Recordings.{recording_of, record_of}
use Rattle.trace_bytes.specs.Scripts.{script_of}
use Rattle.record_trace.specs.Traces.{trace_record_of, trace_recorded_to}
use Rattle.ascii.specs.Decimal.{letters}
use Rattle.ascii.specs.Hex.{hexed}
use Rattle.line.specs.declared.Line.{Line}
use Rattle.line.specs.Line.{line_room, holding}
use Rattle.answer_words.specs.Words.{says, line_of}
use Rattle.answer_words.proofs.Lengths.{says_short, line_short}
use Rattle.page.specs.Pages.{room_for, Onto, appended, end_of}
use Rattle.page.proofs.Pieces.{onto_line}
use Rattle.page_hex.proofs.Prints.{twice}
use Rattle.page_hex.proofs.Buffers.{hex_lines_onto, take_fill}
use Rattle.console_names.specs.Rows.{most_bytes}
use Rattle.console_replay.specs.Records.{buffer_lines, record_lines, record_room, Records}

module _ (trace buf out : List ℕ) (at : ℕ) (small : length buf ≤ most_bytes) (room : room_for out at record_room ≡ true) where
  abbrev recorded_line : List ℕ
  recorded_line = line_of (says (record_says (trace_record_of trace (length buf))))

  recorded_short : length recorded_line ≤ line_room
  recorded_short = line_short (says (record_says (trace_record_of trace (length buf)))) (says_short (record_says (trace_record_of trace (length buf))))

  pub buffer_onto : (r : Result ℕ Refusal) (buf' : List ℕ) (k l : Line) (a b end : ℕ) (o p page : List ℕ)
      → (r ≡ trace_record_of trace (length buf)) × (buf' ≡ trace_recorded_to trace buf) → length buf' ≡ length buf
      → k ≡ holding (line_of (says (record_says r))) → (a ≡ end_of out at k) × (o ≡ appended out at k)
      → Onto o a (hexed buf') b p → l ≡ holding (line_of []) → (end ≡ end_of p b l) × (page ≡ appended p b l)
      → Onto out at (buffer_lines trace buf) end page
  unfolding buffer_lines
  buffer_onto r buf' k l a b end o p page e size f g q h i =
      hex_lines_onto recorded_line (trace_recorded_to trace buf) out at record_room room recorded_short
      (omega (arith, recorded_short, ap length e.1, size)) k l a b end o p page
      (f ∙ ap (λ (v : Result ℕ Refusal). holding (line_of (says (record_says v)))) e.0) g (rw e.1 at q) h i

-- ---- the first n bytes of the longest buffer

module _ (trace : List ℕ) (n : ℕ) (out : List ℕ) (at end : ℕ) (page : List ℕ) where
  pub too_long : (l : Line) → most_bytes < n → l ≡ holding (line_of (letters "?")) → (end ≡ end_of out at l) × (page ≡ appended out at l)
      → Onto out at (record_lines trace n) end page
  unfolding record_lines
  too_long l h e p = rw (lt-leb n most_bytes h) (onto_line out (line_of (letters "?")) at l end page (omega arith) e p)

  pub record_onto : (buf part : List ℕ) → buf ≡ replicate most_bytes 170 → part ≡ take n buf → n ≤ most_bytes
      → Onto out at (buffer_lines trace part) end page → Onto out at (record_lines trace n) end page
  unfolding record_lines
  record_onto buf part e f h p =
      let filled : part ≡ replicate n 170 = f ∙ ap (λ (v : List ℕ). take n v) e ∙ take_fill n most_bytes 170 h in
      rw (le-leb n most_bytes h) (rw filled at p)

pub buffer_size : (buf : List ℕ) → buf ≡ replicate most_bytes 170 → length buf ≡ most_bytes
buffer_size buf e = ap length e ∙ length-replicate {A = ℕ} most_bytes 170

-- ---- with and without room

module _ (trace : List ℕ) (len : ℕ) (out : List ℕ) (at : ℕ) where
  pub records : (end : ℕ) (page : List ℕ) → room_for out at record_room ≡ true → Onto out at (record_lines trace len) end page
      → Records trace len out at end page
  records end page room p = rw room p

  pub stays : room_for out at record_room ≡ false → Records trace len out at at out
  stays room = rw room (refl, refl)

  pub with_room : (end : ℕ) (page : List ℕ) → room_for out at record_room ≡ true → Records trace len out at end page
      → Onto out at (record_lines trace len) end page
  with_room end page room p = rw room at p

-- ---- how long it is

-- the buffer keeps its length
buffer_kept : (trace buf : List ℕ) → length (trace_recorded_to trace buf) ≡ length buf
unfolding trace_recorded_to trace_record_of record_of
buffer_kept trace buf =
    by_test (script_of trace).bad
    (λ b. rw b)
    (λ b.
    by_test (leb (length (recording_of (script_of trace).calls)) (length buf))
    (λ f.
    rw (b, f)
    (let fits : length (recording_of (script_of trace).calls) ≤ length buf = leb-true (length (recording_of (script_of trace).calls)) (length buf) f in
    omega (
      arith,
      length-append (recording_of (script_of trace).calls) (drop (length (recording_of (script_of trace).calls)) buf),
      length-drop (length (recording_of (script_of trace).calls)) buf,
    )))
    (λ f. rw (b, f)))

buffer_short : (trace buf : List ℕ) → length buf ≤ most_bytes → length (buffer_lines trace buf) ≤ record_room
unfolding buffer_lines
buffer_short trace buf h =
    omega (
      arith,
      length-append (line_of (says (record_says (trace_record_of trace (length buf))))) (line_of (hexed (trace_recorded_to trace buf))),
      length-append (hexed (trace_recorded_to trace buf)) (10 ∷ []),
      line_short (says (record_says (trace_record_of trace (length buf)))) (says_short (record_says (trace_record_of trace (length buf)))),
      twice (trace_recorded_to trace buf),
      buffer_kept trace buf,
    )

pub record_short : (trace : List ℕ) (n : ℕ) → length (record_lines trace n) ≤ record_room
unfolding record_lines
record_short trace n =
    by_test (leb n most_bytes)
    (λ e.
    rw e
    (let few : length (replicate {A = ℕ} n 170) ≤ most_bytes = omega (arith, leb-true n most_bytes e, length-replicate {A = ℕ} n 170) in
    buffer_short trace (replicate n 170) few))
    (λ e. rw e (omega arith))
