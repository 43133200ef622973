-- The console's page, **CR 1**: what `record` prints.
-- Assumes nothing.
use Rattle.std.specs.Prelude.{ℕ, ◌+◌, ◌*◌, Bool, true, false, cond, List, ◌++◌, ◌≡◌, length, replicate, leb}
use Rattle.rules.specs.Numbers.{record_says}
use Rattle.record_trace.specs.Traces.{trace_record_of, trace_recorded_to}
use Rattle.ascii.specs.Decimal.{letters}
use Rattle.ascii.specs.Hex.{hexed}
use Rattle.line.specs.Line.{line_room}
use Rattle.answer_words.specs.Words.{says, line_of}
use Rattle.page.specs.Pages.{room_for, Onto}
use Rattle.console_names.specs.Rows.{most_bytes}

-- "Prints `recorded N` with its bytes, or `refused 11`; then the buffer in hex as `write` does."
unfoldable pub buffer_lines : List ℕ → List ℕ → List ℕ
buffer_lines trace buffer =
    line_of (says (record_says (trace_record_of trace (length buffer)))) ++ line_of (hexed (trace_recorded_to trace buffer))

-- "Its recording into a buffer of LEN bytes (at most 1,024, else `?`), each 170 before."
unfoldable pub record_lines : List ℕ → ℕ → List ℕ
record_lines trace len = cond (leb len most_bytes) (buffer_lines trace (replicate len 170)) (line_of (letters "?"))

-- a line, two digits for each byte of the buffer, and a newline
abbrev pub record_room : ℕ
record_room = line_room + (2 * most_bytes + 1)

-- The page afterwards, and where what is printed ends; one that has not that room stays as it is.
abbrev pub RecordsIf : Bool → List ℕ → ℕ → List ℕ → ℕ → ℕ → List ℕ → Type 0
RecordsIf true trace len out at end page = Onto out at (record_lines trace len) end page
RecordsIf false trace len out at end page = (end ≡ at) × (page ≡ out)

abbrev pub Records : List ℕ → ℕ → List ℕ → ℕ → ℕ → List ℕ → Type 0
Records trace len out at end page = RecordsIf (room_for out at record_room) trace len out at end page
