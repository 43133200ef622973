-- Document 01, "The trace program": how a trace begins, what a byte of it does, and what is printed.
-- Assumes nothing.
use Rattle.std.specs.Prelude.{ℕ, ◌*◌, ◌≤◌, ◌<◌, ◌≡◌, length, drop, Bool, true, false, cond, List, [], ◌∷◌, ◌++◌}
use Rattle.rules.specs.declared.Set.{Set}
use Rattle.rules.specs.declared.State.{State}
use Rattle.std.specs.Prelude.{Result, Ok, Err, is_ok}
use Rattle.rules.specs.declared.Refusal.{Refusal}
use Rattle.rules.specs.declared.ReadResult.{ReadResult}
use Rattle.rules.specs.declared.Refusal.TheVariants.{BadByte}
use Rattle.rules.specs.declared.Verdict.{Verdict}
use Rattle.rules.specs.Numbers.{number, refused, call_says, verdict_says}
use Rattle.rules.specs.Steps.{start_of, call_of}
use Rattle.load_check.specs.Sheets.{SheetVerdict}
use Rattle.line.specs.declared.Line.{Line}
use Rattle.line.specs.Line.{line_room, holding}
use Rattle.answer_words.specs.Words.{says, line_of, step_line}
use Rattle.trace_bytes.specs.declared.Heard.{Heard}
use Rattle.trace_bytes.specs.declared.Heard.TheVariants.{Skip, More, Makes}
use Rattle.trace_bytes.specs.Steps.{heard_of, end_of}
use Rattle.trace_steps.specs.declared.Tracing.{Tracing}
use Rattle.trace_steps.specs.declared.Turn.{Turn}

-- ---- the first line

-- "The first line is the verdict (accept, late I demand, overload, refused N)"
abbrev pub verdict_line : Verdict → List ℕ
verdict_line v = line_of (says (verdict_says v))

-- "a refused sheet prints only that line, and after any verdict on a sheet that was read, 8 included, the steps follow"
abbrev pub was_read : Result (Unit {0}) Refusal → Bool
was_read a = is_ok a

-- from the start of the set
abbrev pub tracing_from : Set → Bool → Tracing
tracing_from x live = record { state = (start_of x).state; waiting = false; live = live }

-- the line and the tracing at the beginning
pub record Beginning (r : ReadResult) (t : Turn) : Type 0 where
  pub verdict : Verdict
  pub is_verdict : SheetVerdict r.answer r.set verdict
  pub line : t.line ≡ holding (verdict_line verdict)
  pub tracing : t.tracing ≡ tracing_from r.set (was_read r.answer)

-- ---- a byte

-- a trace that goes on, between steps or with a p that waits for its digit
abbrev pub going : State → Bool → Tracing
going s waiting = record { state = s; waiting = waiting; live = true }

abbrev pub next_tracing : State → Result Heard Refusal → Tracing
next_tracing s (Ok Skip) = going s false
next_tracing s (Ok More) = going s true
next_tracing s (Ok (Makes c)) = going (call_of s c).state false
next_tracing s (Err why) = record { state = s; waiting = false; live = false }

-- "Any other byte, or p without its digit, prints the line `refused 9`, with no clock, and stops."
abbrev pub nine : List ℕ
nine = line_of (says (refused (number BadByte)))

-- "Each step prints the clock before it and its answer"
abbrev pub next_text : State → Result Heard Refusal → List ℕ
next_text s (Ok Skip) = []
next_text s (Ok More) = []
next_text s (Ok (Makes c)) = step_line s.clock (call_says (call_of s c).answer)
next_text s (Err why) = line_of (says (refused (number why)))

-- a byte; a trace that has stopped takes no more
unfoldable pub tracing_after : Tracing → ℕ → Tracing
tracing_after t b = cond t.live (next_tracing t.state (heard_of t.waiting b)) t

unfoldable pub text_after : Tracing → ℕ → List ℕ
text_after t b = cond t.live (next_text t.state (heard_of t.waiting b)) []

-- bytes one after the other
unfoldable pub tracing_on : Tracing → List ℕ → Tracing
tracing_on t [] = t
tracing_on t (b ∷ l) = tracing_on (tracing_after t b) l

unfoldable pub text_on : Tracing → List ℕ → List ℕ
text_on t [] = []
text_on t (b ∷ l) = text_after t b ++ text_on (tracing_after t b) l

-- the end of the trace: a p without its digit
unfoldable pub text_end : Tracing → List ℕ
text_end t = cond t.live (next_text t.state (end_of t.waiting)) []

-- bytes, and the end behind them
abbrev pub text_to_end : Tracing → List ℕ → List ℕ
text_to_end t l = text_on t l ++ text_end (tracing_on t l)

-- the last line; blank where nothing is refused
abbrev pub Ending : Tracing → Line → Type 0
Ending t l = l ≡ holding (text_end t)

-- a piece of the trace: the tracing after it, and the page with what it prints at its front and the rest as it was. With less than a line's room
-- of the page for each byte of the piece nothing is taken.
pub record PieceTraced (t : Tracing) (piece out : List ℕ) (next : Tracing) (len : ℕ) (page : List ℕ) : Type 0 where
  pub room : length piece * line_room ≤ length out
      → (next ≡ tracing_on t piece) × ((len ≡ length (text_on t piece)) × (page ≡ text_on t piece ++ drop (length (text_on t piece)) out))
  pub none : length out < length piece * line_room → (next ≡ t) × ((len ≡ 0) × (page ≡ out))
