-- Document 01, "The trace program": all that it prints for a sheet and a trace; and that its steps are a run.
-- Assumes nothing.
use Rattle.std.specs.Prelude.{ℕ, ◌≡◌, Bool, true, cond, List, [], ◌++◌}
use Rattle.laws.specs.Lists.{flat}
use Rattle.rules.specs.declared.Set.{Set}
use Rattle.std.specs.Prelude.{Result, Ok, Err}
use Rattle.rules.specs.declared.Refusal.{Refusal}
use Rattle.rules.specs.declared.Verdict.{Verdict}
use Rattle.rules.specs.Sheet.{read_of}
use Rattle.rules.specs.Runs.{run_of, steps_of}
use Rattle.load_check.specs.Sheets.{SheetVerdict}
use Rattle.answer_words.specs.Words.{line_of_step}
use Rattle.trace_bytes.specs.Scripts.{Script, script_of}
use Rattle.trace_steps.specs.Turns.{verdict_line, tracing_from, nine, tracing_on, text_to_end}

-- "Any other byte, or p without its digit, prints the line `refused 9`, with no clock, and stops."
abbrev pub nine_if : Bool → List ℕ
nine_if bad = cond bad nine []

-- the steps from the start of the set
unfoldable pub steps_printed : Set → Script → List ℕ
steps_printed x s = flat line_of_step (steps_of x s.calls) ++ nine_if s.bad

-- "a refused sheet prints only that line, and after any verdict on a sheet that was read, 8 included, the steps follow"
abbrev pub behind_verdict : Result (Unit {0}) Refusal → List ℕ → List ℕ
behind_verdict (Ok tt) steps = steps
behind_verdict (Err why) steps = []

-- "It reads a sheet .. and a trace": `out` is what it prints, in whole
pub record TraceOf (sheet input out : List ℕ) : Type 0 where
  pub verdict : Verdict
  pub is_verdict : SheetVerdict (read_of sheet).answer (read_of sheet).set verdict
  pub whole : out ≡ verdict_line verdict ++ behind_verdict (read_of sheet).answer (steps_printed (read_of sheet).set (script_of input))

-- What the bytes of a trace do from the start of a set is the run of its calls: they leave its state, and print its steps.
pub record TraceIsRun (x : Set) (input : List ℕ) : Type 0 where
  pub state : (tracing_on (tracing_from x true) input).state ≡ (run_of x (script_of input).calls).state
  pub text : text_to_end (tracing_from x true) input ≡ steps_printed x (script_of input)
