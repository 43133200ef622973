-- Document 02, request 1, the program replay: all that it prints for a sheet and a recording.
-- Assumes nothing.
use Rattle.std.specs.Prelude.{ℕ, ◌≡◌, List, ◌++◌}
use Rattle.laws.specs.Lists.{flat}
use Rattle.rules.specs.declared.Set.{Set}
use Rattle.rules.specs.declared.Verdict.{Verdict}
use Rattle.rules.specs.Numbers.{number, refused as refused_with, ended}
use Rattle.rules.specs.Sheet.{read_of}
use Rattle.rules.specs.Runs.{steps_of}
use Rattle.rules.specs.Recordings.{Stop, ends, refused, Tape, tape_of}
use Rattle.load_check.specs.Sheets.{SheetVerdict}
use Rattle.answer_words.specs.Words.{says, line_of, line_of_step}
use Rattle.trace_steps.specs.Turns.{verdict_line}
use Rattle.trace_steps.specs.Trace.{behind_verdict}

-- "then `end` or `refused 13` or `refused 14`"
abbrev pub stop_line : Stop → List ℕ
stop_line ends = line_of (says ended)
stop_line (refused why) = line_of (says (refused_with (number why)))

-- "the lines of the trace program .., then": the steps from the start of the set, and how the recording stops
unfoldable pub replay_printed : Set → Tape → List ℕ
replay_printed x t = flat line_of_step (steps_of x t.calls) ++ stop_line t.stop

-- "the verdict first", and "a refused sheet prints only that line": `out` is what it prints, in whole
pub record ReplayOf (sheet recording out : List ℕ) : Type 0 where
  pub verdict : Verdict
  pub is_verdict : SheetVerdict (read_of sheet).answer (read_of sheet).set verdict
  pub whole : out ≡ verdict_line verdict ++ behind_verdict (read_of sheet).answer (replay_printed (read_of sheet).set (tape_of recording))
