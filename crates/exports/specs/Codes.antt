-- What a caller in another language is told: one number for each question about a sheet.
-- Assumes nothing.
use Rattle.std.specs.Prelude.{ℕ, ◌+◌, ◌*◌, ◌%◌, List, ◌≡◌}
use Rattle.rules.specs.declared.State.{State}
use Rattle.std.specs.Prelude.{Result, Ok, Err}
use Rattle.rules.specs.declared.Refusal.{Refusal}
use Rattle.rules.specs.declared.ReadResult.{ReadResult}
use Rattle.rules.specs.declared.Verdict.{Verdict}
use Rattle.rules.specs.declared.Verdict.TheVariants.{Accept, Late, Overload, Refused}
use Rattle.rules.specs.Streams.{stream_at}
use Rattle.rules.specs.Runs.{run_of}
use Rattle.scheduler_run.specs.Calls.{calls_of}
use Rattle.rules.specs.Sheet.{read_of}
use Rattle.rules.specs.Numbers.{number}
use Rattle.load_check.specs.Sheets.{SheetVerdict}

-- two numbers in one of 64 bits, each by its lowest 32
unfoldable pub halves : ℕ → ℕ → ℕ
halves upper lower = upper % 4294967296 * 4294967296 + lower % 4294967296

-- ---- reading

-- 0 for a set that was read, else the refusal's number
abbrev pub answer_number : Result (Unit {0}) Refusal → ℕ
answer_number (Ok tt) = 0
answer_number (Err why) = number why

-- the answer's number, and the deadline of stream k
unfoldable pub read_code : ReadResult → ℕ → ℕ
read_code r k = halves (answer_number r.answer) (stream_at r.set k).deadline

-- ---- the verdict

-- 0 accept, 256 late, 257 overload, which no refusal has, else the refusal's number
abbrev pub kind_of : Verdict → ℕ
kind_of Accept = 0
kind_of (Late i w) = 256
kind_of Overload = 257
kind_of (Refused why) = number why

-- the least late length, 0 where there is none
abbrev pub length_of : Verdict → ℕ
length_of Accept = 0
length_of (Late i w) = i
length_of Overload = 0
length_of (Refused why) = 0

unfoldable pub verdict_code : Verdict → ℕ
verdict_code v = halves (kind_of v) (length_of v)

-- the verdict of the sheet
pub record VerdictOfSheet (r : ReadResult) (n : ℕ) : Type 0 where
  pub given : Verdict
  pub is_verdict : SheetVerdict r.answer r.set given
  pub code : n ≡ verdict_code given

-- ---- calls

-- how many messages are pending, and the clock
unfoldable pub state_code : State → ℕ
state_code s = halves s.count s.clock

-- the state after the calls, from the start of the set that the sheet reads as
unfoldable pub run_code : List ℕ → List ℕ → ℕ
run_code sheet calls = state_code (run_of (read_of sheet).set (calls_of calls)).state
