-- What is promised of a set that is judged and run, and of one that was read from a sheet.
-- Assumes nothing.
use Rattle.std.specs.Prelude.{ℕ, ◌≤◌, false, List, ◌≡◌, length}
use Rattle.rules.specs.declared.Party.{Party}
use Rattle.rules.specs.declared.Places.{Places}
use Rattle.rules.specs.Parties.{together}
use Rattle.rules.specs.States.{most_pending}
use Rattle.rules.specs.declared.Call.{Call}
use Rattle.rules.specs.declared.Set.{Set}
use Rattle.rules.specs.declared.Verdict.TheVariants.{Accept}
use Rattle.rules.specs.Load.{VerdictOf}
use Rattle.rules.specs.Runs.{Start, accepted, run_of, run_for, KeepsOpenLimits, AllLeave, missed_in}
use Rattle.rules.specs.Sheet.{read_of}
use Rattle.promise_code.specs.declared.JudgedRun.{JudgedRun}

-- "If the check accepts a set, then from a fresh start, under any calls whose accepted posts keep every stream's event limit in every window", which is asked only of
-- the streams without a door, no accepted message is pending when the clock is at its deadline, at any moment
pub record Promised (x : Set) (calls : List Call) (r : JudgedRun) : Type 0 where
  pub verdict : VerdictOf x r.verdict
  pub state : r.state ≡ (run_of x calls).state
  pub missed : r.missed ≡ missed_in x calls
  pub in_time : r.verdict ≡ Accept → KeepsOpenLimits x (accepted (run_of x calls)) → r.missed ≡ false

-- demand 3 of a set that came from a sheet, whatever its bytes, whosever its streams are: nothing is asked of the set but its verdict
abbrev pub sheet_start : List ℕ → List Party → Places → Start
sheet_start sheet owners places = record { set = (read_of sheet).set; owners = owners; places = places }

unfoldable pub Demand3OfSheet : Type 0
Demand3OfSheet =
    (sheet : List ℕ) (owners : List Party) (places : Places) → length owners ≡ 16 → together places ≤ most_pending → VerdictOf (read_of sheet).set Accept
    → (calls : List Call) → KeepsOpenLimits (read_of sheet).set (accepted (run_for (sheet_start sheet owners places) calls))
    → AllLeave (read_of sheet).set (run_for (sheet_start sheet owners places) calls)
