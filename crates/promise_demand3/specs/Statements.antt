-- What follows from demand 3 or stands beside it: no pending message is ever due, no laxity is negative, no message leaves twice. The event-limit condition is that
-- of demand 3: only the streams without a door have to keep it.
-- Demand 3 itself is `Demand3` of rules. Assumes nothing.
use Rattle.std.specs.Prelude.{ℕ, ◌+◌, ◌<◌, Bool, false, cond, ◌≡◌, length, ltb, eqb, pos, ◌≤ℤ◌}
use mathlib.Core.List.{List, ◌++◌, Memᴰ}
use Rattle.laws.specs.Lists.{count}
use Rattle.rules.specs.declared.Message.{Message}
use Rattle.rules.specs.declared.Call.{Call}
use Rattle.std.specs.Prelude.{Result, Ok, Err}
use Rattle.rules.specs.declared.Outcome.{Outcome}
use Rattle.rules.specs.declared.Refusal.{Refusal}
use Rattle.rules.specs.declared.Outcome.TheVariants.{Ran, Passed, Finished, Cut, Idle}
use Rattle.rules.specs.declared.Verdict.TheVariants.{Accept}
use Rattle.rules.specs.States.{pending}
use Rattle.rules.specs.Steps.{unit_of}
use Rattle.rules.specs.Load.{VerdictOf}
use Rattle.rules.specs.Runs.{Departure, accepted, departures, Start, Starts, begin_for, run_for, KeepsOpenLimits, EachHasDoor, missed_from}

-- no pending message's deadline is at or before the clock, at any moment of the run: after the calls `before`, with the calls `more` still to come
unfoldable pub NeverDue : Type 0
NeverDue =
    (z : Start) → Starts z → VerdictOf z.set Accept → (before more : List Call) → KeepsOpenLimits z.set (accepted (run_for z (before ++ more)))
    → (m : Message) → Memᴰ m (pending (run_for z before).state) → (run_for z before).state.clock < m.deadline

-- the same by the test of a run's moments
unfoldable pub NeverMissed : Type 0
NeverMissed = (z : Start) → Starts z → VerdictOf z.set Accept → (calls : List Call) → KeepsOpenLimits z.set (accepted (run_for z calls)) → missed_from (begin_for z) calls ≡ false

-- where every stream has a door, whatever calls are made
unfoldable pub NeverMissedBehindDoors : Type 0
NeverMissedBehindDoors = (z : Start) → Starts z → VerdictOf z.set Accept → EachHasDoor z.set → (calls : List Call) → missed_from (begin_for z) calls ≡ false

-- the laxity of an answer, where it has one, is at least 0
abbrev pub NotLate : Result Outcome Refusal → Type 0
NotLate (Ok (Finished t k l)) = pos 0 ≤ℤ l
NotLate (Ok (Cut t k l)) = pos 0 ≤ℤ l
NotLate (Ok (Ran t k)) = Unit {0}
NotLate (Ok (Passed t k)) = Unit {0}
NotLate (Ok Idle) = Unit {0}
NotLate (Err why) = Unit {0}

-- every laxity answered is at least 0
unfoldable pub NoLateAnswer : Type 0
NoLateAnswer =
    (z : Start) → Starts z → VerdictOf z.set Accept → (calls : List Call) → KeepsOpenLimits z.set (accepted (run_for z calls))
    → (done : Bool) → NotLate (unit_of (run_for z calls).state done).answer

-- each number that was given is once among the pending messages or the departures, whatever the load: no message is lost, and none leaves twice
abbrev pub left_as : ℕ → Departure → Bool
left_as n d = eqb d.number n

abbrev pub waits_as : ℕ → ℕ → Bool
waits_as n k = eqb k n

unfoldable pub EachOnce : Type 0
EachOnce =
    (z : Start) → Starts z → (calls : List Call) → (n : ℕ)
    → count (waits_as n) (run_for z calls).names + count (left_as n) (departures (run_for z calls)) ≡ cond (ltb n (length (accepted (run_for z calls)))) 1 0
