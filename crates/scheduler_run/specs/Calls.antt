-- Calls as bytes, and how the run of such calls ends.
-- Assumes nothing.
use Rattle.std.specs.Prelude.{ℕ, cond, not, List, map, ◌≡◌, ltb, eqb}
use Rattle.rules.specs.declared.Call.{Call}
use Rattle.rules.specs.declared.Call.TheVariants.{Posts, Units}
use Rattle.rules.specs.declared.Set.{Set}
use Rattle.rules.specs.Runs.{run_of, missed_in}
use Rattle.scheduler_run.specs.declared.Ended.{Ended}

-- a byte below 16 posts to that stream, 16 is a unit, any other a unit with done
unfoldable pub call_byte : ℕ → Call
call_byte b = cond (ltb b 16) (Posts b) (Units (not (eqb b 16)))

abbrev pub calls_of : List ℕ → List Call
calls_of bytes = map call_byte bytes

-- the last state of the run of these calls, and whether a message was ever pending at its deadline
pub record EndOf (x : Set) (bytes : List ℕ) (r : Ended) : Type 0 where
  pub state : r.state ≡ (run_of x (calls_of bytes)).state
  pub missed : r.missed ≡ missed_in x (calls_of bytes)
