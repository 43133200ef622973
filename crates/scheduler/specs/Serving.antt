-- The decisions of a unit: when a message is served, what is answered and what becomes of it where it stays.
-- Assumes nothing.
use Rattle.std.specs.Prelude.{ℕ, Bool, cond, not, ◌&&◌, ◌||◌}
use Rattle.rules.specs.declared.Message.{Message}
use Rattle.rules.specs.declared.Outcome.{Outcome}
use Rattle.rules.specs.declared.Outcome.TheVariants.{Ran, Passed, Finished, Cut}
use Rattle.rules.specs.Steps.{gained, passed_on, laxity_of}

-- "If done, it leaves as finished. If not done and its used units now equal c, it leaves as cut. Otherwise it stays as ran.
-- .. Each answer names task and stream; a leaving one also has the laxity"; "Finished means the last; an earlier one answers passed":
-- spent where its used units now equal c, last where its stage is its last
unfoldable pub served_answer : ℕ → Message → ℕ → (done spent last : Bool) → Outcome
served_answer task m now done spent last =
    cond done
    (cond last (Finished task m.stream (laxity_of m.deadline now))
    (Passed task m.stream))
    (cond spent (Cut task m.stream (laxity_of m.deadline now))
    (Ran task m.stream))

-- it leaves: finished, or cut
abbrev pub departs : (done spent last : Bool) → Bool
departs done spent last = (done && last) || (not done && spent)

-- a message that stays: it passes on, or has gained one used unit
unfoldable pub stepped_on : Message → Bool → Message
stepped_on m done = cond done (passed_on m) (gained m)
