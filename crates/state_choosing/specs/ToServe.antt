-- What there is to serve in a state.
-- Assumes nothing.
use Rattle.std.specs.Prelude.{ℕ, cond, eqb, Option, Some, None, Result, Ok, Err}
use Rattle.rules.specs.declared.Set.{Set}
use Rattle.rules.specs.declared.Message.{Message}
use Rattle.rules.specs.declared.State.{State}
use Rattle.rules.specs.declared.Refusal.{Refusal}
use Rattle.rules.specs.declared.Refusal.TheVariants.{IllFormed}
use Rattle.rules.specs.Doors.{waits_later}
use Rattle.rules.specs.States.{task_of, cost_of, well_formed}
use Rattle.rules.specs.Steps.{place_of, message_at, at_last}
use Rattle.state_choosing.specs.declared.Served.{Served}
use Rattle.state_choosing.specs.declared.Looked.{Looked}

-- the message m at i, with its task and its cost c, and whether it is in its last stage
abbrev pub serve_by : Set → ℕ → Message → Served
serve_by x i m = record { place = i; task = task_of x m; cost = cost_of x m; last = at_last x m }

abbrev pub serve_at : State → ℕ → Served
serve_at s i = serve_by s.set i (message_at s i)

-- the message that is served, where one is pending
unfoldable pub found_of : State → Served
found_of s = serve_at s (place_of s)

unfoldable pub serve_of : State → Option Served
serve_of s = cond (eqb s.count 0) None (Some (serve_at s (place_of s)))

-- beside it the waits after a unit that moves the clock
unfoldable pub looked_of : State → Result Looked Refusal
looked_of s = cond (well_formed s) (Ok (record { served = serve_of s; later = waits_later s.set.streams s.waits })) (Err IllFormed)
