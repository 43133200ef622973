-- The step that a call makes.
-- Assumes nothing.
use Rattle.rules.specs.declared.State.{State}
use Rattle.rules.specs.declared.Call.{Call}
use Rattle.std.specs.Prelude.{Ok, Some}
use Rattle.rules.specs.declared.ReplayResult.{ReplayResult}
use Rattle.rules.specs.declared.Place.{Place}
use Rattle.rules.specs.Recordings.{replay_by}

-- the call's answer and state, the reader behind the call
abbrev pub Behind : State → Call → Place → ReplayResult
Behind s c p = replay_by s p (Ok (Some c))
