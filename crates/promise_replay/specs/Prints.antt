-- Document 02, request 1: what is promised of the replay program's output.
-- Assumes nothing.
use Rattle.std.specs.Prelude.{ℕ, List}
use Rattle.rules.specs.Sheet.{read_of}
use Rattle.replay_lines.specs.declared.ReplayTurn.{ReplayTurn}
use Rattle.replay_lines.specs.Replaying.{Begun}
use Rattle.replay_lines.specs.Replay.{ReplayOf}
use Rattle.replay_lines.specs.Printed.{ReplayMade}

-- what the program's functions make of any sheet and any recording, on pages of any size, is what the program is said to print
unfoldable pub ReplayPrints : Type 0
ReplayPrints = (sheet recording out : List ℕ) → ReplayMade sheet recording out → ReplayOf sheet recording out

-- and something is made: every replay stops
unfoldable pub ReplayStops : Type 0
ReplayStops = (sheet recording : List ℕ) (first : ReplayTurn) → Begun (read_of sheet) first → (out : List ℕ) × ReplayMade sheet recording out
