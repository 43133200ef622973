-- What a command leaves of the set, from what the functions that it calls give.
-- Assumes nothing.
use Prim.Native.Nat.{ℕ, ◌≤◌}
use native.Mathlib.Omega.{arith}
use mathlib.Core.List.{List}
use lib.ListN.{length}
use Rattle.rules.specs.Sheet.{read_of}
use Rattle.line.specs.Line.{line_room}
use Rattle.answer_words.specs.Words.{read_words}
use Rattle.answer_words.proofs.Lengths.{read_short, line_short}
use Rattle.console_names.specs.declared.SetCommand.{SetCommand}
use Rattle.console_names.specs.declared.SetCommand.TheVariants.{Read, Streams, Stream as OneStream, Once, Every, Version, Stages, Stage}
use Rattle.console_set.specs.SetCommands.{set_line}

-- a line has room for what is printed
pub set_short : (k : SetCommand) (sheet : List ℕ) → length (set_line k sheet) ≤ line_room
set_short Read sheet = line_short (read_words (read_of sheet).answer (read_of sheet).set.count) (read_short (read_of sheet).answer (read_of sheet).set.count)
set_short Streams sheet = omega arith
set_short OneStream sheet = omega arith
set_short Once sheet = omega arith
set_short Every sheet = omega arith
set_short Version sheet = omega arith
set_short Stages sheet = omega arith
set_short Stage sheet = omega arith
