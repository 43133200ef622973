-- A line has room for what a command of the cable prints.
-- Assumes nothing.
use Prim.Native.Nat.{ℕ, ◌≤◌}
use native.Mathlib.Omega.{arith}
use mathlib.Core.List.{List}
use lib.ListN.{length}
use Rattle.rules.specs.Numbers.{feed_says}
use Rattle.sheet_carried.specs.declared.Carried.{Carried}
use Rattle.sheet_read.specs.Cable.{closed_of, feed_of}
use Rattle.line.specs.Line.{line_room}
use Rattle.answer_words.specs.Words.{says, read_words}
use Rattle.answer_words.proofs.Lengths.{read_short, says_short, line_short}
use Rattle.console_names.specs.declared.CableCommand.{CableCommand}
use Rattle.console_names.specs.declared.CableCommand.TheVariants.{Cable, Feed, Close}
use Rattle.console_cable.specs.CableCommands.{fed_line, closed_line, cable_line}

-- a line has room for what is printed
pub cable_short : (k : CableCommand) (piece : List ℕ) (c : Carried) → length (cable_line k piece c) ≤ line_room
unfolding fed_line closed_line
cable_short Cable piece c = omega arith
cable_short Feed piece c = line_short (says (feed_says (feed_of c piece).answer)) (says_short (feed_says (feed_of c piece).answer))
cable_short Close piece c = line_short (read_words (closed_of c).answer (closed_of c).set.count) (read_short (closed_of c).answer (closed_of c).set.count)
