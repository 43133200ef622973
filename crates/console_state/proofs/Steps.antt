-- What a command leaves of the state, from what the functions that it calls give.
-- Assumes nothing.
use Prim.Native.Nat.{ℕ, ◌≤◌}
use native.Mathlib.Omega.{arith}
use mathlib.Core.Bool.{true, false}
use mathlib.Core.List.{List}
use lib.ListN.{length, get_or}
use Rattle.rules.specs.declared.Set.{Set}
use Rattle.rules.specs.declared.State.{State}
use Rattle.rules.specs.Steps.{start_for, post_of, unit_of}
use Rattle.rules.specs.Numbers.{start_says, post_says, unit_says}
use Rattle.line.specs.Line.{line_room}
use Rattle.answer_words.specs.Words.{says}
use Rattle.answer_words.proofs.Lengths.{says_short, line_short, step_short}
use Rattle.console_names.specs.declared.StateCommand.{StateCommand}
use Rattle.console_names.specs.declared.StateCommand.TheVariants.{Start, Clock, Pending, Message, Post, Unit, Done, Staged, Door, Owner as OwnerSaid, Places as PlacesSaid, Owns, Room}
use Rattle.console_state.specs.declared.Terms.{Terms}
use Rattle.console_state.specs.StateCommands.{state_line}

-- a line has room for what is printed
pub state_short : (k : StateCommand) (ns : List ℕ) (x : Set) (t : Terms) (s : State) → length (state_line k ns x t s) ≤ line_room
state_short Start ns x t s = let v = start_says (start_for x t.owners t.places).answer in line_short (says v) (says_short v)
state_short Clock ns x t s = omega arith
state_short Pending ns x t s = omega arith
state_short Message ns x t s = omega arith
state_short Post ns x t s = step_short s.clock (post_says (post_of s (get_or ns 0 0)).answer)
state_short Unit ns x t s = step_short s.clock (unit_says (unit_of s false).answer)
state_short Done ns x t s = step_short s.clock (unit_says (unit_of s true).answer)
state_short Staged ns x t s = omega arith
state_short Door ns x t s = omega arith
state_short OwnerSaid ns x t s = omega arith
state_short PlacesSaid ns x t s = omega arith
state_short Owns ns x t s = omega arith
state_short Room ns x t s = omega arith
