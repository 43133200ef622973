-- On a page that has the room for any answer, what a line prints stands there whole.
-- Assumes nothing.
use Prim.Native.Nat.{ℕ, ◌+◌, ◌≤◌}
use native.Mathlib.Omega.{arith}
use mathlib.Core.Path.{◌≡◌, ap, ◌∙◌}
use mathlib.Core.Bool.{true}
use mathlib.Core.List.{List}
use lib.ListN.{length}
use lib.Seq.{paste}
use Rattle.ascii.specs.Hex.{unhexed}
use Rattle.page.specs.Pages.{room_for}
use Rattle.page.proofs.Prints.{printed_there, end_there}
use Rattle.console_names.specs.declared.Command.{Command}
use Rattle.console_names.specs.declared.Command.TheVariants.{Nothing, Unknown, Set, State, Ask, Replay, Record, Cable, Check}
use Rattle.console_names.specs.Rows.{nth}
use Rattle.console_set.proofs.Puts.{set_short}
use Rattle.console_state.proofs.Steps.{state_short}
use Rattle.console_replay.proofs.Replays.{replay_short}
use Rattle.console_replay.proofs.Records.{record_short}
use Rattle.console_cable.proofs.Cables.{cable_short}
use Rattle.console_check.proofs.Once.{checked_short}
use Rattle.console_ask.specs.Questions.{answer_room}
use Rattle.console_ask.proofs.Fits.{answer_fits}
use Rattle.console_ask.proofs.States.{Sized}
use Rattle.console_parse.specs.Lines.{order_of}
use Rattle.console_obey.specs.declared.Desk.{Desk}
use Rattle.console_obey.specs.declared.Step.{Step}
use Rattle.console_obey.specs.Obeyed.{Does, text_of, Obeyed}

-- a state of the machine has 64 places for messages, 16 waits and 16 owners
pub command_fits : (k : Command) (ns text : List ℕ) (d e : Desk) (w : List ℕ) → Sized d.state → Does k ns text d e w
    → length w ≤ answer_room
command_fits Nothing ns text d e w all p = omega (arith, ap length p.1)
command_fits Unknown ns text d e w all p = omega (arith, ap length p.1)
command_fits (Set k) ns text d e w all p = omega (arith, ap length p.1, set_short k (unhexed text))
command_fits (State k) ns text d e w all p = omega (arith, ap length p.1, state_short k ns d.set d.terms d.state)
command_fits (Ask q) ns text d e w all p = answer_fits q ns d.set d.state w all p.1
command_fits (Replay k) ns text d e w all p = omega (arith, ap length p.1, replay_short k (unhexed text) d.state d.replay)
command_fits Record ns text d e w all p = omega (arith, ap length p.1, record_short text (nth ns 0))
command_fits (Cable k) ns text d e w all p = omega (arith, ap length p.1, cable_short k (unhexed text) d.carried)
command_fits (Check k) ns text d e w all p = omega (arith, checked_short k ns d.set d.position e.position w p.1)

pub obeyed_whole : (d : Desk) (line out : List ℕ) (at : ℕ) (r : Step) (page : List ℕ) (t : Obeyed d line out at r page)
    → Sized d.state → room_for out at answer_room ≡ true
    → (r.at ≡ at + length t.bytes) × (page ≡ paste out at t.bytes (length t.bytes))
obeyed_whole d line out at r page t all room =
    let fits : length t.bytes ≤ answer_room = command_fits (order_of line).command (order_of line).numbers (text_of line) d r.desk t.bytes all t.does in
    (t.onto.0 ∙ end_there out t.bytes at answer_room room fits, t.onto.1 ∙ printed_there out t.bytes at answer_room room fits)
