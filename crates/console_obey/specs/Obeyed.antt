-- The console's page: what a line leaves, and what it prints.
-- Assumes nothing.
use Rattle.std.specs.Prelude.{ℕ, Bool, true, false, List, [], ◌≡◌, drop}
use Rattle.rules.specs.declared.Set.{Set as Streams}
use Rattle.rules.specs.declared.State.{State as Scheduled}
use Rattle.rules.specs.declared.Position.{Position}
use Rattle.rules.specs.Streams.{empty_set}
use Rattle.rules.specs.Steps.{start_of}
use Rattle.ascii.specs.Decimal.{letters}
use Rattle.ascii.specs.Hex.{unhexed}
use Rattle.answer_words.specs.Words.{line_of}
use Rattle.page.specs.Pages.{room_for, Onto}
use Rattle.console_names.specs.declared.Command.{Command}
use Rattle.console_names.specs.declared.Command.TheVariants.{Nothing, Unknown, Set, State, Ask, Replay, Record, Cable, Check}
use Rattle.console_names.specs.Rows.{nth}
use Rattle.console_parse.specs.Lines.{order_of}
use Rattle.console_set.specs.SetCommands.{set_after, set_line}
use Rattle.console_state.specs.declared.Terms.{Terms}
use Rattle.console_state.specs.StateCommands.{first_terms, state_after, terms_after, state_line}
use Rattle.console_replay.specs.declared.Replay.{Replay as Replayed}
use Rattle.console_replay.specs.ReplayCommands.{first_replay, replay_after, replay_state_after, replay_line_of}
use Rattle.console_replay.specs.Records.{record_lines}
use Rattle.sheet_carried.specs.declared.Carried.{Carried}
use Rattle.console_cable.specs.CableCommands.{first_carried, cable_after, cable_set_after, cable_line}
use Rattle.console_check.specs.CheckCommands.{first_position, Checked}
use Rattle.console_ask.specs.Questions.{Prints, answer_room}
use Rattle.console_obey.specs.declared.Desk.{Desk}
use Rattle.console_obey.specs.declared.Step.{Step}

-- "The console holds a set (at first the empty set) and a state (at first the start of the empty set)." And a recording: "At first it is
-- empty." And what is carried of a sheet in pieces: "(So it is at first.)" And a position of the check: "At first it is the empty set and length 1."
-- And what a start uses: "at first all ours, 64 and 0"
abbrev pub first_desk : Desk
first_desk = record { set = empty_set; state = (start_of empty_set).state; replay = first_replay; carried = first_carried; position = first_position; terms = first_terms }

-- "the set becomes": all else stays; so with each part of a desk
abbrev pub with_set : Streams → Desk → Desk
with_set x d = record { set = x; state = d.state; replay = d.replay; carried = d.carried; position = d.position; terms = d.terms }

abbrev pub with_state : Scheduled → Desk → Desk
with_state s d = record { set = d.set; state = s; replay = d.replay; carried = d.carried; position = d.position; terms = d.terms }

abbrev pub with_replay : Replayed → Desk → Desk
with_replay t d = record { set = d.set; state = d.state; replay = t; carried = d.carried; position = d.position; terms = d.terms }

abbrev pub with_carried : Carried → Desk → Desk
with_carried c d = record { set = d.set; state = d.state; replay = d.replay; carried = c; position = d.position; terms = d.terms }

abbrev pub with_position : Position → Desk → Desk
with_position p d = record { set = d.set; state = d.state; replay = d.replay; carried = d.carried; position = p; terms = d.terms }

abbrev pub with_terms : Terms → Desk → Desk
with_terms t d = record { set = d.set; state = d.state; replay = d.replay; carried = d.carried; position = d.position; terms = t }

-- What a command with these numbers does: it leaves the desk e, and prints the bytes w. `text` is what stands behind the numbers: the
-- steps of a trace for `record`, else hex.
abbrev pub Does : Command → List ℕ → List ℕ → Desk → Desk → List ℕ → Type 0
-- "An empty line prints nothing."
Does Nothing ns text d e w = (e ≡ d) × (w ≡ [])
-- "A line that is not one of those below .. prints `?` and changes nothing."
Does Unknown ns text d e w = (e ≡ d) × (w ≡ line_of (letters "?"))
Does (Set k) ns text d e w = (e ≡ with_set (set_after k ns (unhexed text) d.set) d) × (w ≡ set_line k (unhexed text))
-- "what `start` uses from then on"
Does (State k) ns text d e w =
    (e ≡ with_terms (terms_after k ns d.terms) (with_state (state_after k ns d.set d.terms d.state) d))
    × (w ≡ state_line k ns d.set d.terms d.state)
Does (Ask q) ns text d e w = (e ≡ d) × Prints q ns d.set d.state w
-- "one step of the replay on the console's state"
Does (Replay k) ns text d e w =
    (e ≡ with_replay (replay_after k ns (unhexed text) d.state d.replay) (with_state (replay_state_after k d.replay d.state) d))
    × (w ≡ replay_line_of k (unhexed text) d.state d.replay)
Does Record ns text d e w = (e ≡ d) × (w ≡ record_lines text (nth ns 0))
-- "does what it does with the set, and the carried state is new again"
Does (Cable k) ns text d e w =
    (e ≡ with_carried (cable_after k (unhexed text) d.carried) (with_set (cable_set_after k d.carried d.set) d))
    × (w ≡ cable_line k (unhexed text) d.carried)
-- a check is a relation: it says of the position that is left that it is the one
Does (Check k) ns text d e w = (e ≡ with_position e.position d) × Checked k ns d.set d.position e.position w

-- A command obeyed: what it leaves, and the page with what it prints.
pub record Stepped (d : Desk) (k : Command) (ns text out : List ℕ) (at : ℕ) (r : Step) (page : List ℕ) : Type 0 where
  pub bytes : List ℕ
  pub does : Does k ns text d r.desk bytes
  pub onto : Onto out at bytes r.at page

-- the text of a line, from where it starts
abbrev pub text_of : List ℕ → List ℕ
text_of line = drop (order_of line).text line

-- A line obeyed: its command, with its numbers and its text.
abbrev pub Obeyed : Desk → List ℕ → List ℕ → ℕ → Step → List ℕ → Type 0
Obeyed d line out at r page = Stepped d (order_of line).command (order_of line).numbers (text_of line) out at r page

-- On a page that has not room for any answer nothing happens.
abbrev pub ObeysIf : Bool → Desk → List ℕ → List ℕ → ℕ → Step → List ℕ → Type 0
ObeysIf true d line out at r page = Obeyed d line out at r page
ObeysIf false d line out at r page = (r ≡ record { desk = d; at = at }) × (page ≡ out)

abbrev pub Obeys : Desk → List ℕ → List ℕ → ℕ → Step → List ℕ → Type 0
Obeys d line out at r page = ObeysIf (room_for out at answer_room) d line out at r page
