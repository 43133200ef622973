-- The console's page: its commands, and what each asks for.
-- Assumes nothing.
use Rattle.std.specs.Prelude.{ℕ, cond, List, [], ◌∷◌, ◌++◌, get_or, Option, Some, None, unwrap_or}
use Rattle.std.specs.Borrow.{Bor}
use Rattle.std.specs.List.{find}
use Rattle.std.specs.Option.{option_map}
use Prim.Native.String.{String}
use Rattle.ascii.specs.Decimal.{letters}
use Rattle.ascii.specs.Same.{same}
use Rattle.console_names.specs.declared.SetCommand.TheVariants.{Read, Streams, Stream, Once, Every, Version, Stages, Stage}
use Rattle.console_names.specs.declared.StateCommand.TheVariants.{Start, Clock, Pending, Message, Post, Unit, Done, Staged, Door, Owner, Places, Owns, Room}
use Rattle.console_names.specs.declared.Question.TheVariants as ask
use Rattle.console_names.specs.declared.ReplayCommand.TheVariants.{Recording, Next, Reader, Where}
use Rattle.console_names.specs.declared.CableCommand.TheVariants.{Cable as NewCable, Feed, Close}
use Rattle.console_names.specs.declared.CheckCommand.TheVariants.{Open, Go, Resume}
use Rattle.console_names.specs.declared.Command.{Command}
use Rattle.console_names.specs.declared.Command.TheVariants.{Unknown, Set, State, Ask, Replay, Record, Cable, Check}
use Rattle.console_names.specs.declared.Text.{Text}
use Rattle.console_names.specs.declared.Text.TheVariants.{Hex, Steps}
use Rattle.console_names.specs.declared.Row.{Row}

-- no command has more numbers
abbrev pub most_numbers : ℕ
most_numbers = 5

-- a command's numbers, the first at 0
abbrev pub nth : List ℕ → ℕ → ℕ
nth ns k = get_or ns k 0

-- "a buffer of LEN bytes (at most 1024 ..)"
abbrev pub most_bytes : ℕ
most_bytes = 1024

-- "A number is .. at most 4294967295"
abbrev top : ℕ
top = 4294967295

-- a line of the program's table
abbrev pub Entry : Type 0
Entry = Bor (List ℕ) × Command × Bor (List ℕ) × Option Text

-- what a line has to give: a command, what each of its numbers may at most be, and what stands behind them, where anything does
pub record Wanted : Type 0 where
  pub command : Command
  pub most : List ℕ
  pub text : Option Text

-- what a row of the program says
abbrev pub wanted : Row → Wanted
wanted r = record { command = r.command; most = r.most.now; text = r.text }

abbrev pub asks_with : Option Text → Command → List ℕ → Wanted
asks_with t k ms = record { command = k; most = ms; text = t }

abbrev asks : Command → List ℕ → Wanted
asks k ms = asks_with None k ms

-- a row of the page: a name, and what it stands for; one with HEX behind its name, one with steps behind its number
pub record Named : Type 0 where
  pub name : List ℕ
  pub stands : Wanted

abbrev row : String → Command → List ℕ → Named
row name k ms = record { name = letters name; stands = asks k ms }

abbrev hex_row : String → Command → Named
hex_row name k = record { name = letters name; stands = asks_with (Some Hex) k [] }

abbrev steps_row : String → Command → ℕ → Named
steps_row name k m = record { name = letters name; stands = asks_with (Some Steps) k (m ∷ []) }

-- what a line of the program's table says
abbrev pub row_in : Entry → Row
row_in x = record { command = x.1; most = x.2; text = x.3 }

-- the row that the program finds in its table
unfoldable pub found_in : List ℕ → List Entry → Option Row
found_in w xs = option_map row_in (find (λ x. same w x.0.now) xs)

abbrev pub named : Entry → Named
named x = record { name = x.0.now; stands = wanted (row_in x) }

-- the row among these that w names
abbrev pub among : List ℕ → List Named → Option Wanted
among w [] = None
among w (n ∷ ns) = cond (same w n.name) (Some n.stands) (among w ns)

-- **Set**; **CR 4**: "`version N` .. `stages I N` .. `stage I J TASK COST`: puts stage place J (0 to 3) of place I"
abbrev set_rows : List Named
set_rows =
    hex_row "read" (Set Read)
    ∷ row "streams" (Set Streams) (top ∷ [])
    ∷ row "stream" (Set Stream) (15 ∷ top ∷ top ∷ top ∷ top ∷ [])
    ∷ row "once" (Set Once) (15 ∷ 3 ∷ top ∷ [])
    ∷ row "every" (Set Every) (15 ∷ 3 ∷ top ∷ top ∷ [])
    ∷ row "version" (Set Version) (top ∷ [])
    ∷ row "stages" (Set Stages) (15 ∷ top ∷ [])
    ∷ row "stage" (Set Stage) (15 ∷ 3 ∷ top ∷ top ∷ [])
    ∷ []

-- **State**; **CR 4**: "`staged I N`"; **CR 6**: "`door I N`: puts the wait of stream place I (0 to 15)"
abbrev state_rows : List Named
state_rows =
    row "start" (State Start) []
    ∷ row "clock" (State Clock) (top ∷ [])
    ∷ row "pending" (State Pending) (top ∷ [])
    ∷ row "message" (State Message) (63 ∷ top ∷ top ∷ top ∷ [])
    ∷ row "post" (State Post) (top ∷ [])
    ∷ row "unit" (State Unit) []
    ∷ row "done" (State Done) []
    ∷ row "staged" (State Staged) (63 ∷ top ∷ [])
    ∷ row "door" (State Door) (15 ∷ top ∷ [])
    ∷ []

-- **CR 8**: "`owner I P` (P 0 ours or 1 theirs, else `?`), `places A B`", "`owns I P`, `room A B`": "(I 0 to 15 for streams, .. P 0 or 1 ..), else `?`;
-- every other number may be any"
abbrev party_rows : List Named
party_rows =
    row "owner" (State Owner) (15 ∷ 1 ∷ [])
    ∷ row "places" (State Places) (top ∷ top ∷ [])
    ∷ row "owns" (State Owns) (15 ∷ 1 ∷ [])
    ∷ row "room" (State Room) (top ∷ top ∷ [])
    ∷ []

-- what only asks, of the set and of the state
abbrev question_rows : List Named
question_rows =
    row "write" (Ask ask.Write) (most_bytes ∷ [])
    ∷ row "valid" (Ask ask.Valid) []
    ∷ row "limit" (Ask ask.Limit) (top ∷ top ∷ [])
    ∷ row "demand" (Ask ask.Demand) (top ∷ [])
    ∷ row "jitter" (Ask ask.Jitter) (top ∷ top ∷ [])
    ∷ row "verdict" (Ask ask.Verdict) []
    ∷ row "choose" (Ask ask.Choose) []
    ∷ row "state" (Ask ask.State) []
    ∷ row "formed" (Ask ask.Formed) []
    ∷ []

-- **CR 1**
abbrev replay_rows : List Named
replay_rows =
    hex_row "recording" (Replay Recording)
    ∷ row "next" (Replay Next) []
    ∷ row "reader" (Replay Reader) (top ∷ top ∷ [])
    ∷ row "where" (Replay Where) []
    ∷ steps_row "record" Record most_bytes
    ∷ []

-- **CR 5**
abbrev cable_rows : List Named
cable_rows = row "cable" (Cable NewCable) [] ∷ hex_row "feed" (Cable Feed) ∷ row "close" (Cable Close) [] ∷ []

-- **CR 7**
abbrev check_rows : List Named
check_rows = row "open" (Check Open) [] ∷ row "go" (Check Go) (top ∷ []) ∷ row "resume" (Check Resume) (top ∷ []) ∷ []

-- every row of the page
abbrev pub rows : List Named
rows = set_rows ++ state_rows ++ party_rows ++ question_rows ++ replay_rows ++ cable_rows ++ check_rows

-- "A line that is not one of those below .. prints `?`"
unfoldable pub row_of : List ℕ → Wanted
row_of w = unwrap_or (among w rows) (asks Unknown [])
