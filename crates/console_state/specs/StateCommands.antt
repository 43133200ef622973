-- The console's page, **State**: what each command leaves of the state and of what a start uses, and what it prints.
-- Assumes nothing.
use Rattle.std.specs.Prelude.{ℕ, Bool, true, false, cond, List, eqb, set}
use Rattle.rules.specs.declared.Set.{Set}
use Rattle.rules.specs.declared.State.{State}
use Rattle.rules.specs.declared.Party.TheVariants.{Ours, Theirs}
use Rattle.rules.specs.declared.Party.{Party}
use Rattle.rules.specs.declared.Places.{Places}
use Rattle.rules.specs.Parties.{all_ours, all_places}
use Rattle.rules.specs.States.{with_clock, with_messages, with_waits}
use Rattle.rules.specs.Steps.{start_for, post_of, unit_of, message_at}
use Rattle.rules.specs.Numbers.{start_says, post_says, unit_says}
use Rattle.ascii.specs.Decimal.{letters}
use Rattle.line.specs.Line.{holding}
use Rattle.answer_words.specs.Words.{says, line_of, step_line}
use Rattle.console_names.specs.Rows.{nth}
use Rattle.console_names.specs.declared.StateCommand.{StateCommand}
use Rattle.console_names.specs.declared.StateCommand.TheVariants.{Start, Clock, Pending, Message, Post, Unit, Done, Staged, Door, Owner as OwnerSaid, Places as PlacesSaid, Owns, Room}
use Rattle.console_state.specs.declared.Terms.{Terms}
use Rattle.console_state.specs.declared.StateAfter.{StateAfter}

-- "put these numbers into the state's clock, count and message place I"
abbrev pub clock_put : State → ℕ → State
clock_put s n = with_clock s n

abbrev pub pending_put : State → ℕ → State
pending_put s n = with_messages s n s.messages

-- "`message` puts 0 there": the stage
abbrev pub message_put : State → ℕ → ℕ → ℕ → ℕ → State
message_put s i stream deadline used =
    with_messages s s.count (set s.messages i (record { stream = stream; deadline = deadline; used = used; stage = 0 }))

-- "puts the stage, from 0, of message place I"
abbrev pub staged_put : State → ℕ → ℕ → State
staged_put s i n =
    let m = message_at s i in
    with_messages s s.count (set s.messages i (record { stream = m.stream; deadline = m.deadline; used = m.used; stage = n }))

-- "puts the wait of stream place I"
abbrev pub door_put : State → ℕ → ℕ → State
door_put s i n = with_waits s (set s.waits i n)

-- **CR 8**: "P 0 ours or 1 theirs", and the places of the two
abbrev pub owner_of : ℕ → Party
owner_of n = cond (eqb n 0) Ours Theirs

abbrev pub places_for : ℕ → ℕ → Places
places_for a b = record { ours = a; theirs = b }

-- "put the owner of stream place I and the places into the state"
abbrev pub owns_put : State → ℕ → ℕ → State
owns_put s i n =
    record {
      set = s.set;
      clock = s.clock;
      count = s.count;
      messages = s.messages;
      waits = s.waits;
      owners = set s.owners i (owner_of n);
      places = s.places;
    }

abbrev pub room_put : State → ℕ → ℕ → State
room_put s a b =
    record {
      set = s.set;
      clock = s.clock;
      count = s.count;
      messages = s.messages;
      waits = s.waits;
      owners = s.owners;
      places = places_for a b;
    }

-- "what `start` uses from then on"
abbrev pub owner_put : Terms → ℕ → ℕ → Terms
owner_put t i n = record { owners = set t.owners i (owner_of n); places = t.places }

abbrev pub places_put : Terms → ℕ → ℕ → Terms
places_put t a b = record { owners = t.owners; places = places_for a b }

-- "at first all ours, 64 and 0"
abbrev pub first_terms : Terms
first_terms = record { owners = all_ours; places = all_places }

-- The state after a command with these numbers, where the console holds the set x, and a start uses t.
abbrev pub state_after : StateCommand → List ℕ → Set → Terms → State → State
-- "the state becomes the start of the set .. or `refused 7` (and the start of the empty set)"; "`start` prints `refused 16` too"
state_after Start ns x t s = (start_for x t.owners t.places).state
-- "`clock N`, `pending N`, `message I STREAM DEADLINE USED` .. put these numbers"
state_after Clock ns x t s = clock_put s (nth ns 0)
state_after Pending ns x t s = pending_put s (nth ns 0)
state_after Message ns x t s = message_put s (nth ns 0) (nth ns 1) (nth ns 2) (nth ns 3)
-- "`post S`, `unit`, `done`": a step of the scheduler
state_after Post ns x t s = (post_of s (nth ns 0)).state
state_after Unit ns x t s = (unit_of s false).state
state_after Done ns x t s = (unit_of s true).state
-- "`staged I N`"
state_after Staged ns x t s = staged_put s (nth ns 0) (nth ns 1)
-- "`door I N`"
state_after Door ns x t s = door_put s (nth ns 0) (nth ns 1)
-- "`owner I P` .., `places A B`": the state stays
state_after OwnerSaid ns x t s = s
state_after PlacesSaid ns x t s = s
-- "`owns I P`, `room A B`"
state_after Owns ns x t s = owns_put s (nth ns 0) (nth ns 1)
state_after Room ns x t s = room_put s (nth ns 0) (nth ns 1)

-- What a start uses after it: only two commands change that.
abbrev pub terms_after : StateCommand → List ℕ → Terms → Terms
terms_after Start ns t = t
terms_after Clock ns t = t
terms_after Pending ns t = t
terms_after Message ns t = t
terms_after Post ns t = t
terms_after Unit ns t = t
terms_after Done ns t = t
terms_after Staged ns t = t
terms_after Door ns t = t
-- "`owner I P` .., `places A B`: what `start` uses from then on"
terms_after OwnerSaid ns t = owner_put t (nth ns 0) (nth ns 1)
terms_after PlacesSaid ns t = places_put t (nth ns 0) (nth ns 1)
terms_after Owns ns t = t
terms_after Room ns t = t

-- What it prints.
abbrev pub state_line : StateCommand → List ℕ → Set → Terms → State → List ℕ
-- "Prints `started`, or `refused 7`"; "`start` prints `refused 16` too"
state_line Start ns x t s = line_of (says (start_says (start_for x t.owners t.places).answer))
-- "Print `put`."
state_line Clock ns x t s = line_of (letters "put")
state_line Pending ns x t s = line_of (letters "put")
state_line Message ns x t s = line_of (letters "put")
-- "print what the trace program prints for such a step, with the clock before it"
state_line Post ns x t s = step_line s.clock (post_says (post_of s (nth ns 0)).answer)
state_line Unit ns x t s = step_line s.clock (unit_says (unit_of s false).answer)
state_line Done ns x t s = step_line s.clock (unit_says (unit_of s true).answer)
state_line Staged ns x t s = line_of (letters "put")
state_line Door ns x t s = line_of (letters "put")
state_line OwnerSaid ns x t s = line_of (letters "put")
state_line PlacesSaid ns x t s = line_of (letters "put")
state_line Owns ns x t s = line_of (letters "put")
state_line Room ns x t s = line_of (letters "put")

-- the steps, by what they look at
unfoldable pub started : Set → Terms → StateAfter
started x t =
    let r = start_for x t.owners t.places in
    record { state = r.state; terms = t; line = holding (line_of (says (start_says r.answer))) }

unfoldable pub posted : State → Terms → ℕ → StateAfter
posted s t k = record { state = (post_of s k).state; terms = t; line = holding (step_line s.clock (post_says (post_of s k).answer)) }

unfoldable pub ran : State → Terms → Bool → StateAfter
ran s t done = record { state = (unit_of s done).state; terms = t; line = holding (step_line s.clock (unit_says (unit_of s done).answer)) }
