-- What the code relies on while it reads a state's messages: those of document 01's rules that keep every index in range.
-- Assumes nothing.
use Rattle.std.specs.Prelude.{ℕ, ◌≤◌, Bool, true, cond, ◌&&◌, List, ◌≡◌, get_or, drop, leb, Option, Some, None}
use Rattle.std.specs.List.{list_all}
use Rattle.laws.specs.Lists.{every, below}
use Rattle.rules.specs.declared.Message.{Message}
use Rattle.rules.specs.declared.Set.{Set}
use Rattle.rules.specs.declared.State.{State}
use Rattle.rules.specs.declared.Stream.{Stream}
use Rattle.rules.specs.Streams.{no_stream, valid}
use Rattle.rules.specs.Doors.{door_of, most_wait, waits_later}
use Rattle.rules.specs.States.{pending, most_pending, messages_ok, started_once, state_tests, well_formed}
use Rattle.state_parties.specs.Shares.{held_in}
use Rattle.state_formed.specs.declared.Tested.{Tested}

-- each message keeps its rules, and each task has at most one message with a used unit
unfoldable pub messages_pass : Set → ℕ → List Message → Bool
messages_pass x clock l = messages_ok x clock l && list_all (started_once x l) (below 16)

-- what a unit that moves the clock leaves of the waits, where each is at most what its stream's door allows
abbrev pub door_allows : List Stream → List ℕ → ℕ → Bool
door_allows ss ws k = leb (get_or ws k 0) (most_wait (door_of (get_or ss k no_stream)))

unfoldable pub waits_left : List Stream → List ℕ → Option (List ℕ)
waits_left ss ws = cond (list_all (door_allows ss ws) (below 16)) (Some (waits_later ss ws)) None

-- the tests of a state but for the first, "the set is valid"
unfoldable pub rest_formed : State → Bool
rest_formed s = every (drop 1 (state_tests s))

-- all pass: the waits after a unit that moves the clock, and the parties' messages
abbrev pub passing : State → Tested
passing s = record { later = waits_later s.set.streams s.waits; held = held_in s.owners (pending s) }

-- what the tests but for the set's say, and what all of them say
unfoldable pub tested_of : State → Option Tested
tested_of s = cond (rest_formed s) (Some (passing s)) None

unfoldable pub whole_of : State → Option Tested
whole_of s = cond (well_formed s) (Some (passing s)) None

pub record InRange (s : State) : Type 0 where
  pub set : valid s.set ≡ true
  pub few : s.count ≤ most_pending
  pub each : messages_ok s.set s.clock (pending s) ≡ true
