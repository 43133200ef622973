-- Document 01, "State and steps": the state, and when it is well formed; document 02, request 4: the stage of a message; request 6: the waits at the doors;
-- request 8: the owners and the places.
-- Assumes nothing.
use Rattle.std.specs.Prelude.{ℕ, ◌+◌, ◌-◌, Bool, ◌&&◌, List, [], ◌∷◌, ◌≡◌, length, get_or, take, drop, ltb, leb, eqb}
use Rattle.std.specs.List.{list_all}
use Rattle.laws.specs.Lists.{every, within, below, count, scan}
use Rattle.rules.specs.declared.Stage.{Stage}
use Rattle.rules.specs.declared.Set.{Set}
use Rattle.rules.specs.declared.Message.{Message}
use Rattle.rules.specs.declared.State.{State}
use Rattle.rules.specs.Streams.{Placed, stream_at, stage_at, valid}
use Rattle.rules.specs.Doors.{door_of, most_wait}
use Rattle.rules.specs.declared.Party.{Party}
use Rattle.rules.specs.declared.Party.TheVariants.{Ours, Theirs}
use Rattle.rules.specs.Parties.{party_at, held_of, places_of, together, owner_unused}

abbrev pub no_message : Message
no_message = record { stream = 0; deadline = 0; used = 0; stage = 0 }

-- "The state holds a set, the clock and up to 64 pending messages in posting order"
abbrev pub pending : State → List Message
pending s = take s.count s.messages

-- the state with another clock, with n pending messages at the front of ms, and with other waits: what else it holds stays
abbrev pub with_clock : State → ℕ → State
with_clock s clock = record { set = s.set; clock = clock; count = s.count; messages = s.messages; waits = s.waits; owners = s.owners; places = s.places }

abbrev pub with_messages : State → ℕ → List Message → State
with_messages s n ms = record { set = s.set; clock = s.clock; count = n; messages = ms; waits = s.waits; owners = s.owners; places = s.places }

abbrev pub with_waits : State → List ℕ → State
with_waits s ws = record { set = s.set; clock = s.clock; count = s.count; messages = s.messages; waits = ws; owners = s.owners; places = s.places }

-- the message with other used units
abbrev pub with_used : Message → ℕ → Message
with_used m used = record { stream = m.stream; deadline = m.deadline; used = used; stage = m.stage }

-- how many stages a message goes through, and the one that it is in
abbrev pub stages_in : Set → Message → ℕ
stages_in x m = (stream_at x m.stream).depth

abbrev pub stage_of : Set → Message → Stage
stage_of x m = stage_at (stream_at x m.stream) m.stage

-- a message's task and its cost c are those of its stage, its relative deadline d is that of its stream
abbrev pub task_of : Set → Message → ℕ
task_of x m = (stage_of x m).task

abbrev pub cost_of : Set → Message → ℕ
cost_of x m = (stage_of x m).cost

abbrev pub span_of : Set → Message → ℕ
span_of x m = (stream_at x m.stream).deadline

-- "deadline less d": the clock at which the message was posted
abbrev pub posted_at : Set → Message → ℕ
posted_at x m = m.deadline - span_of x m

-- "each message names a stream of the set, has used less than c, and has a deadline from d to clock + d;
-- deadline less d never falls along the order": a message behind one that was posted at `before`. Its stage is one of its stream's, c that stage's cost
abbrev pub message_tests : Set → ℕ → ℕ → Message → List Bool
message_tests x clock before m =
    ltb m.stream x.count
    ∷ ltb m.stage (stages_in x m)
    ∷ ltb m.used (cost_of x m)
    ∷ within (span_of x m) m.deadline (clock + span_of x m)
    ∷ leb before (posted_at x m)
    ∷ []

unfoldable pub message_ok : Set → ℕ → ℕ → Message → Bool
message_ok x clock before m = every (message_tests x clock before m)

unfoldable pub messages_ok : Set → ℕ → List Message → Bool
messages_ok x clock l = scan (message_ok x clock) (posted_at x) 0 l

-- a message in a stage of the task t with a used unit: a started one
abbrev pub started_of : Set → ℕ → Message → Bool
started_of x t m = ltb 0 m.used && eqb (task_of x m) t

-- "each task has at most one message with a used unit"
unfoldable pub started_once : Set → List Message → ℕ → Bool
started_once x l t = leb (count (started_of x t) l) 1

unfoldable pub message_unused : Message → Bool
message_unused m = every (eqb m.stream 0 ∷ eqb m.deadline 0 ∷ eqb m.used 0 ∷ eqb m.stage 0 ∷ [])

-- the wait of a stream is at most what its door allows: 0 without one, and for a place that is not in use
unfoldable pub wait_ok : Set → List ℕ → ℕ → Bool
wait_ok x ws k = leb (get_or ws k 0) (most_wait (door_of (stream_at x k)))

-- request 8: the party of a stream in a state, and how many pending messages a party has
abbrev pub party_of : State → ℕ → Party
party_of s k = party_at s.owners k

abbrev pub held_by : State → Party → ℕ
held_by s p = held_of s.owners p (pending s)

-- "up to 64 pending messages"
abbrev pub most_pending : ℕ
most_pending = 64

-- "the clock is at most 4,000,000,000"
abbrev pub last_clock : ℕ
last_clock = 4000000000

-- "It is well formed if the set is valid; there are at most 64 messages; the clock is at most 4,000,000,000; each message ..;
-- each task has at most one message with a used unit; unused places are zero." Request 6: each stream's wait keeps its rule.
-- Request 8: "the two numbers together at most 64"; what the set does not use is ours; no party has more pending than its number.
abbrev pub state_tests : State → List Bool
state_tests s =
    valid s.set
    ∷ leb s.count most_pending
    ∷ leb s.clock last_clock
    ∷ messages_ok s.set s.clock (pending s)
    ∷ list_all (started_once s.set (pending s)) (below 16)
    ∷ list_all message_unused (drop s.count s.messages)
    ∷ list_all (wait_ok s.set s.waits) (below 16)
    ∷ leb (together s.places) most_pending
    ∷ list_all owner_unused (drop s.set.count s.owners)
    ∷ leb (held_by s Ours) (places_of s.places Ours)
    ∷ leb (held_by s Theirs) (places_of s.places Theirs)
    ∷ []

unfoldable pub well_formed : State → Bool
well_formed s = every (state_tests s)

-- What the types say of the arrays of a state: those of its set, 64 places for messages, 16 waits and 16 owners. Every state that a program holds is so.
pub record Housed (s : State) : Type 0 where
  pub set : Placed s.set
  pub places : length s.messages ≡ most_pending
  pub waits : length s.waits ≡ 16
  pub owners : length s.owners ≡ 16
