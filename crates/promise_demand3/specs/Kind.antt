-- The messages of documents 01 and 02 as a kind of message of the deadline argument: each pending message with its number.
-- Assumes nothing.
use Rattle.std.specs.Prelude.{ℕ, ◌+◌, ◌-◌, ◌<◌, cond, List, [], ◌∷◌, ◌≡◌, T, ltb, drop}
use Rattle.std.specs.List.{list_any}
use Rattle.laws.specs.Lists.{sum, top}
use Rattle.rules.specs.declared.Set.{Set}
use Rattle.rules.specs.declared.Message.{Message}
use Rattle.rules.specs.Streams.{streams_of, stream_at, stages_of}
use Rattle.rules.specs.States.{pending, stages_in, cost_of}
use Rattle.rules.specs.Load.{stage_cost, urgent, blocks}
use Rattle.rules.specs.Runs.{Departure, Run, AtCost}

-- a pending message and its number
pub record Named : Type 0 where
  pub number : ℕ
  pub message : Message

-- the numbers of a run put to the pending messages, place by place
unfoldable pub paired : List ℕ → List Message → List Named
paired [] ms = []
paired (n ∷ ns) [] = []
paired (n ∷ ns) (m ∷ ms) = record { number = n; message = m } ∷ paired ns ms

-- the messages that a run has pending, with their numbers
abbrev pub pending_of : Run → List Named
pending_of r = paired r.names (pending r.state)

-- what a message keeps to by itself: it names a stream of the set, is in one of its stages and has used less than that stage's cost
pub record Fine (S : Set) (m : Named) : Type 0 where
  pub stream_in : m.message.stream < S.count
  pub stage_in : m.message.stage < stages_in S m.message
  pub used_in : m.message.used < cost_of S m.message

-- the costs of a message's stages from the stage j on
unfoldable pub cost_from : Set → Named → ℕ → ℕ
cost_from S m j = sum stage_cost (drop j (stages_of (stream_at S m.message.stream)))

-- the units that a message may still take, in its stage and in those behind it; those that its task owes it once it has started
abbrev pub rest_of : Set → Named → ℕ
rest_of S m = cost_from S m m.message.stage - m.message.used

unfoldable pub hold_of : Set → Named → ℕ
hold_of S m = cond (ltb 0 m.message.used) (cost_of S m.message - m.message.used) 0

-- the largest c - 1 among the stages on a task of streams with d above I, and that it has a stream with d not above I
abbrev pub cap_of : Set → ℕ → ℕ → ℕ
cap_of S t i = top (blocks t i) (streams_of S)

abbrev pub Urged : Set → ℕ → ℕ → Type 0
Urged S t i = T (list_any (urgent t i) (streams_of S))

-- what a departure tells of the message as it stood before its last unit
pub record Tells (S : Set) (m : Named) (d : Departure) : Type 0 where
  pub stream : d.stream ≡ m.message.stream
  pub used : d.used ≡ m.message.used + 1
  pub cost : AtCost S d d.how
