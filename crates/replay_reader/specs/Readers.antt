-- Document 02, request 1: "The office reader keeps its reading position together with the lent recording, so that the viewer can ask for one step at a time."
-- Assumes nothing.
use Rattle.std.specs.Prelude.{ℕ, List, ◌≡◌}
use Rattle.std.specs.Borrow.{Bor}
use Rattle.rules.specs.declared.State.{State}
use Rattle.std.specs.Prelude.{Result, Ok, Err, Option, Some, None}
use Rattle.rules.specs.declared.Refusal.{Refusal}
use Rattle.rules.specs.declared.CallAnswer.{CallAnswer}
use Rattle.rules.specs.declared.ReplayResult.{ReplayResult}
use Rattle.rules.specs.Recordings.{first_place, replay_step}
use Rattle.replay_reader.specs.declared.Reader.{Reader}
use Rattle.replay_reader.specs.declared.Step.{Step}

abbrev pub at_start : Bor (List ℕ) → Reader
at_start recording = record { recording = recording; place = first_place }

-- the step that the recording has at the reader's place
abbrev pub step_at : Reader → State → ReplayResult
step_at r s = replay_step s r.recording.now r.place

-- the same recording, at a result's place
abbrev pub moved_to : Reader → ReplayResult → Reader
moved_to r t = record { recording = r.recording; place = t.place }

-- a step: the answer, the state and the reader
abbrev pub next_of : Reader → State → Step
next_of r s = record { answer = (step_at r s).answer; state = (step_at r s).state; reader = moved_to r (step_at r s) }

-- an answer that no call gave: end, or a refusal of the step
abbrev pub NoCall : Result (Option CallAnswer) Refusal → Type 0
NoCall (Ok (Some a)) = ⊥
NoCall (Ok None) = Unit {0}
NoCall (Err why) = Unit {0}

-- "End, 12, 13 and 14 don't move the reader.": nor do they change the state
abbrev pub ReaderStands : Type 0
ReaderStands = (r : Reader) (s : State) → NoCall (next_of r s).answer → ((next_of r s).reader ≡ r) × ((next_of r s).state ≡ s)
