-- Document 02, request 8: what a party sees of a run, and that the answers to its posts follow from it. Beside it: of any kind of streams, the accepted messages are those that
-- left and those that are pending. The time is the units that moved the clock since the start.
-- Assumes nothing.
use Rattle.std.specs.Prelude.{ℕ, ◌+◌, Bool, cond, List, [], ◌∷◌, ◌++◌, ◌≡◌}
use Rattle.laws.specs.Lists.{count}
use Rattle.rules.specs.declared.Message.{Message}
use Rattle.rules.specs.declared.Party.{Party}
use Rattle.rules.specs.declared.Call.{Call}
use Rattle.rules.specs.declared.Call.TheVariants.{Posts, Units}
use Rattle.std.specs.Prelude.{Result, Ok, Err}
use Rattle.rules.specs.declared.Outcome.{Outcome}
use Rattle.rules.specs.declared.Refusal.{Refusal}
use Rattle.rules.specs.declared.Outcome.TheVariants.{Ran, Passed, Finished, Cut, Idle}
use Rattle.rules.specs.Parties.{owns, owners_for}
use Rattle.rules.specs.States.{pending}
use Rattle.rules.specs.Steps.{post_of, unit_of}
use Rattle.rules.specs.Numbers.{Says, post_says}
use Rattle.rules.specs.Runs.{Accepted, Departure, Run, Start, Boxed, Starts, accepted, departures, step_of, begin_for, run_for}

-- a kind of streams, by their numbers
abbrev pub Kind : Type 0
Kind = ℕ → Bool

-- ---- accepted, left, pending

abbrev pub post_of_kind : Kind → Accepted → Bool
post_of_kind mine p = mine p.stream

abbrev pub departure_of_kind : Kind → Departure → Bool
departure_of_kind mine d = mine d.stream

abbrev pub message_of_kind : Kind → Message → Bool
message_of_kind mine m = mine m.stream

-- the accepted ones are those that left, finished or cut, and those that are pending
unfoldable pub Balanced : Type 0
Balanced =
    (z : Start) → Boxed z → (calls : List Call) (mine : Kind)
    → count (post_of_kind mine) (accepted (run_for z calls)) ≡ count (departure_of_kind mine) (departures (run_for z calls)) + count (message_of_kind mine) (pending (run_for z calls).state)

-- ---- what is seen

-- a post, accepted or not: its stream and the time at it; or that a message leaves, and nothing else of it
pub data Sight : Type 0 where
  asks : (stream at : ℕ) → Sight
  loses : Sight

abbrev pub loss_of : Kind → Result Outcome Refusal → List Sight
loss_of mine (Ok (Ran t k)) = []
loss_of mine (Ok (Passed t k)) = []
loss_of mine (Ok (Finished t k l)) = cond (mine k) (loses ∷ []) []
loss_of mine (Ok (Cut t k l)) = cond (mine k) (loses ∷ []) []
loss_of mine (Ok Idle) = []
loss_of mine (Err why) = []

unfoldable pub sight_of : Kind → Run → Call → List Sight
sight_of mine r (Posts k) = cond (mine k) (asks k r.time ∷ []) []
sight_of mine r (Units done) = loss_of mine (unit_of r.state done).answer

-- in the order of the calls
unfoldable pub view_from : Kind → Run → List Call → List Sight
view_from mine r [] = []
view_from mine r (c ∷ cs) = sight_of mine r c ++ view_from mine (step_of r c) cs

unfoldable pub view_of : Kind → Start → List Call → List Sight
view_of mine z calls = view_from mine (begin_for z) calls

-- ---- what is answered to its posts, in order

unfoldable pub reply_of : Kind → Run → Call → List Says
reply_of mine r (Posts k) = cond (mine k) (post_says (post_of r.state k).answer ∷ []) []
reply_of mine r (Units done) = []

unfoldable pub replies_from : Kind → Run → List Call → List Says
replies_from mine r [] = []
replies_from mine r (c ∷ cs) = reply_of mine r c ++ replies_from mine (step_of r c) cs

unfoldable pub replies_of : Kind → Start → List Call → List Says
replies_of mine z calls = replies_from mine (begin_for z) calls

-- ---- the parties

-- the streams of a party, by the owners that a start gives its set; a number that no stream has counts as ours
abbrev pub owned_by : Start → Party → Kind
owned_by z p k = owns (owners_for z.set.count z.owners) p k

-- "Two runs from one start that agree on a party's posts, their clocks and where among them its messages leave give its posts the same answers."
unfoldable pub Isolated : Type 0
Isolated =
    (z : Start) → Starts z → (p : Party) (calls others : List Call)
    → view_of (owned_by z p) z calls ≡ view_of (owned_by z p) z others → replies_of (owned_by z p) z calls ≡ replies_of (owned_by z p) z others
