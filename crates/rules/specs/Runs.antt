-- Runs of calls from a fresh start: what is answered, what happened, who was accepted and who left; and demand 3 stated of them.
-- Assumes nothing.
use Rattle.std.specs.Prelude.{ℕ, suc, ◌+◌, ◌≤◌, ◌<◌, Bool, true, false, not, ◌&&◌, ◌||◌, ◌↔◌, ◌≡◌, length, get_or, take, drop, eqb, ℤ}
use mathlib.Core.List.{List, [], ◌∷◌, ◌++◌, map, Memᴰ}
use Rattle.std.specs.List.{list_any}
use Rattle.laws.specs.Lists.{within, count}
use Rattle.rules.specs.declared.Message.{Message}
use Rattle.rules.specs.declared.Set.{Set}
use Rattle.rules.specs.declared.State.{State}
use Rattle.rules.specs.declared.Call.{Call}
use Rattle.rules.specs.declared.Call.TheVariants.{Posts, Units}
use Rattle.std.specs.Prelude.{Result, Ok, Err}
use Rattle.rules.specs.declared.Posted.{Posted}
use Rattle.rules.specs.declared.Outcome.{Outcome}
use Rattle.rules.specs.declared.Refusal.{Refusal}
use Rattle.rules.specs.declared.Outcome.TheVariants.{Ran, Passed, Finished, Cut, Idle}
use Rattle.rules.specs.declared.Verdict.TheVariants.{Accept}
use Rattle.rules.specs.Streams.{Placed, stream_at, stage_at, limit, valid}
use Rattle.rules.specs.Doors.{has_door}
use Rattle.rules.specs.declared.Party.{Party}
use Rattle.rules.specs.declared.Places.{Places}
use Rattle.rules.specs.Parties.{together, all_ours, all_places}
use Rattle.rules.specs.States.{pending, most_pending}
use Rattle.rules.specs.Steps.{sooner, start_of, start_for, post_of, place_of, message_at, unit_of, call_of}
use Rattle.rules.specs.Load.{VerdictOf}
use Rattle.rules.specs.Numbers.{Says, refused, post_says, call_says}

-- ---- what happens

-- an accepted post: its number in the order of accepted posts, its stream and the time at it
pub record Accepted : Type 0 where
  pub number : ℕ
  pub stream : ℕ
  pub at : ℕ

pub data How : Type 0 where
  finished : How
  cut : How

-- a departure: the number of the message that left, its stream, how it left, the units it had used in its last stage, its laxity, the time after that unit,
-- and that stage
pub record Departure : Type 0 where
  pub number : ℕ
  pub stream : ℕ
  pub how : How
  pub used : ℕ
  pub laxity : ℤ
  pub at : ℕ
  pub stage : ℕ

pub data Event : Type 0 where
  accepts : Accepted → Event
  leaves : Departure → Event

-- the accepted posts, and the departures, of events in their order
unfoldable pub accepted_of : List Event → List Accepted
accepted_of [] = []
accepted_of (accepts p ∷ es) = p ∷ accepted_of es
accepted_of (leaves d ∷ es) = accepted_of es

unfoldable pub departures_of : List Event → List Departure
departures_of [] = []
departures_of (accepts p ∷ es) = departures_of es
departures_of (leaves d ∷ es) = d ∷ departures_of es

-- ---- a run

-- what there is to know of a run: the state, the time (the units that moved the clock since the start), the numbers of the pending messages in
-- their order, and what happened, in order
pub record Run : Type 0 where
  pub state : State
  pub time : ℕ
  pub names : List ℕ
  pub events : List Event

abbrev pub accepted : Run → List Accepted
accepted r = accepted_of r.events

abbrev pub departures : Run → List Departure
departures r = departures_of r.events

-- nothing happens; a unit passes
abbrev pub after_refusal : Run → State → Run
after_refusal r s = record { state = s; time = r.time; names = r.names; events = r.events }

abbrev pub after_moving : Run → State → Run
after_moving r s = record { state = s; time = r.time + 1; names = r.names; events = r.events }

-- a post is accepted and gets the next number
abbrev pub new_post : Run → ℕ → Accepted
new_post r k = record { number = length (accepted r); stream = k; at = r.time }

abbrev pub after_accepting : Run → ℕ → State → Run
after_accepting r k s =
    record { state = s; time = r.time; names = r.names ++ ((new_post r k).number ∷ []); events = r.events ++ (accepts (new_post r k) ∷ []) }

-- the chosen message leaves: its number goes from the pending ones to the departures
abbrev pub new_departure : Run → How → ℤ → Departure
new_departure r how laxity =
    let i = place_of r.state in
    record {
      number = get_or r.names i 0;
      stream = (message_at r.state i).stream;
      how = how;
      used = (message_at r.state i).used + 1;
      laxity = laxity;
      at = r.time + 1;
      stage = (message_at r.state i).stage;
    }

abbrev pub after_leaving : Run → State → How → ℤ → Run
after_leaving r s how laxity =
    let i = place_of r.state in
    record {
      state = s;
      time = r.time + 1;
      names = take i r.names ++ drop (suc i) r.names;
      events = r.events ++ (leaves (new_departure r how laxity) ∷ []);
    }

-- a post, and a unit; a message that passes on is pending as before
abbrev pub after_post : Run → ℕ → State → Result Posted Refusal → Run
after_post r k s (Ok p) = after_accepting r k s
after_post r k s (Err why) = after_refusal r s

abbrev pub after_unit : Run → State → Result Outcome Refusal → Run
after_unit r s (Ok (Ran t k)) = after_moving r s
after_unit r s (Ok (Passed t k)) = after_moving r s
after_unit r s (Ok (Finished t k l)) = after_leaving r s finished l
after_unit r s (Ok (Cut t k l)) = after_leaving r s cut l
after_unit r s (Ok Idle) = after_moving r s
after_unit r s (Err why) = after_refusal r s

unfoldable pub step_of : Run → Call → Run
step_of r (Posts k) = after_post r k (post_of r.state k).state (post_of r.state k).answer
step_of r (Units done) = after_unit r (unit_of r.state done).state (unit_of r.state done).answer

-- a run that begins at a state
abbrev pub start_at : State → Run
start_at s = record { state = s; time = 0; names = []; events = [] }

-- what a run starts from: a set, whose its streams are, and the parties' places
pub record Start : Type 0 where
  pub set : Set
  pub owners : List Party
  pub places : Places

-- all streams ours, with all places
abbrev pub alone : Set → Start
alone x = record { set = x; owners = all_ours; places = all_places }

-- its arrays have the lengths that their types say: every start that a program makes is so
pub record Boxed (z : Start) : Type 0 where
  pub set : Placed z.set
  pub owners : length z.owners ≡ 16

-- it is not refused: the set is valid, and "the two numbers together at most 64"
pub record Starts (z : Start) : Type 0 where
  pub boxed : Boxed z
  pub valid_set : valid z.set ≡ true
  pub few : together z.places ≤ most_pending

unfoldable pub begin_for : Start → Run
begin_for z = start_at (start_for z.set z.owners z.places).state

-- a list of calls made one after the other, the first first
unfoldable pub run_from : Run → List Call → Run
run_from r [] = r
run_from r (c ∷ cs) = run_from (step_of r c) cs

unfoldable pub run_for : Start → List Call → Run
run_for z calls = run_from (begin_for z) calls

-- a fresh start of a set alone
unfoldable pub begin : Set → Run
begin x = start_at (start_of x).state

unfoldable pub run_of : Set → List Call → Run
run_of x calls = run_from (begin x) calls

-- ---- what is answered

-- a call's answer, and the clock before the call
pub record Step : Type 0 where
  pub before : ℕ
  pub says : Says

abbrev pub step_to : State → Call → Step
step_to s c = record { before = s.clock; says = call_says (call_of s c).answer }

unfoldable pub steps_from : Run → List Call → List Step
steps_from r [] = []
steps_from r (c ∷ cs) = step_to r.state c ∷ steps_from (step_of r c) cs

unfoldable pub steps_for : Start → List Call → List Step
steps_for z calls = steps_from (begin_for z) calls

unfoldable pub steps_of : Set → List Call → List Step
steps_of x calls = steps_from (begin x) calls

-- the answers alone, in order
abbrev pub said_at : Step → Says
said_at s = s.says

unfoldable pub answers_for : Start → List Call → List Says
answers_for z calls = map said_at (steps_for z calls)

unfoldable pub answers_of : Set → List Call → List Says
answers_of x calls = map said_at (steps_of x calls)

-- ---- "A run keeps the limit if, for every x and I of 0 or more, the accepted posts at clocks x to x + I, both ends counted, are at most E(I)."

abbrev pub in_window : ℕ → ℕ → ℕ → Accepted → Bool
in_window k x i p = eqb p.stream k && within x p.at (x + i)

-- of one stream, and of every stream of the set
unfoldable pub KeepsLimit : Set → ℕ → List Accepted → Type 0
KeepsLimit S k ps = (x i : ℕ) → count (in_window k x i) ps ≤ limit (stream_at S k) i

unfoldable pub KeepsLimits : Set → List Accepted → Type 0
KeepsLimits S ps = (k : ℕ) → k < S.count → KeepsLimit S k ps

-- ---- the door

-- a window in which the posts of a stream are above its limit
pub record Breaks (S : Set) (k : ℕ) (ps : List Accepted) : Type 0 where
  pub from : ℕ
  pub span : ℕ
  pub over : limit (stream_at S k) span < count (in_window k from span) ps

-- "for a stream with one tuple or with once at 0 followed by one cycle, .. accepting would break that stream's limit given its accepted posts so far"
pub record ComesEarly (S : Set) (k : ℕ) (r : Run) : Type 0 where
  pub in_set : k < S.count
  pub door : has_door (stream_at S k) ≡ true
  pub breaks : Breaks S k (accepted r ++ (new_post r k ∷ []))

-- "Post is to refuse .. exactly when .. For other streams nothing changes": in every run, whatever was posted before
unfoldable pub DoorExact : Type 0
DoorExact =
    (z : Start) → Starts z → (calls : List Call) (k : ℕ)
    → (post_says (post_of (run_for z calls).state k).answer ≡ refused 15) ↔ ComesEarly z.set k (run_for z calls)

-- the accepted posts of a stream with a door keep its limit in every run
unfoldable pub DoorKeeps : Type 0
DoorKeeps =
    (z : Start) → Starts z → (calls : List Call) (k : ℕ) → k < z.set.count → has_door (stream_at z.set k) ≡ true
    → KeepsLimit z.set k (accepted (run_for z calls))

-- the event-limit condition that is left: of the streams without a door
unfoldable pub KeepsOpenLimits : Set → List Accepted → Type 0
KeepsOpenLimits S ps = (k : ℕ) → k < S.count → has_door (stream_at S k) ≡ false → KeepsLimit S k ps

-- every stream of the set has a door: there is no such condition
unfoldable pub EachHasDoor : Set → Type 0
EachHasDoor S = (k : ℕ) → k < S.count → has_door (stream_at S k) ≡ true

-- ---- demand 3

-- the deadline of an accepted message
abbrev pub due_at : Set → Accepted → ℕ
due_at S p = p.at + (stream_at S p.stream).deadline

-- "finished or cut at its cost", and "a message has left its last stage by its deadline": finished at the last stage of its stream, cut at the cost of the
-- stage that it was in
abbrev pub AtCost : Set → Departure → How → Type 0
AtCost S d finished = suc d.stage ≡ (stream_at S d.stream).depth
AtCost S d cut = d.used ≡ (stage_at (stream_at S d.stream) d.stage).cost

-- the departure is that of this message, in time
pub record LeftInTime (S : Set) (p : Accepted) (d : Departure) : Type 0 where
  pub same : d.number ≡ p.number
  pub stream : d.stream ≡ p.stream
  pub cost : AtCost S d d.how
  pub time : d.at ≤ due_at S p

-- each accepted message of a run has left when the clock reaches its deadline
unfoldable pub AllLeave : Set → Run → Type 0
AllLeave S r =
    (p : Accepted) → Memᴰ p (accepted r) → due_at S p ≤ r.time → (d : Departure) × Memᴰ d (departures r) × LeftInTime S p d

-- "If the check accepts a set, then from a fresh start, under any calls whose accepted posts keep every stream's event limit in every window,
-- each accepted message has left, finished or cut at its cost, when the clock reaches its deadline."; request 6: "demand 3 keeps its event-limit condition
-- only for those", the streams without a door; request 8: "Demand 3 holds for both parties over the joint set"
unfoldable pub Demand3 : Type 0
Demand3 =
    (z : Start) → Starts z → VerdictOf z.set Accept → (calls : List Call) → KeepsOpenLimits z.set (accepted (run_for z calls)) → AllLeave z.set (run_for z calls)

-- where every stream has a door, accept alone is enough: whatever calls are made
unfoldable pub AcceptIsEnough : Type 0
AcceptIsEnough = (z : Start) → Starts z → VerdictOf z.set Accept → EachHasDoor z.set → (calls : List Call) → AllLeave z.set (run_for z calls)

-- ---- is a message ever pending at its deadline?

-- a pending message whose deadline the clock has reached
abbrev pub overdue : ℕ → Message → Bool
overdue clock m = not (sooner clock m.deadline)

unfoldable pub missed_now : State → Bool
missed_now s = list_any (overdue s.clock) (pending s)

-- at the moments of a run: where the calls begin, and after each
unfoldable pub missed_from : Run → List Call → Bool
missed_from r [] = missed_now r.state
missed_from r (c ∷ cs) = missed_now r.state || missed_from (step_of r c) cs

unfoldable pub missed_in : Set → List Call → Bool
missed_in x calls = missed_from (begin x) calls
