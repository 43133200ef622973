-- Document 01, "State and steps": start, post, choose and unit; document 02, request 4: passing on; request 6: the door; request 8: the parties.
-- Assumes nothing.
use Rattle.std.specs.Prelude.{ℕ, ◌+◌, ◌-◌, Bool, cond, not, ◌&&◌, ◌||◌, List, [], ◌∷◌, length, get_or, set, replicate, ltb, leb, eqb, ℤ, pos, ◌-ℤ◌}
use Rattle.laws.specs.Lists.{find, remove, first_by}
use Rattle.rules.specs.declared.Set.{Set}
use Rattle.rules.specs.declared.Message.{Message}
use Rattle.rules.specs.declared.State.{State}
use Rattle.rules.specs.declared.Door.{Door}
use Rattle.rules.specs.declared.Party.{Party}
use Rattle.rules.specs.declared.Places.{Places}
use Rattle.rules.specs.declared.Refusal.{Refusal}
use Rattle.rules.specs.declared.Refusal.TheVariants.{NoStream, Full, LastClock, NothingPending, OutOfRule, IllFormed, Early, Crowded}
use Rattle.rules.specs.declared.StartResult.{StartResult}
use Rattle.std.specs.Prelude.{Result, Ok, Err, Option, Some, None}
use Rattle.rules.specs.declared.Running.{Running}
use Rattle.rules.specs.declared.Outcome.{Outcome}
use Rattle.rules.specs.declared.PostResult.{PostResult}
use Rattle.rules.specs.declared.UnitResult.{UnitResult}
use Rattle.rules.specs.declared.Outcome.TheVariants.{Ran, Passed, Finished, Cut, Idle}
use Rattle.rules.specs.declared.Call.{Call}
use Rattle.rules.specs.declared.Call.TheVariants.{Posts, Units}
use Rattle.rules.specs.declared.CallAnswer.TheVariants.{ToPost, ToUnit}
use Rattle.rules.specs.declared.CallResult.{CallResult}
use Rattle.rules.specs.Streams.{empty_set, stream_at, valid}
use Rattle.rules.specs.Doors.{door_of, shut, wait_after, waits_later}
use Rattle.rules.specs.Parties.{places_of, together, owners_for, all_ours, all_places}
use Rattle.rules.specs.States.{no_message, pending, with_clock, with_messages, with_waits, with_used, stages_in, task_of, cost_of, started_of, party_of, held_by, most_pending, last_clock, well_formed}

-- ---- Start

-- "the clock at 0 and no message"; nobody has to wait; request 8: whose the streams are, and the parties' places
abbrev pub fresh_for : Set → List Party → Places → State
fresh_for x owners places =
    record { set = x; clock = 0; count = 0; messages = replicate most_pending no_message; waits = replicate 16 0; owners = owners; places = places }

-- all streams ours, with all places
abbrev pub fresh : Set → State
fresh x = fresh_for x all_ours all_places

-- "with the start of the empty set"
abbrev pub start_refused : Refusal → StartResult
start_refused why = record { answer = Err why; state = fresh empty_set }

-- "A valid set gives the clock at 0 and no message. An invalid one gives 7 and the start of the empty set."; request 8: "16 at start, after 7, when the
-- places exceed 64, with the start of the empty set"; the owners of streams that the set does not have are taken as ours
unfoldable pub start_for : Set → List Party → Places → StartResult
start_for x owners places =
    cond (valid x)
    (cond (leb (together places) most_pending)
    (record { answer = Ok tt; state = fresh_for x (owners_for x.count owners) places })
    (start_refused Crowded))
    (start_refused OutOfRule)

-- the start with all streams ours and 64 places
unfoldable pub start_of : Set → StartResult
start_of x = cond (valid x) (record { answer = Ok tt; state = fresh x }) (start_refused OutOfRule)

-- ---- Post

-- "A message with deadline clock + d and 0 used", in its first stage
abbrev pub new_message : State → ℕ → Message
new_message s k = record { stream = k; deadline = s.clock + (stream_at s.set k).deadline; used = 0; stage = 0 }

-- the door of a stream in a state, and its wait
abbrev pub door_at : State → ℕ → Door
door_at s k = door_of (stream_at s.set k)

abbrev pub wait_at : State → ℕ → ℕ
wait_at s k = get_or s.waits k 0

-- an accepted post to the stream k counts at its door
abbrev pub counted_at : State → ℕ → List ℕ
counted_at s k = set s.waits k (wait_after (door_at s k) (wait_at s k))

-- ".. goes last"
abbrev pub added : State → Message → State
added s m = with_waits (with_messages s (s.count + 1) (set s.messages s.count m)) (counted_at s m.stream)

-- "state unchanged"
abbrev pub post_refused : State → Refusal → PostResult
post_refused s why = record { answer = Err why; state = s }

-- request 8: "A post is refused as full exactly when its own party has its number pending."
abbrev pub has_place : State → ℕ → Bool
has_place s k = ltb (held_by s (party_of s k)) (places_of s.places (party_of s k))

-- "Order: post 12, 1, 2."; request 6: "15, after 1 and before 2; state unchanged"
unfoldable pub post_of : State → ℕ → PostResult
post_of s k =
    cond (well_formed s)
    (cond (ltb k s.set.count)
    (cond (shut (door_at s k) (wait_at s k))
    (post_refused s Early)
    (cond (has_place s k)
    (record { answer = Ok (record { stream = k; deadline = (new_message s k).deadline }); state = added s (new_message s k) })
    (post_refused s Full)))
    (post_refused s NoStream))
    (post_refused s IllFormed)

-- ---- Choose

-- one deadline comes before another
abbrev pub sooner : ℕ → ℕ → Bool
sooner d e = ltb d e

-- after every deadline that 32 bits hold: the deadline of a task with nothing pending
abbrev pub never : ℕ
never = 4294967296

-- "A task's deadline is the least deadline of its pending messages, the started one included."
unfoldable pub task_deadline : Set → List Message → ℕ → ℕ
task_deadline x [] t = never
task_deadline x (m ∷ l) t =
    cond (eqb (task_of x m) t && sooner m.deadline (task_deadline x l t)) m.deadline (task_deadline x l t)

-- one task goes before another: its deadline is sooner, or on a tie its turn is less
unfoldable pub ahead : (deadline turn : ℕ → ℕ) → ℕ → ℕ → Bool
ahead deadline turn t u = sooner (deadline t) (deadline u) || (not (sooner (deadline u) (deadline t)) && ltb (turn t) (turn u))

-- "The task with the least deadline runs; on a tie, the lowest task number": of tasks with the same turn the first
unfoldable pub running_task : (turn : ℕ → ℕ) → Set → List Message → ℕ
running_task turn x l = first_by (ahead (task_deadline x l) turn) 16

-- the turn of a task in a state: document 01 puts none before another
abbrev pub no_turn : ℕ → ℕ
no_turn t = 0

abbrev pub turn_of : State → ℕ → ℕ
turn_of s = no_turn

-- "its started message"
unfoldable pub started_at : Set → List Message → ℕ → ℕ
started_at x l t = find (started_of x t) l

-- "its message of least deadline, on a tie the earliest posted"
abbrev pub due_of : Set → ℕ → ℕ → Message → Bool
due_of x t d m = not (sooner d m.deadline) && eqb (task_of x m) t

unfoldable pub urgent_at : Set → List Message → ℕ → ℕ
urgent_at x l t = find (due_of x t (task_deadline x l t)) l

-- "It serves its started message if there is one, else its message of least deadline, on a tie the earliest posted."
unfoldable pub served_at : Set → List Message → ℕ → ℕ
served_at x l t = cond (ltb (started_at x l t) (length l)) (started_at x l t) (urgent_at x l t)

-- the place of the chosen message among the pending ones, and the message
unfoldable pub place_of : State → ℕ
place_of s = served_at s.set (pending s) (running_task (turn_of s) s.set (pending s))

abbrev pub message_at : State → ℕ → Message
message_at s i = get_or s.messages i no_message

-- "With nothing pending the answer is none." "12: state not well formed: .. no task named"
unfoldable pub choose_of : State → Result (Option Running) Refusal
choose_of s =
    cond (well_formed s)
    (cond (eqb s.count 0) (Ok None) (Ok (Some (record { task = task_of s.set (message_at s (place_of s)); stream = (message_at s (place_of s)).stream }))))
    (Err IllFormed)

-- ---- Unit(done)

-- "only the clock moves", and with it what is left to wait at the doors
abbrev pub ticked : State → State
ticked s = with_waits (with_clock s (s.clock + 1)) (waits_later s.set.streams s.waits)

-- "The chosen message gains one used unit and the clock one."
abbrev pub gained : Message → Message
gained m = with_used m (m.used + 1)

-- the message at i stays in its place, as m
abbrev pub stayed : State → ℕ → Message → State
stayed s i m = with_messages (ticked s) s.count (set s.messages i m)

-- "A message that finishes a stage stays in its place and order with its first deadline and waits, with no unit used, for the next stage's task"
abbrev pub passed_on : Message → Message
passed_on m = record { stream = m.stream; deadline = m.deadline; used = 0; stage = m.stage + 1 }

-- "it leaves .. The order of the rest is kept."
abbrev pub departed : State → ℕ → State
departed s i = with_messages (ticked s) (s.count - 1) (remove no_message i s.messages)

-- "the laxity, its deadline minus the clock after the unit, which is negative when late"
unfoldable pub laxity_of : ℕ → ℕ → ℤ
laxity_of deadline clock = pos deadline -ℤ pos clock

abbrev pub answered : State → Result Outcome Refusal → UnitResult
answered s a = record { answer = a; state = s }

-- is a message in its last stage?
abbrev pub at_last : Set → Message → Bool
at_last x m = eqb (m.stage + 1) (stages_in x m)

-- "If done, it leaves as finished. If not done and its used units now equal c, it leaves as cut. Otherwise it stays as ran.
-- .. Each answer names task and stream; a leaving one also has the laxity"; "Finished means the last; an earlier one answers passed.
-- A cut at any stage leaves at once."
unfoldable pub served_of : State → ℕ → Bool → UnitResult
served_of s i done =
    let m = message_at s i in
    let task = task_of s.set m in
    let laxity = laxity_of m.deadline (s.clock + 1) in
    cond done
    (cond (at_last s.set m)
    (answered (departed s i) (Ok (Finished task m.stream laxity)))
    (answered (stayed s i (passed_on m)) (Ok (Passed task m.stream))))
    (cond (eqb (m.used + 1) (cost_of s.set m))
    (answered (departed s i) (Ok (Cut task m.stream laxity)))
    (answered (stayed s i (gained m)) (Ok (Ran task m.stream))))

-- "With nothing pending and not done, the answer is idle and only the clock moves."
unfoldable pub empty_unit : State → Bool → UnitResult
empty_unit s done = cond done (answered s (Err NothingPending)) (answered (ticked s) (Ok Idle))

-- "Unit 12, 3, 4."
unfoldable pub unit_of : State → Bool → UnitResult
unit_of s done =
    cond (well_formed s)
    (cond (ltb s.clock last_clock)
    (cond (eqb s.count 0) (empty_unit s done) (served_of s (place_of s) done))
    (answered s (Err LastClock)))
    (answered s (Err IllFormed))

-- ---- a call

-- a post or a unit, and what it answers
unfoldable pub call_of : State → Call → CallResult
call_of s (Posts k) = record { answer = ToPost (post_of s k).answer; state = (post_of s k).state }
call_of s (Units done) = record { answer = ToUnit (unit_of s done).answer; state = (unit_of s done).state }
