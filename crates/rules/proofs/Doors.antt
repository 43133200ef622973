-- Document 02's request 6 by example: posts that come early at a door, computed from the definitions, and the rules of the waits.
-- Assumes nothing.
use Prim.Native.Nat.{ℕ}
use mathlib.Core.Bool.{true, false}
use mathlib.Core.List.{List, [], ◌∷◌, ◌++◌}
use mathlib.Core.Path.{◌≡◌, refl}
use lib.IntN.{pos}
use lib.ListN.{take, replicate}
use Rattle.rules.specs.declared.Tuple.{Tuple}
use Rattle.rules.specs.declared.Tuple.TheVariants.{Once, Every}
use Rattle.rules.specs.declared.TuplePlace.{TuplePlace}
use Rattle.rules.specs.declared.Stream.{Stream}
use Rattle.rules.specs.declared.Set.{Set}
use Rattle.rules.specs.declared.State.{State}
use Rattle.rules.specs.declared.Door.TheVariants.{Unguarded, Single, Spaced}
use Rattle.rules.specs.declared.Call.{Call}
use Rattle.rules.specs.declared.Call.TheVariants.{Posts, Units}
use Rattle.rules.specs.Streams.{no_stream}
use Rattle.rules.specs.Doors.{door_of}
use Rattle.rules.specs.States.{with_clock, with_messages, with_waits, well_formed}
use Rattle.rules.specs.Steps.{fresh, new_message, post_of, unit_of}
use Rattle.rules.specs.Sheet.{stream_of, set_of}
use Rattle.rules.specs.Runs.{run_of, answers_of}
use Rattle.rules.specs.Numbers.{Says, posted, done, cut, idle, refused, post_says}
use Rattle.rules.proofs.Examples.{stage, stream, each, computed}

-- ---- which streams have a door

-- a stream of one stage: a task, c, d and its tuples
abbrev place : Tuple → TuplePlace
place t = record { tuple = t }

abbrev tupled : ℕ → ℕ → ℕ → Tuple → Tuple → Stream
tupled task c d t u = stream_of (stage task c ∷ []) d (place t ∷ place u ∷ [])

abbrev thrice : Stream
thrice = stream_of (stage 0 1 ∷ []) 4 (place (Once 0) ∷ place (Every 6 2) ∷ place (Every 6 2) ∷ [])

pub doors :
    (door_of (stream 0 1 4 (Once 0)) ∷ door_of (stream 0 1 4 (each 6)) ∷ door_of (tupled 0 1 4 (Once 0) (Every 6 2)) ∷ door_of (tupled 0 1 4 (Once 0) (Once 2))
    ∷ door_of (tupled 0 1 4 (each 6) (each 6)) ∷ door_of (tupled 0 1 4 (each 6) (Once 2)) ∷ door_of thrice ∷ door_of no_stream ∷ [])
    ≡ (Single ∷ Spaced 6 6 ∷ Spaced 6 2 ∷ Unguarded ∷ Unguarded ∷ Unguarded ∷ Unguarded ∷ Unguarded ∷ [])
unfolding computed
doors = refl

-- ---- runs

-- the waits of the first two streams
abbrev waits : State → List ℕ
waits s = take 2 s.waits

-- W12, every 10: the next post is taken ten units after the last one taken, and a refused post adds nothing
abbrev task_three : Set
task_three = set_of 1 (stream 3 2 5 (each 10) ∷ [])

abbrev ten_apart : List Call
ten_apart = Posts 0 ∷ Posts 0 ∷ Units true ∷ replicate 8 (Units false) ++ (Posts 0 ∷ Units false ∷ Posts 0 ∷ Posts 0 ∷ [])

pub ten_apart_lem :
    answers_of task_three ten_apart
    ≡ (posted 0 5 ∷ refused 15 ∷ done 3 0 (pos 4) ∷ replicate 8 idle ++ (refused 15 ∷ idle ∷ posted 0 15 ∷ refused 15 ∷ []))
unfolding computed
ten_apart_lem = refl

-- once at 0, every 6 from 2, as a jittered cycle is written: two posts two units apart, the third eight after the first
abbrev jittery : Set
jittery = set_of 1 (tupled 0 1 4 (Once 0) (Every 6 2) ∷ [])

abbrev chatter : List Call
chatter =
    Posts 0 ∷ Posts 0 ∷ Units false ∷ Units false ∷ Posts 0 ∷ Posts 0 ∷ Units false ∷ Units false ∷ Units false ∷ Units false ∷ Units false ∷ Posts 0
    ∷ Units false ∷ Posts 0 ∷ []

pub chatters :
    answers_of jittery chatter
    ≡ (posted 0 4 ∷ refused 15 ∷ cut 0 0 (pos 3) ∷ idle ∷ posted 0 6 ∷ refused 15 ∷ cut 0 0 (pos 3) ∷ idle ∷ idle ∷ idle ∷ idle ∷ refused 15 ∷ idle ∷ posted 0 12 ∷ [])
unfolding computed
chatters = refl

pub chattered : (waits (run_of jittery (take 6 chatter)).state ∷ waits (run_of jittery chatter).state ∷ []) ≡ ((10 ∷ 0 ∷ []) ∷ (10 ∷ 0 ∷ []) ∷ [])
unfolding computed
chattered = refl

-- once at 0, every 3 from 5, the offset above the cycle: only the last post counts. Once at 0: one post for ever, whatever the clock
abbrev far_and_once : Set
far_and_once = set_of 1 (tupled 0 1 4 (Once 0) (Every 3 5) ∷ stream 1 1 4 (Once 0) ∷ [])

abbrev far : List Call
far =
    Posts 0 ∷ Posts 1 ∷ Units true ∷ Units true ∷ Posts 1 ∷ Units false ∷ Units false ∷ Posts 0 ∷ Units false ∷ Posts 0 ∷ Posts 1 ∷ []

pub far_apart :
    answers_of far_and_once far
    ≡ (posted 0 4 ∷ posted 1 4 ∷ done 0 0 (pos 3) ∷ done 1 1 (pos 2) ∷ refused 15 ∷ idle ∷ idle ∷ refused 15 ∷ idle ∷ posted 0 9 ∷ refused 15 ∷ [])
unfolding computed
far_apart = refl

pub far_waits : waits (run_of far_and_once far).state ≡ (5 ∷ 1 ∷ [])
unfolding computed
far_waits = refl

-- ---- rules

-- once at 0, every 4 from 1, whose wait is at most (4 - 1) + 4 = 7, and 15 is given above 3; two cycles, which have no door
abbrev seven : Set
seven = set_of 1 (tupled 0 9 50 (Once 0) (Every 4 1) ∷ tupled 1 9 50 (each 4) (each 4) ∷ [])

-- its start with the waits of the first three places
abbrev waiting : ℕ → ℕ → ℕ → State
waiting a b c = with_waits (fresh seven) (a ∷ b ∷ c ∷ replicate 13 0)

abbrev says_to : State → ℕ → Says
says_to s k = post_says (post_of s k).answer

-- "Refusals: 15, after 1 and before 2"; 12 first
pub ordered :
    (says_to (waiting 3 0 0) 0 ∷ says_to (waiting 4 0 0) 0 ∷ says_to (waiting 7 0 0) 2 ∷ says_to (waiting 8 0 0) 0 ∷ says_to (waiting 0 0 1) 2 ∷ says_to (waiting 7 0 0) 1 ∷ [])
    ≡ (posted 0 50 ∷ refused 15 ∷ refused 1 ∷ refused 12 ∷ refused 12 ∷ posted 1 50 ∷ [])
unfolding computed
ordered = refl

pub ruled : (well_formed (waiting 7 0 0) ∷ well_formed (waiting 8 0 0) ∷ well_formed (waiting 0 1 0) ∷ well_formed (waiting 0 0 1) ∷ []) ≡ (true ∷ false ∷ false ∷ false ∷ [])
unfolding computed
ruled = refl

-- the same with 64 messages of the second stream pending: 15 before 2, and what is refused by 2 adds nothing
abbrev full : ℕ → State
full a = with_messages (waiting a 0 0) 64 (replicate 64 (new_message (fresh seven) 1))

pub full_waits :
    (says_to (full 4) 0 ∷ says_to (full 3) 0 ∷ []) ≡ (refused 15 ∷ refused 2 ∷ [])
unfolding computed
full_waits = refl

pub uncounted : (waits (post_of (full 3) 0).state ∷ waits (post_of (waiting 3 0 0) 0).state ∷ []) ≡ ((3 ∷ 0 ∷ []) ∷ (7 ∷ 0 ∷ []) ∷ [])
unfolding computed
uncounted = refl

-- a unit that moves the clock takes 1 from a wait, an idle one and one that serves; a refused one nothing: 4, and 3 at the last clock
pub falls :
    (waits (unit_of (waiting 5 0 0) false).state ∷ waits (unit_of (full 3) false).state ∷ waits (unit_of (waiting 5 0 0) true).state
    ∷ waits (unit_of (with_clock (waiting 5 0 0) 4000000000) false).state ∷ waits (unit_of (waiting 0 0 0) false).state ∷ [])
    ≡ ((4 ∷ 0 ∷ []) ∷ (2 ∷ 0 ∷ []) ∷ (5 ∷ 0 ∷ []) ∷ (5 ∷ 0 ∷ []) ∷ (0 ∷ 0 ∷ []) ∷ [])
unfolding computed
falls = refl
