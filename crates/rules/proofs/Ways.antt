-- Worked steps that fix what set B's trace leaves open: ties, the cut, the laxity of a late message, both ends of a window, whose task blocks, and
-- the first four of document 01's "Ways a cab has gone wrong", each computed from the definitions. The fifth is a row of the yard's second table.
-- Assumes nothing.
use native.Mathlib.Omega.{arith}
use mathlib.Core.Bool.{true, false}
use mathlib.Core.List.{List, [], ◌∷◌}
use mathlib.Core.Path.{◌≡◌, refl}
use lib.IntN.{pos, negsuc}
use Rattle.laws.specs.Lists.{count}
use Rattle.rules.specs.declared.Tuple.TheVariants.{Once}
use Rattle.rules.specs.declared.TuplePlace.{TuplePlace}
use Rattle.rules.specs.declared.Set.{Set}
use Rattle.rules.specs.Streams.{stream_at, streams_of, limit}
use Rattle.rules.specs.Load.{demand}
use Rattle.rules.specs.Sheet.{stream_of, set_of}
use Rattle.rules.specs.declared.Call.TheVariants.{Posts, Units}
use Rattle.rules.specs.Runs.{Accepted, Departure, cut as left_cut, departures, run_of, LeftInTime, in_window, answers_of, missed_in}
use Rattle.rules.specs.Numbers.{posted, ran, done, cut, idle, refused}
use Rattle.rules.proofs.Examples.{set_b, stage, stream, each, computed}

-- "Messages of a task served in order of arrival: the March fault." "Taking a message before its first unit."
-- The urgent message comes last, and is served first.
pub march : answers_of set_b (Posts 1 ∷ Posts 0 ∷ Units false ∷ []) ≡ (posted 1 20 ∷ posted 0 5 ∷ ran 0 0 ∷ [])
unfolding computed
march = refl

-- "A started message put back when a more urgent one comes. It runs on, under the shorter deadline": before task 1, whose deadline is 8.
pub runs_on :
    answers_of set_b (Posts 1 ∷ Units false ∷ Posts 0 ∷ Posts 2 ∷ Units true ∷ []) ≡ (posted 1 20 ∷ ran 0 1 ∷ posted 0 6 ∷ posted 2 9 ∷ done 0 1 (pos 18) ∷ [])
unfolding computed
runs_on = refl

-- two tasks, two streams of task 5, all of one deadline
abbrev ties : Set
ties = set_of 1 (stream 7 3 9 (Once 0) ∷ stream 5 2 9 (Once 0) ∷ stream 5 3 9 (Once 0) ∷ [])

-- "on a tie, the lowest task number"; "on a tie the earliest posted"
pub tied : answers_of ties (Posts 0 ∷ Posts 2 ∷ Posts 1 ∷ Units true ∷ Units true ∷ Units true ∷ [])
    ≡ (posted 0 9 ∷ posted 2 9 ∷ posted 1 9 ∷ done 5 2 (pos 8) ∷ done 5 1 (pos 7) ∷ done 7 0 (pos 6) ∷ [])
unfolding computed
tied = refl

-- c 2, d 2, twice at once: cut at its cost; done on the unit that reaches c is finished; a late one has a negative laxity
abbrev at_once : TuplePlace
at_once = record { tuple = Once 0 }

abbrev short : Set
short = set_of 1 (stream_of (stage 0 2 ∷ []) 2 (at_once ∷ at_once ∷ []) ∷ [])

pub cut_at_cost : answers_of short (Posts 0 ∷ Posts 0 ∷ Units false ∷ Units false ∷ Units false ∷ Units true ∷ Units false ∷ Units true ∷ [])
    ≡ (posted 0 2 ∷ posted 0 2 ∷ ran 0 0 ∷ cut 0 0 (pos 0) ∷ ran 0 0 ∷ done 0 0 (negsuc 1) ∷ idle ∷ refused 4 ∷ [])
unfolding computed
cut_at_cost = refl

-- its second message is still pending when the clock is at its deadline, 2: missed at that moment, and not before
pub missed_late : (missed_in short (Posts 0 ∷ Posts 0 ∷ Units false ∷ []) ∷ missed_in short (Posts 0 ∷ Posts 0 ∷ Units false ∷ Units false ∷ []) ∷ []) ≡ (false ∷ true ∷ [])
unfolding computed
missed_late = refl

-- "cut at its cost", in time: the first message of c 2, d 2
abbrev short_cut : Departure
short_cut = record { number = 0; stream = 0; how = left_cut; used = 2; laxity = pos 0; at = 2; stage = 0 }

pub cut_departs : departures (run_of short (Posts 0 ∷ Units false ∷ Units false ∷ [])) ≡ (short_cut ∷ [])
unfolding computed
cut_departs = refl

pub cut_in_time : LeftInTime short (record { number = 0; stream = 0; at = 0 }) short_cut
cut_in_time = record { same = refl; stream = refl; cost = refl; time = omega arith }

-- "the accepted posts at clocks x to x + I, both ends counted"
abbrev twenty : List Accepted
twenty = record { number = 0; stream = 0; at = 0 } ∷ record { number = 1; stream = 0; at = 20 } ∷ []

pub both_ends : (count (in_window 0 0 20) twenty ∷ limit (stream_at set_b 0) 20 ∷ count (in_window 0 0 19) twenty ∷ limit (stream_at set_b 0) 19 ∷ [])
    ≡ (2 ∷ 2 ∷ 1 ∷ 1 ∷ [])
unfolding computed
both_ends = refl

-- "Counting only the largest blocking over all tasks. Every task can hold one started message."
abbrev held_twice : Set
held_twice = set_of 1 (stream 0 1 9 (each 40) ∷ stream 0 5 30 (each 40) ∷ stream 1 1 9 (each 40) ∷ stream 1 4 30 (each 40) ∷ [])

-- 1 for each of the two urgent streams, 4 and 3 held. "0 unless it has a stream with d not above I": at 5 task 1 has none
abbrev apart : Set
apart = set_of 1 (stream 0 2 5 (each 10) ∷ stream 1 6 20 (each 20) ∷ [])

pub blocked : (demand (streams_of held_twice) 9 ∷ demand (streams_of apart) 5 ∷ []) ≡ (9 ∷ 2 ∷ [])
unfolding computed
blocked = refl
