-- Document 02's request 4 by example: sets and sheets of version 2 as a table under the statement of the yard's, and runs in which messages pass on.
-- Assumes nothing.
use Prim.Native.Nat.{ℕ}
use mathlib.Core.Bool.{true, false}
use mathlib.Core.List.{List, [], ◌∷◌, ◌++◌}
use mathlib.Core.Path.{◌≡◌, refl}
use native.Mathlib.Omega.{arith}
use lib.IntN.{pos}
use lib.ListN.{replicate}
use Rattle.laws.specs.Lists.{All}
use Rattle.rules.specs.declared.Tuple.TheVariants.{Once}
use Rattle.rules.specs.declared.Stage.{Stage}
use Rattle.rules.specs.declared.Stream.{Stream}
use Rattle.rules.specs.declared.Set.{Set}
use Rattle.rules.specs.declared.Call.{Call}
use Rattle.rules.specs.declared.Call.TheVariants.{Posts, Units}
use Rattle.rules.specs.Streams.{no_streams, valid}
use Rattle.rules.specs.States.{pending, with_clock, with_waits}
use Rattle.rules.specs.Steps.{fresh}
use Rattle.rules.specs.Load.{greatest_deadline, stream_offset, greatest_offset, last_length}
use Rattle.rules.specs.Sheet.{stream_of, set_of}
use Rattle.rules.specs.Runs.{Accepted, Departure, accepts, leaves, Run, finished, cut as left_cut, departures, run_of, LeftInTime, answers_of}
use Rattle.rules.specs.Numbers.{accept, late, overload, posted, ran, passed, done, cut}
use Rattle.rules.proofs.Examples.{stage, staged, stream, each, computed}
use Rattle.rules.proofs.Cycles.{h_of}
use Rattle.rules.proofs.Judge.{judge_from, judge_by, judge}
use Rattle.rules.proofs.Yard.{Row, demands, judged, sheet, no_sheet, True, worked, ◌and◌}

-- ---- the sets

-- a stream of two stages with one cycle from 0
abbrev two : Stage → Stage → ℕ → ℕ → Stream
two a b d z = staged (a ∷ b ∷ []) d (each z)

-- from task 1 on to task 4, where another stream has its stage
abbrev pub boom : Set
boom = set_of 2 (two (stage 1 2) (stage 4 3) 12 50 ∷ stream 4 2 30 (each 50) ∷ [])

-- both stages of the urgent stream on task 0, where the other has its first
abbrev same_task : Set
same_task = set_of 2 (two (stage 0 2) (stage 0 3) 10 50 ∷ two (stage 0 5) (stage 7 9) 40 50 ∷ [])

-- an urgent stream on task 1, and one whose two stages are on the tasks a and b
abbrev beside : ℕ → ℕ → Set
beside a b = set_of 2 (stream 1 1 4 (each 20) ∷ two (stage a 4) (stage b 5) 20 20 ∷ [])

-- the task of a second stage is urgent, too: 1 of the other stream's 2 units is held there
abbrev second : Set
second = set_of 2 (two (stage 2 1) (stage 3 1) 5 50 ∷ stream 3 2 30 (each 50) ∷ [])

-- 3 and 3 of every 5 units
abbrev heavy : Set
heavy = set_of 2 (two (stage 0 3) (stage 1 3) 5 5 ∷ [])

-- the same streams in both versions
abbrev either : ℕ → Set
either version = set_of version (stream 3 2 5 (each 10) ∷ [])

-- ---- the table

-- "`20 00` now reads as an empty set"; a sheet with two stages, and one of the same streams as W12's, byte for byte; demand with two stages of one stream on one
-- task, and blocking by a stage of a stream that is not urgent, with that stage's cost alone; accepted with its stages on two tasks, late with both on the urgent one
abbrev pub stagings : List Row
stagings =
    sheet (no_streams 2) (0x20 ∷ 0x00 ∷ []) ∷ judged (no_streams 2) accept
    ∷ no_sheet (0x00 ∷ 0x00 ∷ []) 6 ∷ no_sheet (0x30 ∷ 0x00 ∷ []) 6 ∷ no_sheet (0x20 ∷ []) 5 ∷ no_sheet (0x20 ∷ 0x01 ∷ []) 10
    ∷ sheet boom
    (0x21 ∷ 0x00 ∷ 0x01 ∷ 0x88 ∷ 0x80 ∷ 0x01 ∷ 0x20 ∷ 0x00 ∷ 0x18 ∷ 0x00 ∷ 0x06 ∷ 0x40 ∷ 0x00 ∷ 0x00 ∷ 0x00 ∷ 0x78 ∷ 0x40 ∷ 0x00 ∷ 0x20 ∷ 0x00 ∷ 0x0c
    ∷ 0x80 ∷ 0x00 ∷ 0x00 ∷ [])
    ∷ judged boom accept
    ∷ sheet (either 2) (0x20 ∷ 0x80 ∷ 0x00 ∷ 0xa1 ∷ 0x80 ∷ 0x01 ∷ 0x00 ∷ 0x00 ∷ 0x14 ∷ 0x00 ∷ 0x00 ∷ [])
    ∷ sheet (either 1) (0x10 ∷ 0x98 ∷ 0x00 ∷ 0x10 ∷ 0x00 ∷ 0x0a ∷ 0x00 ∷ 0x00 ∷ 0x50 ∷ 0x00 ∷ 0x00 ∷ [])
    ∷ demands same_task 9 0 ∷ demands same_task 10 9 ∷ demands same_task 39 9 ∷ demands same_task 40 19
    ∷ demands second 5 3
    ∷ judged (beside 2 3) accept ∷ judged (beside 1 1) (late 4 5)
    ∷ judged heavy overload
    ∷ []

pub stagings_true : All True stagings
unfolding computed judge judge_by judge_from h_of last_length greatest_deadline greatest_offset stream_offset
stagings_true =
    record { written = refl; back = refl } and worked (no_streams 2) accept refl
    and refl and refl and refl and refl
    and record { written = refl; back = refl } and worked boom accept refl
    and record { written = refl; back = refl } and record { written = refl; back = refl }
    and refl and refl and refl and refl
    and refl
    and worked (beside 2 3) accept refl and worked (beside 1 1) (late 4 5) refl
    and worked heavy overload refl
    and tt

-- "a version 1 set has one stage everywhere"; there is no version 0 or 3
abbrev two_stages : ℕ → Set
two_stages version = set_of version (two (stage 0 1) (stage 1 1) 9 9 ∷ [])

pub versions :
    (valid (two_stages 1) ∷ valid (two_stages 2) ∷ valid (either 0) ∷ valid (either 1) ∷ valid (either 2) ∷ valid (either 3) ∷ [])
    ≡ (false ∷ true ∷ false ∷ true ∷ true ∷ false ∷ [])
unfolding computed
versions = refl

-- ---- runs

-- the message passes on from task 1 to task 4, with its deadline, and waits there for the one that task 4 has started
abbrev passing : List Call
passing = Posts 1 ∷ Units false ∷ Posts 0 ∷ Units false ∷ Units true ∷ []

pub passes :
    answers_of boom passing ≡ (posted 1 30 ∷ ran 4 1 ∷ posted 0 13 ∷ ran 1 0 ∷ passed 1 0 ∷ [])
unfolding computed
passes = refl

-- it stays in its place and order, with no unit used
pub passed_on_lem :
    pending (run_of boom passing).state
    ≡ (record { stream = 1; deadline = 30; used = 1; stage = 0 } ∷ record { stream = 0; deadline = 13; used = 0; stage = 1 } ∷ [])
unfolding computed
passed_on_lem = refl

-- before a message that was posted behind it
pub in_order :
    pending (run_of boom (Posts 0 ∷ Posts 1 ∷ Units true ∷ [])).state
    ≡ (record { stream = 0; deadline = 12; used = 0; stage = 1 } ∷ record { stream = 1; deadline = 30; used = 0; stage = 0 } ∷ [])
unfolding computed
in_order = refl

-- the first stream of it with three posts at once, so that none comes early
abbrev thrice : Set
thrice = set_of 2 (stream_of (stage 1 2 ∷ stage 4 3 ∷ []) 12 (replicate 3 (record { tuple = Once 0 })) ∷ [])

-- "Finished means the last"; "A cut at any stage leaves at once": a departure tells its stage
abbrev ends : List Call
ends = Posts 0 ∷ Units true ∷ Units false ∷ Units true ∷ Posts 0 ∷ Units false ∷ Units false ∷ Posts 0 ∷ Units true ∷ Units false ∷ Units false ∷ Units false ∷ []

pub ended :
    answers_of thrice ends
    ≡ (posted 0 12 ∷ passed 1 0 ∷ ran 4 0 ∷ done 4 0 (pos 9) ∷ posted 0 15 ∷ ran 1 0 ∷ cut 1 0 (pos 10) ∷ posted 0 17 ∷ passed 1 0 ∷ ran 4 0 ∷ ran 4 0 ∷ cut 4 0 (pos 8) ∷ [])
unfolding computed
ended = refl

abbrev whole : Departure
whole = record { number = 0; stream = 0; how = finished; used = 2; laxity = pos 9; at = 3; stage = 1 }

abbrev cut_first : Departure
cut_first = record { number = 1; stream = 0; how = left_cut; used = 2; laxity = pos 10; at = 5; stage = 0 }

abbrev cut_second : Departure
cut_second = record { number = 2; stream = 0; how = left_cut; used = 3; laxity = pos 8; at = 9; stage = 1 }

pub departed : departures (run_of thrice ends) ≡ (whole ∷ cut_first ∷ cut_second ∷ [])
unfolding computed
departed = refl

-- each in time: "a message has left its last stage by its deadline", or is cut at the cost of the stage it was in
abbrev post : ℕ → ℕ → Accepted
post number at = record { number = number; stream = 0; at = at }

pub whole_in_time : LeftInTime thrice (post 0 0) whole
whole_in_time = record { same = refl; stream = refl; cost = refl; time = omega arith }

pub cut_in_time : LeftInTime thrice (post 1 3) cut_first × LeftInTime thrice (post 2 5) cut_second
cut_in_time = (record { same = refl; stream = refl; cost = refl; time = omega arith }, record { same = refl; stream = refl; cost = refl; time = omega arith })

-- ---- a run whose posts keep the limits, up to the last deadline

-- the message of stream 1 is cut at its one stage, that of stream 0 passes on behind it and is finished; then idle units
abbrev pub boom_calls : List Call
boom_calls = passing ++ (Units false ∷ Units false ∷ Units false ∷ Units true ∷ replicate 23 (Units false))

abbrev pub boom_run : Run
boom_run = record {
  state = with_waits (with_clock (fresh boom) 30) (21 ∷ 20 ∷ replicate 14 0);
  time = 30;
  names = [];
  events =
      accepts (record { number = 0; stream = 1; at = 0 })
      ∷ accepts (record { number = 1; stream = 0; at = 1 })
      ∷ leaves (record { number = 0; stream = 1; how = left_cut; used = 2; laxity = pos 26; at = 4; stage = 0 })
      ∷ leaves (record { number = 1; stream = 0; how = finished; used = 3; laxity = pos 6; at = 7; stage = 1 })
      ∷ [];
}

pub boom_run_lem : run_of boom boom_calls ≡ boom_run
unfolding computed
boom_run_lem = refl
