-- Document 01, "Streams and sets"; document 02, request 4: stages and versions.
-- Assumes nothing.
use Rattle.std.specs.Prelude.{ℕ, ◌+◌, ◌-◌, ◌*◌, ◌/◌, Bool, true, false, cond, ◌&&◌, List, [], ◌∷◌, ◌≡◌, length, get_or, take, drop, replicate, ltb, leb, eqb}
use Rattle.std.specs.List.{list_all}
use Rattle.laws.specs.Lists.{every, within, sum, All, scan}
use Rattle.rules.specs.declared.Tuple.{Tuple}
use Rattle.rules.specs.declared.Tuple.TheVariants.{Once, Every}
use Rattle.rules.specs.declared.TuplePlace.{TuplePlace}
use Rattle.rules.specs.declared.Stage.{Stage}
use Rattle.rules.specs.declared.Stream.{Stream}
use Rattle.rules.specs.declared.Set.{Set}
use Rattle.rules.specs.declared.Refusal.TheVariants.{OutOfRule}
use Rattle.std.specs.Prelude.{Result, Ok, Err}
use Rattle.rules.specs.declared.Refusal.{Refusal}

-- "Unused places are zero, an unused tuple once at 0."
abbrev pub no_tuple : TuplePlace
no_tuple = record { tuple = Once 0 }

abbrev pub no_stage : Stage
no_stage = record { task = 0; cost = 0 }

abbrev pub no_stream : Stream
no_stream = record { depth = 0; stages = replicate 4 no_stage; deadline = 0; count = 0; tuples = replicate 4 no_tuple }

-- the set of a version with no stream; "a refusal's empty set is version 1"
abbrev pub no_streams : ℕ → Set
no_streams version = record { count = 0; streams = replicate 16 no_stream; version = version }

abbrev pub empty_set : Set
empty_set = no_streams 1

-- the stages and the tuples of a stream, the streams of a set: the places in use
abbrev pub stages_of : Stream → List Stage
stages_of s = take s.depth s.stages

abbrev pub tuples_of : Stream → List TuplePlace
tuples_of s = take s.count s.tuples

abbrev pub streams_of : Set → List Stream
streams_of x = take x.count x.streams

-- the stream of a number
abbrev pub stream_at : Set → ℕ → Stream
stream_at x k = get_or x.streams k no_stream

-- the stage of a number, from 0
abbrev pub stage_at : Stream → ℕ → Stage
stage_at s j = get_or s.stages j no_stage

abbrev pub offset : Tuple → ℕ
offset (Once a) = a
offset (Every z a) = a

-- "every cycle z (1 to 1,000,000)"
abbrev pub cycle_ok : Tuple → Bool
cycle_ok (Once a) = true
cycle_ok (Every z a) = within 1 z 1000000

-- "Offsets are 0 to 100,000; the first is 0 and they never fall": a tuple behind one with the offset `before`
unfoldable pub tuple_ok : ℕ → TuplePlace → Bool
tuple_ok before p = every (leb before (offset p.tuple) ∷ leb (offset p.tuple) 100000 ∷ cycle_ok p.tuple ∷ [])

-- a place's offset: what the next tuple is compared with
abbrev pub offset_at : TuplePlace → ℕ
offset_at p = offset p.tuple

unfoldable pub tuples_ok : List TuplePlace → Bool
tuples_ok ts = scan tuple_ok offset_at 0 ts

abbrev pub is_once_at_zero : Tuple → Bool
is_once_at_zero (Once a) = eqb a 0
is_once_at_zero (Every z a) = false

unfoldable pub tuple_unused : TuplePlace → Bool
tuple_unused p = is_once_at_zero p.tuple

-- "a task (0 to 15), a cost c (1 to 65,535)"
unfoldable pub stage_ok : Stage → Bool
stage_ok g = every (leb g.task 15 ∷ within 1 g.cost 65535 ∷ [])

unfoldable pub stage_unused : Stage → Bool
stage_unused g = every (eqb g.task 0 ∷ eqb g.cost 0 ∷ [])

-- "A stream gets 1 to 4 stages, each a task and a cost." "A stream has .. a relative deadline d (1 to 200,000) and 1 to 4 tuples."
abbrev pub stream_tests : Stream → List Bool
stream_tests s =
    within 1 s.depth 4
    ∷ list_all stage_ok (stages_of s)
    ∷ list_all stage_unused (drop s.depth s.stages)
    ∷ within 1 s.deadline 200000
    ∷ within 1 s.count 4
    ∷ eqb (offset_at (get_or s.tuples 0 no_tuple)) 0
    ∷ tuples_ok (tuples_of s)
    ∷ list_all tuple_unused (drop s.count s.tuples)
    ∷ []

unfoldable pub stream_ok : Stream → Bool
stream_ok s = every (stream_tests s)

unfoldable pub stream_unused : Stream → Bool
stream_unused s =
    every
    (eqb s.depth 0 ∷ list_all stage_unused s.stages ∷ eqb s.deadline 0 ∷ eqb s.count 0 ∷ list_all tuple_unused s.tuples ∷ [])

abbrev pub one_stage : Stream → Bool
one_stage s = eqb s.depth 1

-- "A set records its version; a version 1 set has one stage everywhere"; there are sheets of version 1 and of version 2
unfoldable pub version_ok : Set → Bool
version_ok x = cond (eqb x.version 1) (list_all one_stage (streams_of x)) (eqb x.version 2)

-- "A set has 0 to 16 streams. .. Unused places are zero. .. Any other set is invalid."
abbrev pub set_tests : Set → List Bool
set_tests x =
    leb x.count 16 ∷ list_all stream_ok (streams_of x) ∷ list_all stream_unused (drop x.count x.streams) ∷ version_ok x ∷ []

unfoldable pub valid : Set → Bool
valid x = every (set_tests x)

-- What the types say of the arrays: 16 places for streams, each with 4 for stages and 4 for tuples. Every set that a program holds is so.
pub record FourPlaces (s : Stream) : Type 0 where
  pub stages : length s.stages ≡ 4
  pub tuples : length s.tuples ≡ 4

pub record Placed (x : Set) : Type 0 where
  pub sixteen : length x.streams ≡ 16
  pub four : All FourPlaces x.streams

-- "the sum over tuples with offset a not above I of 1 (once) or floor((I - a) / z) + 1 (every)": what one tuple adds
abbrev pub events_of : Tuple → ℕ → ℕ
events_of (Once a) i = cond (leb a i) 1 0
events_of (Every z a) i = cond (leb a i) ((i - a) / z + 1) 0

unfoldable pub events : ℕ → TuplePlace → ℕ
events i p = events_of p.tuple i

-- "Event limit E(I), for I of 0 or more"
unfoldable pub limit : Stream → ℕ → ℕ
limit s i = sum (events i) (tuples_of s)

-- "Asked for an invalid set, .. event limit [is] refused with 7 and give[s] 0; the event limit of a stream not in the set likewise."
unfoldable pub limit_of : Set → ℕ → ℕ → Result ℕ Refusal
limit_of x k i = cond (valid x && ltb k x.count) (Ok (limit (stream_at x k) i)) (Err OutOfRule)

-- "It is refused with 7 exactly if z is 0 or above 1,000,000 ..; no tuples are then returned."; document 02, request 2: "7 now when 2j is above z or
-- z - 2j is above 100,000, and for z as before"
unfoldable pub jitter_ok : ℕ → ℕ → Bool
jitter_ok z j = every (within 1 z 1000000 ∷ leb (2 * j) z ∷ leb (z - 2 * j) 100000 ∷ [])

-- "A jittered cycle (z, j) is written as once at 0, and every z from ..": request 2: "comes early as well as late, by up to j each way ..
-- has the second tuple start at z - 2j"
unfoldable pub jitter_of : ℕ → ℕ → Result (Tuple × Tuple) Refusal
jitter_of z j = cond (jitter_ok z j) (Ok (Once 0, Every z (z - 2 * j))) (Err OutOfRule)
