-- Document 01, "Streams and sets": what the test of a valid set says of its streams and their tuples, as propositions.
-- Assumes nothing.
use Rattle.std.specs.Prelude.{ℕ, ◌≤◌, true, List, [], ◌∷◌, ◌≡◌, drop}
use Rattle.std.specs.List.{list_all}
use Rattle.laws.specs.Lists.{All}
use Rattle.rules.specs.declared.Tuple.{Tuple}
use Rattle.rules.specs.declared.Tuple.TheVariants.{Once, Every}
use Rattle.rules.specs.declared.TuplePlace.{TuplePlace}
use Rattle.rules.specs.declared.Stage.{Stage}
use Rattle.rules.specs.declared.Stream.{Stream}
use Rattle.rules.specs.declared.Set.{Set}
use Rattle.rules.specs.Streams.{stages_of, tuples_of, streams_of, offset_at, tuples_ok, stage_unused, tuple_unused, stream_unused, version_ok}

-- from a to b
pub record Between (a x b : ℕ) : Type 0 where
  pub low : a ≤ x
  pub high : x ≤ b

abbrev pub ValidCycle : Tuple → Type 0
ValidCycle (Once a) = Unit {0}
ValidCycle (Every z a) = Between 1 z 1000000

pub record ValidPlace (p : TuplePlace) : Type 0 where
  pub offset : offset_at p ≤ 100000
  pub cycle : ValidCycle p.tuple

-- the first offset is 0
abbrev pub FirstZero : List TuplePlace → Type 0
FirstZero [] = Unit {0}
FirstZero (p ∷ ps) = offset_at p ≡ 0

pub record ValidStage (g : Stage) : Type 0 where
  pub task : g.task ≤ 15
  pub cost : Between 1 g.cost 65535

-- `order`, `unused` and `unstaged` are the tests themselves: offsets never fall, unused tuples are once at 0, unused stages are zero
pub record ValidStream (s : Stream) : Type 0 where
  pub depth : Between 1 s.depth 4
  pub stages : All ValidStage (stages_of s)
  pub unstaged : list_all stage_unused (drop s.depth s.stages) ≡ true
  pub deadline : Between 1 s.deadline 200000
  pub count : Between 1 s.count 4
  pub tuples : All ValidPlace (tuples_of s)
  pub first : FirstZero (tuples_of s)
  pub order : tuples_ok (tuples_of s) ≡ true
  pub unused : list_all tuple_unused (drop s.count s.tuples) ≡ true

pub record ValidSet (x : Set) : Type 0 where
  pub count : x.count ≤ 16
  pub streams : All ValidStream (streams_of x)
  pub unused : list_all stream_unused (drop x.count x.streams) ≡ true
  pub version : version_ok x ≡ true
