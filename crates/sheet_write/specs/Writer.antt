-- What writing asks of the sets that it writes: what valid ones have.
-- Assumes nothing.
use Rattle.std.specs.Prelude.{ℕ, ◌≤◌, ◌≡◌, length}
use Rattle.laws.specs.Lists.{All}
use Rattle.rules.specs.declared.Tuple.{Tuple}
use Rattle.rules.specs.declared.Tuple.TheVariants.{Once, Every}
use Rattle.rules.specs.declared.Stage.{Stage}
use Rattle.rules.specs.declared.Stream.{Stream}
use Rattle.rules.specs.declared.Set.{Set}
use Rattle.rules.specs.Streams.{stages_of, streams_of}

-- "cycle (20, 0 for once)"
abbrev pub cycle_of : Tuple → ℕ
cycle_of (Once a) = 0
cycle_of (Every z a) = z

-- "task (4)"
abbrev pub TaskFits : Stage → Type 0
TaskFits g = g.task ≤ 15

pub record Written (s : Stream) : Type 0 where
  pub tasks : All TaskFits (stages_of s)
  pub deep : 1 ≤ s.depth
  pub shallow : s.depth ≤ 4
  pub some : 1 ≤ s.count
  pub few : s.count ≤ 4

pub record WrittenSet (x : Set) : Type 0 where
  pub few : x.count ≤ 16
  pub sixteen : length x.streams ≡ 16
  pub streams : All Written (streams_of x)
