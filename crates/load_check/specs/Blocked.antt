-- The blocking of all tasks, and the deadlines between which it stays the same.
-- Assumes nothing.
use Rattle.std.specs.Prelude.{ℕ, ◌≤◌, ◌<◌, cond, List, ◌⊎◌}
use Rattle.laws.specs.Lists.{below, sum, All}
use Rattle.rules.specs.declared.Stream.{Stream}
use Rattle.rules.specs.declared.Set.{Set}
use Rattle.rules.specs.declared.Refusal.TheVariants.{OutOfRule}
use Rattle.std.specs.Prelude.{Result, Ok, Err}
use Rattle.rules.specs.declared.Refusal.{Refusal}
use Rattle.rules.specs.Streams.{streams_of, valid}
use Rattle.rules.specs.Load.{blocking}

-- "the blocking of each task", summed
unfoldable pub blockings_of : List Stream → ℕ → ℕ
blockings_of ss i = sum (blocking ss i) (below 16)

-- "The blocking of a task" as an answer, 7 for an invalid set
unfoldable pub blocking_of : Set → ℕ → ℕ → Result ℕ Refusal
blocking_of x i t = cond (valid x) (Ok (blocking (streams_of x) i t)) (Err OutOfRule)

-- the deadline d does not lie after i and before r
abbrev pub Apart : ℕ → ℕ → ℕ → Type 0
Apart i r d = (d ≤ i) ⊎ (r ≤ d)

abbrev pub ApartFrom : ℕ → ℕ → Stream → Type 0
ApartFrom i r s = Apart i r s.deadline

pub record Nearer (i d nearest r : ℕ) : Type 0 where
  pub after : i < nearest → i < r
  pub near : r ≤ nearest
  pub apart : Apart i r d

pub record NextDeadline (ss : List Stream) (i end r : ℕ) : Type 0 where
  pub after : i < r
  pub near : r ≤ end
  pub apart : All (ApartFrom i r) ss
