-- Which of two messages goes first, by their deadlines and their tasks.
-- Assumes nothing.
use Rattle.std.specs.Prelude.{ℕ, Bool, not, ◌&&◌, ◌||◌, ltb}
use Rattle.rules.specs.Steps.{sooner}

-- a message of deadline d and task t goes before one of e and u: its deadline is sooner, or on a tie its task is lower
unfoldable pub goes_first : (d t e u : ℕ) → Bool
goes_first d t e u = sooner d e || (not (sooner e d) && ltb t u)
