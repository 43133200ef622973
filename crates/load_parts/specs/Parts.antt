-- What the demand of a set at a length is made of, and that its parts are the whole.
-- Assumes nothing.
use Rattle.std.specs.Prelude.{ℕ, zero, suc, ◌-◌, ◌*◌, cond, true, ◌&&◌, List, [], ◌∷◌, ◌++◌, ◌≡◌, length, leb, ltb, eqb}
use Rattle.laws.specs.Lists.{sum}
use Rattle.rules.specs.declared.Stream.{Stream}
use Rattle.rules.specs.declared.Set.{Set}
use Rattle.std.specs.Prelude.{Option, Some, None, Result, Ok, Err}
use Rattle.rules.specs.declared.Refusal.{Refusal}
use Rattle.rules.specs.Streams.{streams_of, stream_at, limit, valid}
use Rattle.rules.specs.Load.{cost_in, demand}
use Rattle.load_check.specs.Blocked.{blocking_of}
use Rattle.load_parts.specs.declared.Part.{Part}
use Rattle.load_parts.specs.declared.Part.TheVariants.{Due, Blocks}

-- "streams with d not above I": stream k with its cost c, and E(I - d)
unfoldable pub due_part : ℕ → ℕ → Stream → Option Part
due_part i k s = cond (leb s.deadline i) (Some (Due k (cost_in s) (limit s (i - s.deadline)))) None

unfoldable pub stream_part : Set → ℕ → ℕ → Option Part
stream_part x i k = cond (valid x && ltb k x.count) (due_part i k (stream_at x k)) None

-- "plus the blocking of each task": task t, where its blocking is not 0
abbrev pub block_part : ℕ → Result ℕ Refusal → Option Part
block_part t (Ok b) = cond (eqb b 0) None (Some (Blocks t b))
block_part t (Err why) = None

unfoldable pub task_part : Set → ℕ → ℕ → Option Part
task_part x i t = block_part t (blocking_of x i t)

-- what f gives of the numbers below n, in their order
unfoldable pub first_of : (ℕ → Option Part) → ℕ → List (Option Part)
first_of f zero = []
first_of f (suc n) = first_of f n ++ (f n ∷ [])

-- the streams in their order, then the tasks in theirs
unfoldable pub parts_of : Set → ℕ → List (Option Part)
parts_of x i = first_of (stream_part x i) 16 ++ first_of (task_part x i) 16

-- what a part adds: "c times E(I - d)", or the blocking
abbrev pub amount : Option Part → ℕ
amount None = 0
amount (Some (Due k c e)) = c * e
amount (Some (Blocks t b)) = b

-- the parts together are the demand
abbrev pub PartsAddUp : Type 0
PartsAddUp = (x : Set) (i : ℕ) → length x.streams ≡ 16 → valid x ≡ true → sum amount (parts_of x i) ≡ demand (streams_of x) i
