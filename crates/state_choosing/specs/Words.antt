-- The choice in document 01's words, as a relation between the pending messages and the place of the one that is served.
-- Assumes nothing.
use Rattle.std.specs.Prelude.{ℕ, ◌≤◌, ◌<◌, List, ◌≡◌, length, get_or}
use Rattle.rules.specs.declared.Set.{Set}
use Rattle.rules.specs.declared.Message.{Message}
use Rattle.rules.specs.States.{no_message, task_of}

-- the pending message at a place
abbrev pub at : List Message → ℕ → Message
at l k = get_or l k no_message

-- "A task's deadline is the least deadline of its pending messages, the started one included": v is that of the task t
pub record DeadlineOf (x : Set) (l : List Message) (t v : ℕ) : Type 0 where
  pub who : ℕ
  pub inside : who < length l
  pub his : task_of x (at l who) ≡ t
  pub that : (at l who).deadline ≡ v
  pub least : (j : ℕ) → j < length l → task_of x (at l j) ≡ t → v ≤ (at l j).deadline

-- the message at k is served, where the tasks have these turns
pub record Served (turn : ℕ → ℕ) (x : Set) (l : List Message) (k : ℕ) : Type 0 where
  pub inside : k < length l
  pub v : ℕ
  pub own : DeadlineOf x l (task_of x (at l k)) v
  -- "The task with the least deadline runs"
  pub first : (t w : ℕ) → DeadlineOf x l t w → v ≤ w
  -- on a tie the least turn; "on a tie, the lowest task number"
  pub turned : (t w : ℕ) → DeadlineOf x l t w → w ≡ v → turn (task_of x (at l k)) ≤ turn t
  pub tie : (t w : ℕ) → DeadlineOf x l t w → w ≡ v → turn (task_of x (at l k)) ≡ turn t → task_of x (at l k) ≤ t
  -- "It serves its started message if there is one"
  pub started : (j : ℕ) → j < length l → task_of x (at l j) ≡ task_of x (at l k) → 0 < (at l j).used → 0 < (at l k).used
  -- "else its message of least deadline"
  pub due : (at l k).used ≡ 0 → (at l k).deadline ≡ v
  -- "on a tie the earliest posted"
  pub earliest : (at l k).used ≡ 0 → (j : ℕ) → j < k → task_of x (at l j) ≡ task_of x (at l k) → v < (at l j).deadline
