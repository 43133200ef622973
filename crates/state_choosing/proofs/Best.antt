-- The best of the pending messages, by deadline, then by task, then by place: its task is the one that runs, and it is that task's message
-- of least deadline.
-- Assumes nothing.
use Prim.Native.Nat.{ℕ, ◌≤◌, ◌<◌}
use mathlib.Core.Bool.{true, false≢true}
use mathlib.Core.Logic.{⊎_elim}
use mathlib.Core.List.{List}
use mathlib.Core.Path.{◌≡◌, refl, sym, ◌∙◌}
use native.Mathlib.Omega.{arith}
use lib.ListN.{length}
use Rattle.laws.specs.Lists.{find, first_by}
use Rattle.laws.proofs.Parts.{find_passes, find_before, find_within, first_by_lt, first_by_none, first_by_first}
use Rattle.laws.proofs.Gates.{le_or_lt}
use Rattle.rules.specs.declared.Set.{Set}
use Rattle.rules.specs.declared.Message.{Message}
use Rattle.rules.specs.States.{no_message, task_of}
use Rattle.rules.specs.Steps.{never, task_deadline, ahead, no_turn, running_task, due_of, urgent_at}
use Rattle.rules.proofs.Ahead.{ahead_yes, ahead_no, ahead_order}
use Rattle.state_choosing.specs.Words.{at, DeadlineOf}
use Rattle.state_choosing.proofs.Choice.{run_own, run_before, run_tie, is_due, due_is}

-- the deadline and the task of the message at a place
abbrev pub due_at : List Message → ℕ → ℕ
due_at l j = (at l j).deadline

abbrev pub task_at : Set → List Message → ℕ → ℕ
task_at x l j = task_of x (at l j)

-- the place of the best of the first n
abbrev pub best_of : Set → List Message → ℕ → ℕ
best_of x l n = first_by (ahead (due_at l) (task_at x l)) n

module _ (x : Set) (l : List Message) (some : 0 < length l) (tasks : (j : ℕ) → j < length l → task_of x (at l j) < 16) (dues : (j : ℕ) → j < length l → (at l j).deadline < never) where
  abbrev best : ℕ
  best = best_of x l (length l)

  inside : best < length l
  inside = first_by_lt (ahead (due_at l) (task_at x l)) (length l) some

  -- none is due sooner
  none_sooner : (j : ℕ) → j < length l → due_at l best ≤ due_at l j
  none_sooner j h = ⊎_elim
      (λ (z : due_at l best < due_at l j). omega arith)
      (λ (z : (due_at l j ≡ due_at l best) × (task_at x l best ≤ task_at x l j)). omega arith)
      (ahead_no (due_at l) (task_at x l) j best (first_by_none (ahead (due_at l) (task_at x l)) (ahead_order (due_at l) (task_at x l)) (length l) j h))

  -- none of the same deadline has a lower task
  none_lower : (j : ℕ) → j < length l → due_at l j ≡ due_at l best → task_at x l best ≤ task_at x l j
  none_lower j h e = ⊎_elim
      (λ (z : due_at l best < due_at l j). absurd (omega arith))
      (λ (z : (due_at l j ≡ due_at l best) × (task_at x l best ≤ task_at x l j)). z.1)
      (ahead_no (due_at l) (task_at x l) j best (first_by_none (ahead (due_at l) (task_at x l)) (ahead_order (due_at l) (task_at x l)) (length l) j h))

  -- one that was posted before it is due later, or is of a higher task
  none_earlier : (j : ℕ) → j < best → due_at l j ≡ due_at l best → task_at x l best < task_at x l j
  none_earlier j h e = ⊎_elim
      (λ (z : due_at l best < due_at l j). absurd (omega arith))
      (λ (z : (due_at l best ≡ due_at l j) × (task_at x l best < task_at x l j)). z.1)
      (ahead_yes (due_at l) (task_at x l) best j (first_by_first (ahead (due_at l) (task_at x l)) (ahead_order (due_at l) (task_at x l)) (length l) j h))

  named : DeadlineOf x l (task_at x l best) (due_at l best)
  named = record { who = best; inside = inside; his = refl; that = refl; least = λ j h e. none_sooner j h }

  abbrev run : ℕ
  run = running_task no_turn x l

  own : DeadlineOf x l run (task_deadline x l run)
  own = run_own no_turn x l some tasks dues

  same_due : due_at l best ≡ task_deadline x l run
  same_due = omega (arith, run_before no_turn x l some tasks dues (task_at x l best) (due_at l best) named, none_sooner own.who own.inside, own.that)

  -- its task runs
  pub best_runs : task_at x l best ≡ run
  best_runs = omega (arith, run_tie no_turn x l some tasks dues (task_at x l best) (due_at l best) named same_due refl, none_lower own.who own.inside (own.that ∙ sym same_due), own.his)

  -- and it is its task's message of least deadline, the earliest posted
  pub best_urgent : best ≡ urgent_at x l run
  unfolding urgent_at
  best_urgent =
      let v = task_deadline x l run in
      let p = due_of x run v in
      let here : p (at l best) ≡ true = due_is no_turn x l some tasks dues (at l best) run v (omega (arith, same_due)) best_runs in
      let k = find p l in
      let o : k < length l = find_within p no_message l best inside here in
      let d = is_due no_turn x l some tasks dues (at l k) run v (find_passes p no_message l o) in
      ⊎_elim
      (λ (z : k ≤ best). ⊎_elim
      (λ (y : best ≤ k). omega arith)
      (λ (y : k < best). absurd (omega (arith, none_earlier k y (omega (arith, d.0, same_due, none_sooner k o)), d.1, best_runs)))
      (le_or_lt best k))
      (λ (z : best < k). absurd (false≢true (sym (find_before p no_message l best z) ∙ here)))
      (le_or_lt k best)
