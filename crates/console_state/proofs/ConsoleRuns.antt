-- The console's posts and units behind a start are a run.
-- Assumes nothing.
use mathlib.Core.Bool.{true, false}
use mathlib.Core.List.{List, [], ◌∷◌, ◌++◌}
use mathlib.Core.Path.{◌≡◌, refl, ap₂, sym, ◌∙◌}
use Prim.Native.Nat.{ℕ}
use Rattle.laws.specs.Lists.{flat}
use Rattle.rules.specs.declared.Call.{Call}
use Rattle.rules.specs.declared.Call.TheVariants.{Posts, Units}
use Rattle.rules.specs.declared.Set.{Set}
use Rattle.rules.specs.declared.State.{State}
use Rattle.rules.specs.Steps.{call_of}
use Rattle.rules.specs.Runs.{Run, step_to, step_of, begin_for, run_from, run_for, steps_from}
use Rattle.rules.proofs.Events.{step_state}
use Rattle.answer_words.specs.Words.{line_of_step}
use Rattle.console_state.specs.declared.Terms.{Terms}
use Rattle.console_state.specs.StateCommands.{state_after, terms_after, state_line}
use Rattle.console_state.specs.ConsoleRuns.{command_of, numbers_of, calls_leave, calls_print, start_with, ConsoleIsRun}

-- a command of a call leaves what the call leaves, and what a start uses as it was, and prints its step
leaves : (x : Set) (t : Terms) (s : State) (c : Call) → state_after (command_of c) (numbers_of c) x t s ≡ (call_of s c).state
unfolding call_of
leaves x t s (Posts k) = refl
leaves x t s (Units true) = refl
leaves x t s (Units false) = refl

keeps : (t : Terms) (c : Call) → terms_after (command_of c) (numbers_of c) t ≡ t
keeps t (Posts k) = refl
keeps t (Units true) = refl
keeps t (Units false) = refl

prints : (x : Set) (t : Terms) (s : State) (c : Call) → state_line (command_of c) (numbers_of c) x t s ≡ line_of_step (step_to s c)
unfolding call_of
prints x t s (Posts k) = refl
prints x t s (Units true) = refl
prints x t s (Units false) = refl

next : (x : Set) (t : Terms) (r : Run) (c : Call) → state_after (command_of c) (numbers_of c) x t r.state ≡ (step_of r c).state
next x t r c = leaves x t r.state c ∙ sym (step_state r c)

leave_run : (x : Set) (t : Terms) (r : Run) (calls : List Call) → calls_leave x t r.state calls ≡ (run_from r calls).state
unfolding calls_leave run_from
leave_run x t r [] = refl
leave_run x t r (c ∷ cs) = ap₂ (λ (u : Terms) (s : State). calls_leave x u s cs) (keeps t c) (next x t r c) ∙ leave_run x t (step_of r c) cs

print_run : (x : Set) (t : Terms) (r : Run) (calls : List Call) → calls_print x t r.state calls ≡ flat line_of_step (steps_from r calls)
unfolding calls_print steps_from flat
print_run x t r [] = refl
print_run x t r (c ∷ cs) =
    ap₂ (λ (l m : List ℕ). l ++ m) (prints x t r.state c)
    (ap₂ (λ (u : Terms) (s : State). calls_print x u s cs) (keeps t c) (next x t r c) ∙ print_run x t (step_of r c) cs)

pub console_is_run : (x : Set) (t : Terms) (s : State) (calls : List Call) → ConsoleIsRun x t s calls
unfolding run_for begin_for
console_is_run x t s calls = record { state = leave_run x t (begin_for (start_with x t)) calls; lines = print_run x t (begin_for (start_with x t)) calls }
