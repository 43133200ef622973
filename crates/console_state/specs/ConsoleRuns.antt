-- The console's posts and units behind a start are a run.
-- Assumes nothing.
use Rattle.std.specs.Prelude.{ℕ, true, false, List, [], ◌∷◌, ◌++◌, ◌≡◌}
use Rattle.laws.specs.Lists.{flat}
use Rattle.rules.specs.declared.Call.{Call}
use Rattle.rules.specs.declared.Call.TheVariants.{Posts, Units}
use Rattle.rules.specs.declared.Set.{Set}
use Rattle.rules.specs.declared.State.{State}
use Rattle.rules.specs.Runs.{Start as From, begin_for, run_for, steps_from}
use Rattle.answer_words.specs.Words.{line_of_step}
use Rattle.console_names.specs.declared.StateCommand.{StateCommand}
use Rattle.console_names.specs.declared.StateCommand.TheVariants.{Start, Post, Unit, Done}
use Rattle.console_state.specs.declared.Terms.{Terms}
use Rattle.console_state.specs.StateCommands.{state_after, terms_after, state_line}

-- the command of a call, and its numbers
abbrev pub command_of : Call → StateCommand
command_of (Posts k) = Post
command_of (Units true) = Done
command_of (Units false) = Unit

abbrev pub numbers_of : Call → List ℕ
numbers_of (Posts k) = k ∷ []
numbers_of (Units done) = []

-- the state after the commands of these calls, and what they print
unfoldable pub calls_leave : Set → Terms → State → List Call → State
calls_leave x t s [] = s
calls_leave x t s (c ∷ cs) = calls_leave x (terms_after (command_of c) (numbers_of c) t) (state_after (command_of c) (numbers_of c) x t s) cs

unfoldable pub calls_print : Set → Terms → State → List Call → List ℕ
calls_print x t s [] = []
calls_print x t s (c ∷ cs) =
    state_line (command_of c) (numbers_of c) x t s
    ++ calls_print x (terms_after (command_of c) (numbers_of c) t) (state_after (command_of c) (numbers_of c) x t s) cs

-- the set, whose its streams are, and the parties' places
abbrev pub start_with : Set → Terms → From
start_with x t = record { set = x; owners = t.owners; places = t.places }

-- from a start, whatever the state was before it: the run's state, and the lines of its steps
pub record ConsoleIsRun (x : Set) (t : Terms) (s : State) (calls : List Call) : Type 0 where
  pub state : calls_leave x (terms_after Start [] t) (state_after Start [] x t s) calls ≡ (run_for (start_with x t) calls).state
  pub lines : calls_print x (terms_after Start [] t) (state_after Start [] x t s) calls ≡ flat line_of_step (steps_from (begin_for (start_with x t)) calls)
