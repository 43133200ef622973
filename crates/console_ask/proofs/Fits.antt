-- Every answer fits into the room that is asked for.
-- Assumes nothing.
use Prim.Native.Nat.{ℕ, ◌≤◌}
use native.Mathlib.Omega.{arith}
use mathlib.Core.Path.{ap}
use mathlib.Core.List.{List}
use lib.ListN.{length}
use Rattle.rules.specs.declared.Set.{Set}
use Rattle.rules.specs.declared.State.{State}
use Rattle.rules.specs.Streams.{valid, limit_of, jitter_of}
use Rattle.rules.specs.States.{well_formed}
use Rattle.rules.specs.Steps.{choose_of}
use Rattle.rules.specs.Load.{demand_of}
use Rattle.rules.specs.Numbers.{Says, choose_says, count_says, jitter_says, verdict_says}
use Rattle.line.specs.Line.{line_room}
use Rattle.answer_words.specs.Words.{says, line_of}
use Rattle.answer_words.proofs.Lengths.{says_short, line_short}
use Rattle.console_words.specs.Words.{valid_words, formed_words}
use Rattle.console_names.specs.Rows.{nth}
use Rattle.console_names.specs.declared.Question.{Question}
use Rattle.console_names.specs.declared.Question.TheVariants.{Write, Valid, Limit, Demand, Jitter, Verdict, Choose, State as Shown, Formed}
use Rattle.console_ask.specs.Questions.{Prints, answer_room}
use Rattle.console_ask.proofs.Answers.{valid_words_lem, formed_words_lem}
use Rattle.console_ask.proofs.States.{Sized, state_short}
use Rattle.console_ask.proofs.Sheets.{write_short}

said : (v : Says) → length (line_of (says v)) ≤ line_room
said v = line_short (says v) (says_short v)

-- a state of the machine has 64 places for messages, 16 waits and 16 owners
pub answer_fits : (q : Question) (ns : List ℕ) (x : Set) (s : State) (w : List ℕ) → Sized s → Prints q ns x s w
    → length w ≤ answer_room
answer_fits Write ns x s w all p = omega (arith, ap length p, write_short x (nth ns 0))
answer_fits Valid ns x s w all p = omega (arith, ap length p, line_short (valid_words (valid x)) (valid_words_lem (valid x)))
answer_fits Limit ns x s w all p = omega (arith, ap length p, said (count_says (limit_of x (nth ns 0) (nth ns 1))))
answer_fits Demand ns x s w all p = omega (arith, ap length p, said (count_says (demand_of x (nth ns 0))))
answer_fits Jitter ns x s w all p = omega (arith, ap length p, said (jitter_says (jitter_of (nth ns 0) (nth ns 1))))
answer_fits Verdict ns x s w all p = omega (arith, ap length p.line, said (verdict_says p.given))
answer_fits Choose ns x s w all p = omega (arith, ap length p, said (choose_says (choose_of s)))
answer_fits Shown ns x s w all p = omega (arith, ap length p, state_short s all)
answer_fits Formed ns x s w all p = omega (arith, ap length p, line_short (formed_words (well_formed s)) (formed_words_lem (well_formed s)))
