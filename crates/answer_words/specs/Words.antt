-- What the programs print for an answer: document 01, "The trace program", and the console's page.
-- Assumes nothing.
use Rattle.std.specs.Prelude.{ℕ, List, ◌++◌}
use Rattle.rules.specs.declared.Tuple.{Tuple}
use Rattle.rules.specs.declared.Tuple.TheVariants.{Once, Every}
use Rattle.std.specs.Prelude.{Result, Ok, Err, Option, Some, None}
use Rattle.rules.specs.declared.Refusal.{Refusal}
use Rattle.rules.specs.declared.CallAnswer.{CallAnswer}
use Rattle.rules.specs.Numbers.{Says, call_says, number, refused, refused_with_0, started, posted, none, runs, ran, passed, done, cut, idle, gives, tuples, accept, late, overload, read, fed, wrote, ended, recorded, opened, tested, tested_accept, tested_late}
use Rattle.rules.specs.Runs.{Step}
use Rattle.ascii.specs.Decimal.{letters, decimal_of, signed_of, spaced, newline}

-- a number behind a space
abbrev pub nr : ℕ → List ℕ
nr n = spaced (decimal_of n)

-- "prints the tuples as `once 0 every Z A`"
abbrev pub tuple_words : Tuple → List ℕ
tuple_words (Once a) = letters "once" ++ nr a
tuple_words (Every z a) = letters "every" ++ nr z ++ nr a

-- "(accept, late I demand, overload, refused N)", "(posted stream deadline; ran task stream; done or cut task stream laxity;
-- idle; refused N)", and the console's words; document 02, request 4: "The trace program prints passed with task and stream."
unfoldable pub says : Says → List ℕ
says (refused n) = letters "refused" ++ nr n
says (refused_with_0 n) = letters "refused" ++ nr n ++ nr 0
says started = letters "started"
says (posted k d) = letters "posted" ++ nr k ++ nr d
says none = letters "none"
says (runs t k) = letters "task" ++ nr t ++ (letters " stream" ++ nr k)
says (ran t k) = letters "ran" ++ nr t ++ nr k
says (passed t k) = letters "passed" ++ nr t ++ nr k
says (done t k z) = letters "done" ++ nr t ++ nr k ++ spaced (signed_of z)
says (cut t k z) = letters "cut" ++ nr t ++ nr k ++ spaced (signed_of z)
says idle = letters "idle"
says (gives n) = decimal_of n
says (tuples a b) = tuple_words a ++ spaced (tuple_words b)
says accept = letters "accept"
says (late i w) = letters "late" ++ nr i ++ nr w
says overload = letters "overload"
says read = letters "read"
says fed = letters "fed"
says (wrote n) = letters "wrote" ++ nr n
says ended = letters "end"
says (recorded n) = letters "recorded" ++ nr n
says opened = letters "open"
says (tested k i) = letters "tested" ++ nr k ++ (letters " next" ++ nr i)
says (tested_accept k) = letters "tested" ++ nr k ++ letters " accept"
says (tested_late k i w) = letters "tested" ++ nr k ++ (letters " late" ++ nr i ++ nr w)

-- "Prints `set N` with the number of streams .. or `refused N`"
abbrev pub read_words : Result (Unit {0}) Refusal → ℕ → List ℕ
read_words (Ok tt) n = letters "set" ++ nr n
read_words (Err why) n = says (refused (number why))

abbrev pub line_of : List ℕ → List ℕ
line_of w = w ++ newline

-- "Each step prints the clock before it and its answer"
unfoldable pub step_line : ℕ → Says → List ℕ
step_line clock s = decimal_of clock ++ spaced (says s) ++ newline

abbrev pub line_of_step : Step → List ℕ
line_of_step s = step_line s.before s.says

-- document 02, request 1: "the lines of the trace program .. then `end` or `refused 13` or `refused 14`", with no clock
abbrev pub replay_line : ℕ → Result (Option CallAnswer) Refusal → List ℕ
replay_line clock (Ok (Some a)) = step_line clock (call_says a)
replay_line clock (Ok None) = line_of (says ended)
replay_line clock (Err why) = line_of (says (refused (number why)))
