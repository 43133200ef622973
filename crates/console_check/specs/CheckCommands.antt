-- The console's page, **CR 7**: what each command of a check in calls leaves of the console's position, and what it prints.
-- Assumes nothing.
use Rattle.std.specs.Prelude.{ℕ, List, ◌≡◌}
use Rattle.rules.specs.declared.Set.{Set}
use Rattle.rules.specs.declared.Position.{Position}
use Rattle.std.specs.Prelude.{Result, Ok, Err}
use Rattle.rules.specs.declared.Verdict.{Verdict}
use Rattle.rules.specs.declared.Progress.{Progress}
use Rattle.rules.specs.declared.Refusal.{Refusal}
use Rattle.rules.specs.declared.Progress.TheVariants.{Next, Falls}
use Rattle.rules.specs.Streams.{empty_set}
use Rattle.rules.specs.Numbers.{open_says, go_says}
use Rattle.rules.specs.Resumed.{at, OpenOf, GoOf}
use Rattle.ascii.specs.Decimal.{letters}
use Rattle.line.specs.Line.{holding}
use Rattle.answer_words.specs.Words.{says, line_of}
use Rattle.console_names.specs.Rows.{nth}
use Rattle.console_names.specs.declared.CheckCommand.{CheckCommand}
use Rattle.console_names.specs.declared.CheckCommand.TheVariants.{Open, Go, Resume}
use Rattle.console_check.specs.declared.CheckAfter.{CheckAfter}

-- "At first it is the empty set and length 1."
abbrev pub first_position : Position
first_position = at empty_set 1

-- "with `open`, the console's position is the one given"
abbrev pub open_keeps : Result Position Verdict → Position → Position
open_keeps (Ok q) p = q
open_keeps (Err v) p = p

-- It leaves the position q, and prints the bytes w. "`open`: prints `refused N`, `overload`, or `open`"
pub record Opens (x : Set) (p q : Position) (w : List ℕ) : Type 0 where
  pub given : Result Position Verdict
  pub is_opening : OpenOf x given
  pub position : q ≡ open_keeps given p
  pub line : w ≡ line_of (says (open_says given))

-- "With a next length the position moves there; else it stays where it was."
abbrev pub go_keeps : Result Progress Refusal → Position → Position
go_keeps (Ok (Next k q)) p = q
go_keeps (Ok (Falls k v)) p = p
go_keeps (Err why) p = p

-- "`go N`: prints `tested COUNT next L`, `tested COUNT accept`, `tested COUNT late I W`, or `refused 12`"
pub record Goes (p : Position) (n : ℕ) (q : Position) (w : List ℕ) : Type 0 where
  pub given : Result Progress Refusal
  pub is_call : GoOf p n given
  pub position : q ≡ go_keeps given p
  pub line : w ≡ line_of (says (go_says given))

-- "`resume L`: the position is the console's set and the length L. Prints `put`."
abbrev pub Puts : Set → ℕ → Position → List ℕ → Type 0
Puts x i q w = (q ≡ at x i) × (w ≡ line_of (letters "put"))

-- a command with its numbers, where the console holds the set x and the position p
abbrev pub Checked : CheckCommand → List ℕ → Set → Position → Position → List ℕ → Type 0
Checked Open ns x p = Opens x p
Checked Go ns x p = Goes p (nth ns 0)
Checked Resume ns x p = Puts x (nth ns 0)

-- a position and bytes that are so, the bytes on a line
pub record OnLine (So : Position → List ℕ → Type 0) (r : CheckAfter) : Type 0 where
  pub bytes : List ℕ
  pub so : So r.position bytes
  pub line : r.line ≡ holding bytes
