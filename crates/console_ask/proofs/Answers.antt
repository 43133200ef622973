-- The answer to each question on a page.
-- Assumes nothing.
use Prim.Native.Nat.{ℕ, ◌≤◌}
use native.Mathlib.Omega.{arith}
use mathlib.Core.Path.{◌≡◌, refl}
use mathlib.Core.Bool.{Bool, true, false}
use mathlib.Core.List.{List}
use lib.ListN.{length}
use Rattle.rules.specs.declared.Set.{Set}
use Rattle.rules.specs.declared.State.{State}
use Rattle.rules.specs.Numbers.{Says}
use Rattle.line.specs.declared.Line.{Line}
use Rattle.line.specs.Line.{holding}
use Rattle.answer_words.specs.Words.{says, line_of}
use Rattle.answer_words.proofs.Lengths.{says_short, line_short}
use Rattle.console_words.specs.Words.{valid_words, formed_words}
use Rattle.page.specs.Pages.{room_for, Onto, appended, end_of}
use Rattle.page.proofs.Pieces.{onto_line}
use Rattle.console_names.specs.declared.Question.{Question}
use Rattle.console_ask.specs.Questions.{Prints, Answered, Asks, answer_room}

-- what is said of a set, and of a state, is short
pub valid_words_lem : (t : Bool) → length (valid_words t) ≤ 95
valid_words_lem true = omega arith
valid_words_lem false = omega arith

pub formed_words_lem : (t : Bool) → length (formed_words t) ≤ 95
formed_words_lem true = omega arith
formed_words_lem false = omega arith

module _ (q : Question) (ns : List ℕ) (x : Set) (s : State) (out : List ℕ) (at end : ℕ) (page : List ℕ) where
  -- the answer is of more than a line, or of one
  pub answered : (w : List ℕ) → Prints q ns x s w → Onto out at w end page → Answered q ns x s out at end page
  answered w p o = record { bytes = w; prints = p; onto = o }

  pub line_answered : (w : List ℕ) (l : Line) → length w ≤ 95 → Prints q ns x s (line_of w) → l ≡ holding (line_of w)
      → (end ≡ end_of out at l) × (page ≡ appended out at l) → Answered q ns x s out at end page
  line_answered w l h p e f = answered (line_of w) p (onto_line out (line_of w) at l end page (line_short w h) e f)

  pub says_answered : (v : Says) (l : Line) → Prints q ns x s (line_of (says v)) → l ≡ holding (line_of (says v))
      → (end ≡ end_of out at l) × (page ≡ appended out at l) → Answered q ns x s out at end page
  says_answered v l = line_answered (says v) l (says_short v)

  -- with the room, and without
  pub asks : room_for out at answer_room ≡ true → Answered q ns x s out at end page → Asks q ns x s out at end page
  asks e t = rw e t

pub unasked : (q : Question) (ns : List ℕ) (x : Set) (s : State) (out : List ℕ) (at : ℕ) → room_for out at answer_room ≡ false
    → Asks q ns x s out at at out
unasked q ns x s out at e = rw e (refl, refl)
