-- What the functions of the trace program make of a sheet, and of a trace that comes in pieces: by their contracts, for pages of any size
-- that has room.
-- Assumes nothing.
use Rattle.std.specs.Prelude.{ℕ, ◌*◌, ◌≤◌, ◌≡◌, false, List, [], ◌∷◌, ◌++◌, length, take}
use Rattle.rules.specs.Sheet.{read_of}
use Rattle.line.specs.declared.Line.{Line}
use Rattle.line.specs.Line.{line_room}
use Rattle.trace_steps.specs.declared.Tracing.{Tracing}
use Rattle.trace_steps.specs.declared.Turn.{Turn}
use Rattle.trace_steps.specs.Turns.{Beginning, Ending, PieceTraced}

-- the bytes of a line
abbrev pub bytes_of : Line → List ℕ
bytes_of l = take l.len l.bytes

-- a trace whose pieces these are
abbrev pub joined_of : List (List ℕ) → List ℕ
joined_of [] = []
joined_of (p ∷ ps) = p ++ joined_of ps

-- what is written of the pieces, one after the other: of each the front of its page, and at the end of the input the last line. Of a trace
-- that has stopped nothing more need be read.
pub data Written : Tracing → List (List ℕ) → List ℕ → Type 0 where
  halts : {t : Tracing} {ps : List (List ℕ)} → t.live ≡ false → Written t ps []
  ends : {t : Tracing} (l : Line) → Ending t l → Written t [] (bytes_of l)
  goes_on : {t next : Tracing} {p out page : List ℕ} {len : ℕ} {ps : List (List ℕ)} {w : List ℕ} → length p * line_room ≤ length out
      → PieceTraced t p out next len page → Written next ps w → Written t (p ∷ ps) (take len page ++ w)

-- the whole: the first line, and what is written of the pieces from there
pub record MadeOf (sheet : List ℕ) (pieces : List (List ℕ)) (out : List ℕ) : Type 0 where
  pub first : Turn
  pub begins : Beginning (read_of sheet) first
  pub rest : List ℕ
  pub written : Written first.tracing pieces rest
  pub whole : out ≡ bytes_of first.line ++ rest
