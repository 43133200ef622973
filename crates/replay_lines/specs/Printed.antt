-- What the functions of the replay program make of a sheet and a recording, page by page: by their contracts, for pages of any size.
-- Assumes nothing.
use Rattle.std.specs.Prelude.{ℕ, ◌≡◌, false, List, [], ◌++◌, take}
use Rattle.rules.specs.Sheet.{read_of}
use Rattle.trace_steps.specs.Pieces.{bytes_of}
use Rattle.replay_lines.specs.declared.Replaying.{Replaying}
use Rattle.replay_lines.specs.declared.ReplayTurn.{ReplayTurn}
use Rattle.replay_lines.specs.Replaying.{Begun, PageFilled}

-- what is written, of each page its front, until the replay has stopped
pub data PagesWritten (recording : List ℕ) : Replaying → List ℕ → Type 0 where
  halts : {r : Replaying} → r.live ≡ false → PagesWritten recording r []
  goes_on : {r next : Replaying} {out page : List ℕ} {len : ℕ} {w : List ℕ} → PageFilled recording r out next len page
      → PagesWritten recording next w → PagesWritten recording r (take len page ++ w)

-- the whole: the first line, and the pages from there
pub record ReplayMade (sheet recording out : List ℕ) : Type 0 where
  pub first : ReplayTurn
  pub begins : Begun (read_of sheet) first
  pub rest : List ℕ
  pub written : PagesWritten recording first.replaying rest
  pub whole : out ≡ bytes_of first.line ++ rest
