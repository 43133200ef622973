-- What is allowed for one input is one: how a replay begins, what a page is filled with, and all that is printed.
-- Assumes nothing.
use Prim.Native.Nat.{ℕ}
use mathlib.Core.List.{List, ◌++◌}
use mathlib.Core.Path.{◌≡◌, sym, ap, ap₂, ◌∙◌}
use Rattle.rules.specs.declared.ReadResult.{ReadResult}
use Rattle.rules.specs.declared.Verdict.{Verdict}
use Rattle.rules.specs.Sheet.{read_of}
use Rattle.rules.specs.Recordings.{tape_of}
use Rattle.load_check.proofs.Sheets.{sheet_verdict_unique}
use Rattle.line.specs.declared.Line.{Line}
use Rattle.line.specs.Line.{holding}
use Rattle.trace_steps.specs.Turns.{verdict_line}
use Rattle.trace_steps.specs.Trace.{behind_verdict}
use Rattle.replay_lines.specs.declared.Replaying.{Replaying}
use Rattle.replay_lines.specs.declared.ReplayTurn.{ReplayTurn}
use Rattle.replay_lines.specs.Replaying.{Begun, PageFilled}
use Rattle.replay_lines.specs.Replay.{replay_printed, ReplayOf}

-- the first line and the replay behind it
pub begun_once : (r : ReadResult) (t u : ReplayTurn) → Begun r t → Begun r u → t ≡ u
begun_once r t u a b =
    ap₂ (λ (x : Replaying) (l : Line). record { replaying = x; line = l }) (a.replaying ∙ sym b.replaying)
    (a.line
    ∙ ap (λ (v : Verdict). holding (verdict_line v)) (sheet_verdict_unique r.answer r.set a.verdict b.verdict a.is_verdict b.is_verdict)
    ∙ sym b.line)

-- the replay behind a page, the length and the page
pub page_once : (recording out p q : List ℕ) (r s t : Replaying) (m n : ℕ) → PageFilled recording r out s m p → PageFilled recording r out t n q
    → (s ≡ t) × ((m ≡ n) × (p ≡ q))
page_once recording out p q r s t m n a b = (a.replaying ∙ sym b.replaying, (a.size ∙ sym b.size, a.whole ∙ sym b.whole))

-- two outputs for one sheet and one recording are the same
pub replay_once : (sheet recording out other : List ℕ) → ReplayOf sheet recording out → ReplayOf sheet recording other → out ≡ other
replay_once sheet recording out other a b =
    a.whole
    ∙ ap (λ (v : Verdict). verdict_line v ++ behind_verdict (read_of sheet).answer (replay_printed (read_of sheet).set (tape_of recording)))
    (sheet_verdict_unique (read_of sheet).answer (read_of sheet).set a.verdict b.verdict a.is_verdict b.is_verdict)
    ∙ sym b.whole
