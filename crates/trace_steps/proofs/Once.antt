-- What is allowed for one input is one: how a trace begins, what a piece leaves, and all that is printed.
-- Assumes nothing.
use Prim.Native.Nat.{ℕ, ◌*◌, ◌≤◌, ◌<◌}
use mathlib.Core.List.{List, ◌++◌}
use mathlib.Core.Logic.{⊎_elim}
use mathlib.Core.Path.{◌≡◌, sym, ap, ap₂, ◌∙◌}
use lib.ListN.{length}
use Rattle.laws.proofs.Gates.{le_or_lt}
use Rattle.rules.specs.declared.ReadResult.{ReadResult}
use Rattle.rules.specs.declared.Verdict.{Verdict}
use Rattle.rules.specs.Sheet.{read_of}
use Rattle.load_check.proofs.Sheets.{sheet_verdict_unique}
use Rattle.line.specs.declared.Line.{Line}
use Rattle.line.specs.Line.{holding}
use Rattle.trace_bytes.specs.Scripts.{script_of}
use Rattle.trace_steps.specs.declared.Tracing.{Tracing}
use Rattle.trace_steps.specs.declared.Turn.{Turn}
use Rattle.trace_steps.specs.Turns.{verdict_line, Beginning, PieceTraced}
use Rattle.trace_steps.specs.Trace.{steps_printed, behind_verdict, TraceOf}

-- the first line and the tracing behind it
pub beginning_once : (r : ReadResult) (t u : Turn) → Beginning r t → Beginning r u → t ≡ u
beginning_once r t u a b =
    ap₂ (λ (x : Tracing) (l : Line). record { tracing = x; line = l }) (a.tracing ∙ sym b.tracing)
    (a.line
    ∙ ap (λ (v : Verdict). holding (verdict_line v)) (sheet_verdict_unique r.answer r.set a.verdict b.verdict a.is_verdict b.is_verdict)
    ∙ sym b.line)

-- the tracing behind a piece, the length and the page
module _ (t u v : Tracing) (piece out p q : List ℕ) (m n : ℕ) where
  pub piece_once : PieceTraced t piece out u m p → PieceTraced t piece out v n q → (u ≡ v) × ((m ≡ n) × (p ≡ q))
  piece_once a b =
      ⊎_elim
      (λ (h : length piece * 128 ≤ length out).
      ((a.room h).0 ∙ sym (b.room h).0, ((a.room h).1.0 ∙ sym (b.room h).1.0, (a.room h).1.1 ∙ sym (b.room h).1.1)))
      (λ (h : length out < length piece * 128).
      ((a.none h).0 ∙ sym (b.none h).0, ((a.none h).1.0 ∙ sym (b.none h).1.0, (a.none h).1.1 ∙ sym (b.none h).1.1)))
      (le_or_lt (length piece * 128) (length out))

-- two outputs for one sheet and one trace are the same
pub trace_once : (sheet input out other : List ℕ) → TraceOf sheet input out → TraceOf sheet input other → out ≡ other
trace_once sheet input out other a b =
    a.whole
    ∙ ap (λ (v : Verdict). verdict_line v ++ behind_verdict (read_of sheet).answer (steps_printed (read_of sheet).set (script_of input)))
    (sheet_verdict_unique (read_of sheet).answer (read_of sheet).set a.verdict b.verdict a.is_verdict b.is_verdict)
    ∙ sym b.whole
