-- How a trace begins: the first line and the tracing behind it.
-- Assumes nothing.
use mathlib.Core.Path.{◌≡◌, ap, ◌∙◌}
use mathlib.Core.Bool.{Bool}
use Rattle.rules.specs.declared.ReadResult.{ReadResult}
use Rattle.rules.specs.declared.Verdict.{Verdict}
use Rattle.load_check.specs.Sheets.{SheetVerdict}
use Rattle.line.specs.declared.Line.{Line}
use Rattle.line.specs.Line.{holding}
use Rattle.trace_steps.specs.declared.Tracing.{Tracing}
use Rattle.trace_steps.specs.Turns.{verdict_line, was_read, tracing_from, Beginning}

pub begun : (r : ReadResult) (v : Verdict) (l : Line) (live : Bool) (t : Tracing) → SheetVerdict r.answer r.set v
    → l ≡ holding (verdict_line v) → live ≡ was_read r.answer → t ≡ tracing_from r.set live
    → Beginning r (record { tracing = t; line = l })
begun r v l live t a b c d = record { verdict = v; is_verdict = a; line = b; tracing = d ∙ ap (tracing_from r.set) c }
