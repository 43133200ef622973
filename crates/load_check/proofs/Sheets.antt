-- One verdict for a sheet.
-- Assumes nothing.
use mathlib.Core.Path.{◌≡◌, sym, ◌∙◌}
use Rattle.rules.specs.declared.Set.{Set}
use Rattle.std.specs.Prelude.{Result, Ok, Err}
use Rattle.rules.specs.declared.Refusal.{Refusal}
use Rattle.rules.specs.declared.Verdict.{Verdict}
use Rattle.rules.proofs.Verdicts.{verdict_unique}
use Rattle.load_check.specs.Sheets.{SheetVerdict}

pub sheet_verdict_unique : (a : Result (Unit {0}) Refusal) (x : Set) (v w : Verdict) → SheetVerdict a x v → SheetVerdict a x w → v ≡ w
sheet_verdict_unique (Ok tt) x v w p q = verdict_unique x v w p q
sheet_verdict_unique (Err why) x v w p q = p ∙ sym q
