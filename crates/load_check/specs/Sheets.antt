-- Document 01, "The trace program": the verdict of a sheet.
-- Assumes nothing.
use Rattle.std.specs.Prelude.{◌≡◌}
use Rattle.rules.specs.declared.Set.{Set}
use Rattle.std.specs.Prelude.{Result, Ok, Err}
use Rattle.rules.specs.declared.Refusal.{Refusal}
use Rattle.rules.specs.declared.Verdict.{Verdict}
use Rattle.rules.specs.declared.Verdict.TheVariants.{Refused}
use Rattle.rules.specs.Load.{VerdictOf}

-- the verdict of the set that was read; a sheet that is refused has no other verdict than that
abbrev pub SheetVerdict : Result (Unit {0}) Refusal → Set → Verdict → Type 0
SheetVerdict (Ok tt) x v = VerdictOf x v
SheetVerdict (Err why) x v = v ≡ Refused why
