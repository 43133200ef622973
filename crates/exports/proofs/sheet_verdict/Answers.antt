use mathlib.Core.Path.{subst}
use Rattle.rules.specs.declared.ReadResult.{ReadResult}
use Rattle.load_check.specs.Sheets.{SheetVerdict}
use Rattle.exports.proofs.sheet_verdict.Goals as goal

pub returns : goal.returns
returns c =
    record {
      given = c.sheet_verdict.result;
      is_verdict = subst (λ (r : ReadResult). SheetVerdict r.answer r.set c.sheet_verdict.result) c.read-r.ensures c.sheet_verdict.ensures;
      code = c.verdict_code.ensures;
    }
