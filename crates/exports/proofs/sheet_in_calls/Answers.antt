use mathlib.Core.Path.{subst}
use Rattle.rules.specs.declared.ReadResult.{ReadResult}
use Rattle.load_check.specs.Sheets.{SheetVerdict}
use Rattle.exports.proofs.sheet_in_calls.Goals as goal

pub returns : goal.returns
returns c =
    record {
      given = c.verdict_in_calls.result;
      is_verdict = subst (λ (r : ReadResult). SheetVerdict r.answer r.set c.verdict_in_calls.result) c.read-r.ensures c.verdict_in_calls.ensures;
      code = c.verdict_code.ensures;
    }
