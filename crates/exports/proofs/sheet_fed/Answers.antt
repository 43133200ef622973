use mathlib.Core.Path.{ap, ◌∙◌}
use native.Mathlib.Omega.{arith}
use Rattle.laws.proofs.Fields.{are_bytes_of}
use Rattle.rules.specs.declared.ReadResult.{ReadResult}
use Rattle.sheet_read.specs.Cable.{closed_of}
use Rattle.sheet_read.proofs.Pieces.{close_after}
use Rattle.exports.specs.Codes.{read_code}
use Rattle.exports.proofs.sheet_fed.Goals as goal

pub returns : goal.returns
returns c =
    c.told.ensures
    ∙ ap (λ (r : ReadResult). read_code r c.args.k)
    (c.close.ensures ∙ ap closed_of c.fed.ensures ∙ close_after c.args.bytes.now (are_bytes_of c.args.bytes.now (λ i. omega (arith, c.type_inv.bytes i))))
