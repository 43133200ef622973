use Rattle.std.proofs.Common.{rules, arith}
use Rattle.laws.proofs.Fields.{are_bytes_of}
use Rattle.exports.proofs.Pieces.{fed_none, fed_next}
use Rattle.exports.proofs.fed.Goals as goal

pub loop-piece-init : goal.loop-piece-init
loop-piece-init c =
    fed_none _ _ _ c.cable-c.ensures (search rules)

pub loop-piece-preserved : goal.loop-piece-preserved
loop-piece-preserved c =
    fed_next _ _ _ _ _ _ (are_bytes_of c.args.bytes.now (λ i. omega (arith, c.type_inv.bytes i))) c.loop-piece.invariant c.in-Some.ensures.steps.1.0 c.feed.ensures
