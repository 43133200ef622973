use Rattle.page_hex.proofs.Prints.{pair_line}
use native.Mathlib.Omega.{arith}
use Rattle.page_hex.proofs.pair.Goals as goal

pub returns : goal.returns
returns c =
    pair_line _ _ _ c.args.b _ _ (omega arith) c.blank.ensures c.hex_digit.ensures c.put-high.ensures c.hex_digit-2.ensures c.put.ensures
