use native.Mathlib.Omega.{arith}
use Rattle.bits.proofs.Setting.{bits_set_at}
use Rattle.bits.proofs.set_bit.Goals as goal

-- src/lib.rt:123:1
pub returns : goal.returns
returns c =
    bits_set_at _ c.args.at.byte c.args.at.bit _ _ (omega arith) (omega arith) c.with_bit.ensures
