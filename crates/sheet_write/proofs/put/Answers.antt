use native.Mathlib.Omega.{arith}
use Prim.Native.Nat.{◌+◌, ◌*◌, ◌/◌, ◌%◌}
use mathlib.Core.Path.{ap, ◌∙◌}
use Rattle.bits.specs.Places.{put_bits}
use Rattle.sheet_write.proofs.Writing.{put_is}
use Rattle.sheet_write.proofs.put.Goals as goal

pub returns : goal.returns
returns c =
    c.put.ensures.1 ∙ ap (put_bits c.args.buf.now (8 * (c.args.at / 8) + c.args.at % 8) c.args.w) c.from.ensures
    ∙ put_is c.args.buf.now c.args.at c.args.w c.args.v (8 * (c.args.at / 8) + c.args.at % 8) (omega arith) (omega arith) (omega arith)
