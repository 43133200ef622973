use Rattle.std.proofs.Common.{arith}
use Rattle.scheduler.proofs.Signed.{difference}
use Rattle.scheduler.proofs.laxity.Goals as goal

pub returns : goal.returns
returns c =
    rw (c.from.ensures, c.from-2.ensures) (difference c.args.deadline c.args.clock (omega arith) (omega arith))
