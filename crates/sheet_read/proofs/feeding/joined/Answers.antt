use Rattle.sheet_read.proofs.Turns.{join_is, sum_fits}
use native.Mathlib.Omega.{arith}
use Rattle.sheet_read.proofs.feeding.joined.Goals as goal

-- src/feeding.rt:143:14
pub overflow_add-result : goal.overflow_add-result
overflow_add-result c =
    record { fits = sum_fits c.args.p.acc c.args.g.got c.args.g.value (omega arith) (omega arith) (omega arith) }

-- src/feeding.rt:135:1
pub returns : goal.returns
returns c =
    join_is c.args.p c.args.g (omega arith) (omega arith)
