use mathlib.Core.Path.{◌∙◌}
use native.Mathlib.Omega.{arith}
use borrow.Author.Tests.{le-leb}
use Rattle.sheet_carried.proofs.Counted.{bytes_whole, late_whole}
use Rattle.sheet_carried.proofs.counting.whole_bytes.Goals as goal

pub returns-then-c-ge17 : goal.returns-then-c-ge17
returns-then-c-ge17 c = le-leb 17 c.args.c.point.row (omega arith) ∙ late_whole _ (omega arith)

pub returns-else-c-ge17 : goal.returns-else-c-ge17
returns-else-c-ge17 c = bytes_whole _ _ (omega arith) c.came.ensures
