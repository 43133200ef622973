use Rattle.sheet_carried.proofs.Ways.{width_one, width_value, width_zero}
use native.Mathlib.Omega.{arith}
use Rattle.sheet_carried.proofs.fitting.width.Goals as goal

-- src/fitting.rt:39:9
pub returns-then-f-lt9 : goal.returns-then-f-lt9
returns-then-f-lt9 c =
    width_value _ _ (omega arith) c.by_row.ensures

-- src/fitting.rt:35:1
pub returns-then-f-lt17 : goal.returns-then-f-lt17
returns-then-f-lt17 c =
    width_one _ (omega arith) (omega arith)

-- src/fitting.rt:35:1
pub returns-else-f-lt17 : goal.returns-else-f-lt17
returns-else-f-lt17 c =
    width_zero _ (omega arith)
