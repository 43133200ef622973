use Rattle.sheet_carried.proofs.Ways.{point_short, point_whole, width_few}
use mathlib.Core.Path.{refl}
use native.Mathlib.Omega.{arith}
use Rattle.sheet_carried.proofs.fitting.point_fits.Goals as goal

-- src/fitting.rt:60:9
pub returns-then-w-left : goal.returns-then-w-left
returns-then-w-left c =
    point_short _ _ _ c.width-w.ensures refl (omega arith)

-- src/fitting.rt:62:9
pub came_fits-came-requires : goal.came_fits-came-requires
came_fits-came-requires c =
    width_few _ _ _ c.width-w.ensures (omega arith)

-- src/fitting.rt:54:1
pub returns : goal.returns
returns c =
    point_whole _ _ _ _ c.width-w.ensures refl (omega arith) c.came_fits-came.ensures
