use Rattle.sheet_carried.proofs.Counted.{part_first, part_padding, part_second}
use native.Mathlib.Omega.{arith}
use Rattle.sheet_carried.proofs.counting.part_room.Goals as goal

-- src/counting.rt:43:9
pub returns-then-f-ge9 : goal.returns-then-f-ge9
returns-then-f-ge9 c =
    part_padding _ _ _ _ c.requires.0 c.requires.1 (omega arith) c.requires.2

-- src/counting.rt:46:9
pub returns-then-version-eq1 : goal.returns-then-version-eq1
returns-then-version-eq1 c =
    part_first _ _ _ _ c.requires.0 c.requires.1 _ (omega arith) c.if-version-eq1.true c.by_row.ensures

-- src/counting.rt:38:1
pub returns : goal.returns
returns c =
    part_second _ _ _ _ c.requires.0 c.requires.1 _ (omega arith) c.if-version-eq1.false c.by_row-2.ensures
