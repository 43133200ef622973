use Rattle.sheet_carried.proofs.Rows.{width_le}
use Rattle.sheet_carried.proofs.Counted.{came_all, came_none, came_version, left_few, less_few, row_few, set_valid, whole_few}
use native.Mathlib.Omega.{arith}
use mathlib.Core.Path.{refl}
use Rattle.sheet_carried.proofs.counting.came.Goals as goal

-- src/counting.rt:74:16
pub overflow_sub-here : goal.overflow_sub-here
overflow_sub-here c =
    omega (arith, c.width.ensures, left_few c.args.c c.requires)

-- src/counting.rt:76:9
pub returns-then-f-eq0 : goal.returns-then-f-eq0
returns-then-f-eq0 c =
    came_none _ _ _ c.width.ensures refl c.if-f-eq0.true

-- src/counting.rt:79:16
pub overflow_add-result : goal.overflow_add-result
overflow_add-result c =
    omega (arith, c.width.ensures, width_le c.args.c.point.row)

-- src/counting.rt:79:9
pub returns-then-f-eq1 : goal.returns-then-f-eq1
returns-then-f-eq1 c =
    came_version _ _ _ c.width.ensures refl c.if-f-eq1.true

-- src/counting.rt:81:9
pub streams_room-requires : goal.streams_room-requires
streams_room-requires c =
    set_valid c.args.c c.requires

-- src/counting.rt:81:29
pub part_room-requires : goal.part_room-requires
part_room-requires c =
    (omega (arith, less_few c.args.c c.requires), whole_few c.args.c c.requires, row_few c.args.c c.requires)

-- src/counting.rt:81:5
pub overflow_add-result-4 : goal.overflow_add-result-4
overflow_add-result-4 c =
    omega (arith, c.part_room.ensures.1, c.streams_room.ensures.1, c.width.ensures, width_le c.args.c.point.row)

-- src/counting.rt:66:1
pub returns : goal.returns
returns c =
    came_all _ _ _ c.width.ensures refl _ _ _ c.if-f-eq0.false c.if-f-eq1.false c.streams_room.ensures.0 refl c.part_room.ensures.0
