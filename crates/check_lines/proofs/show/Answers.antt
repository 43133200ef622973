use Rattle.check_lines.proofs.Shown.{room_for_parts, all_onto, no_room_for_all}
use Rattle.check_lines.proofs.show.Goals as goal

pub made_onto-requires : goal.made_onto-requires
made_onto-requires c =
    room_for_parts c.args.x c.args.v c.args.out.now c.verdict_line.result _ _ c.if-out-ge-ROOM.true c.verdict_line.ensures c.append-at.ensures

pub returns-then-out-ge-ROOM : goal.returns-then-out-ge-ROOM
returns-then-out-ge-ROOM c =
    all_onto c.args.x c.args.v c.args.out.now c.verdict_line.result _ _ c.if-out-ge-ROOM.true c.verdict_line.ensures c.append-at.ensures _ _ c.made_onto.ensures

pub returns-else-out-ge-ROOM : goal.returns-else-out-ge-ROOM
returns-else-out-ge-ROOM c =
    no_room_for_all c.args.x c.args.v c.args.out.now c.if-out-ge-ROOM.false
