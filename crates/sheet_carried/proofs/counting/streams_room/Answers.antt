use Prim.Native.Nat.{◌≤◌}
use mathlib.Core.Path.{sym}
use Rattle.laws.proofs.Sums.{sum_none}
use Rattle.sheet_carried.specs.Left.{stream_room}
use Rattle.sheet_carried.proofs.Counted.{count_few, count_most, room_all, room_few, room_next, stream_few}
use native.Mathlib.Omega.{arith}
use Rattle.sheet_carried.proofs.counting.streams_room.Goals as goal

pub shared_ref_as_front-s-items : goal.shared_ref_as_front-s-items
shared_ref_as_front-s-items c = omega (arith, count_few c.args.x c.requires)

pub loop-s-init : goal.loop-s-init
loop-s-init c = (sym (sum_none (stream_room c.args.x.version)), omega arith)

pub stream_room-room-requires : goal.stream_room-room-requires
stream_room-room-requires c = stream_few c.args.x c.requires c.loop-s.s-index _ c.loop-s-test.true

pub overflow_add-room : goal.overflow_add-room
overflow_add-room c =
    let u : c.stream_room-room.result ≤ 250 = room_few c.args.x c.requires c.loop-s.s-index _ c.loop-s-test.true _ c.stream_room-room.ensures in
    omega (arith, count_few c.args.x c.requires, count_most c.args.x)

pub loop-s-preserved : goal.loop-s-preserved
loop-s-preserved c =
    let u : c.stream_room-room.result ≤ 250 = room_few c.args.x c.requires c.loop-s.s-index _ c.loop-s-test.true _ c.stream_room-room.ensures in
    (room_next c.args.x c.requires c.loop-s.s-index _ c.loop-s-test.true _ _ c.loop-s.invariant.0 c.stream_room-room.ensures, omega arith)

pub returns : goal.returns
returns c =
    (room_all c.args.x c.requires _ c.loop-s.s-index (omega arith) c.loop-s.invariant.0, omega (arith, count_few c.args.x c.requires, count_most c.args.x))
