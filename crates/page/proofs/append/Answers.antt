use Rattle.std.proofs.lemmas.Grind.{common_steps}
use Rattle.page.proofs.Rooms.{room, room_is, too_long, too_full, stays, goes}
use native.Mathlib.Omega.{arith}
use mathlib.Core.Path.{sym, ◌∙◌}
use Rattle.page.proofs.append.Goals as goal

pub returns-then-n-gt-ROOM : goal.returns-then-n-gt-ROOM
returns-then-n-gt-ROOM c =
    let a = c.args in
    stays a.out.now a.at a.l (too_long a.out.now a.at a.l c.if-n-gt-ROOM.true)

pub returns-then-not-has_room : goal.returns-then-not-has_room
returns-then-not-has_room c =
    let a = c.args in
    stays a.out.now a.at a.l (too_full a.out.now a.at a.l (sym c.has_room.ensures ∙ c.if-not-has_room.true))

pub overflow_add-at : goal.overflow_add-at
overflow_add-at c =
    let a = c.args in
    omega (arith, room_is a.out.now a.at a.l.len (sym c.has_room.ensures ∙ c.if-not-has_room.false))

pub slice_bounds-copy_from_slice-end : goal.slice_bounds-copy_from_slice-end
slice_bounds-copy_from_slice-end c =
    let a = c.args in
    omega (arith, room_is a.out.now a.at a.l.len (sym c.has_room.ensures ∙ c.if-not-has_room.false))

pub returns : goal.returns
returns c =
    let a = c.args in
    goes a.out.now a.at a.l _ (room a.out.now a.at a.l c.if-n-gt-ROOM.false (sym c.has_room.ensures ∙ c.if-not-has_room.false)) (grind (arith, common_steps))
