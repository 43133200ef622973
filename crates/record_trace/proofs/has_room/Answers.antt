use mathlib.Core.Path.{◌∙◌}
use borrow.Author.Tests.{lt-leb}
use native.Mathlib.Omega.{arith}
use Rattle.record_trace.proofs.Whole.{room_none, room_rest}
use Rattle.record_trace.proofs.has_room.Goals as goal

pub returns-then-at-len : goal.returns-then-at-len
returns-then-at-len c =
    room_rest c.args.len _ c.args.at (omega arith) (omega arith)

pub returns-else-at-len : goal.returns-else-at-len
returns-else-at-len c =
    lt-leb _ _ c.if-at-len.false ∙ room_none c.args.len c.args.at c.if-at-len.false
