-- The half of the page that is left has room for any answer.
-- Assumes nothing.
use Rattle.std.proofs.Common.{arith}
use Rattle.page.proofs.Rooms.{room_for_lem}
use Rattle.console_ask.specs.Questions.{answer_room}
use Rattle.console_obey.proofs.Obeys.{with_room}
use Rattle.console_io.proofs.obey.Goals as goal

pub returns : goal.returns
returns c =
    with_room c.args.d c.args.line.now c.args.out.now c.args.at _ _
    (room_for_lem c.args.out.now c.args.at answer_room (omega (arith, c.requires.0, c.requires.1)) (omega (arith, c.requires.0, c.requires.1)))
    c.obey.ensures
