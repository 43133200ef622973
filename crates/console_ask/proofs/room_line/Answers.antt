use Rattle.console_ask.specs.Questions.{all_for_us}
use Rattle.console_ask.proofs.Lines.{room_none, room_told}
use Rattle.console_ask.proofs.room_line.Goals as goal

pub returns-then-p : goal.returns-then-p
unfolding all_for_us
returns-then-p c = room_none _ c.if-p.true

pub returns-else-p : goal.returns-else-p
unfolding all_for_us
returns-else-p c = room_told _ _ c.if-p.false c.two_line.ensures
