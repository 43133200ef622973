use Rattle.console_ask.specs.Questions.{message_zero}
use Rattle.console_ask.proofs.Lines.{message_none, message_told}
use Rattle.console_ask.proofs.message_line.Goals as goal

pub returns-then-m : goal.returns-then-m
unfolding message_zero
returns-then-m c = message_none _ _ c.if-m.true

pub returns : goal.returns
unfolding message_zero
returns c = message_told _ _ c.if-m.false _ _ _ _ _ c.blank.ensures c.two-front.ensures c.number.ensures c.number-2.ensures c.put.ensures
