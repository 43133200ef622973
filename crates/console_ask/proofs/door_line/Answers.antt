use borrow.Author.Tests.{eq-eqb, ne_eqb}
use Rattle.console_ask.proofs.Lines.{door_none, door_told}
use Rattle.console_ask.proofs.door_line.Goals as goal

pub returns-then-n-eq0 : goal.returns-then-n-eq0
returns-then-n-eq0 c = door_none _ _ (eq-eqb _ 0 c.if-n-eq0.true)

pub returns-else-n-eq0 : goal.returns-else-n-eq0
returns-else-n-eq0 c = door_told _ _ _ (ne_eqb _ 0 c.if-n-eq0.false) c.two_line.ensures
