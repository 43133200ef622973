use borrow.Author.Tests.{eq-eqb, ne_eqb}
use Rattle.console_ask.proofs.Lines.{staged_none, staged_told}
use Rattle.console_ask.proofs.staged_line.Goals as goal

pub returns-then-m-eq0 : goal.returns-then-m-eq0
returns-then-m-eq0 c = staged_none _ _ (eq-eqb _ 0 c.if-m-eq0.true)

pub returns-else-m-eq0 : goal.returns-else-m-eq0
returns-else-m-eq0 c = staged_told _ _ _ (ne_eqb _ 0 c.if-m-eq0.false) c.two_line.ensures
