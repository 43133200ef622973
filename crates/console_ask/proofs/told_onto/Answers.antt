use Rattle.console_ask.proofs.Told.{told_line, told_none}
use Rattle.console_ask.proofs.told_onto.Goals as goal

pub returns-in-Some : goal.returns-in-Some
returns-in-Some c = told_line _ _ _ _ _ _ c.in-Some.is c.append.ensures

pub returns-in-None : goal.returns-in-None
returns-in-None c = told_none _ _ _ c.in-None.is
