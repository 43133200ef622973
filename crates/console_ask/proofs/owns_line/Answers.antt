use Rattle.console_ask.proofs.Lines.{owns_none, owns_told}
use Rattle.console_ask.proofs.owns_line.Goals as goal

pub returns-in-Ours : goal.returns-in-Ours
returns-in-Ours c = owns_none _ _ c.in-Ours.is

pub returns-in-Theirs : goal.returns-in-Theirs
returns-in-Theirs c = owns_told _ _ _ c.in-Theirs.is c.two_line.ensures
