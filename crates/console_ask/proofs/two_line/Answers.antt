use Rattle.console_ask.proofs.Lines.{two_is}
use Rattle.console_ask.proofs.two_line.Goals as goal

pub returns : goal.returns
returns c = two_is _ _ _ _ _ _ c.requires c.blank.ensures c.two.ensures c.put.ensures
