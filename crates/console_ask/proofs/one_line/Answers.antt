use Rattle.console_ask.proofs.Lines.{one_is}
use Rattle.console_ask.proofs.one_line.Goals as goal

pub returns : goal.returns
returns c = one_is _ _ _ _ _ c.requires c.blank.ensures c.one.ensures c.put.ensures
