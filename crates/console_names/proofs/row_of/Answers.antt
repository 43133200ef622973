use Rattle.std.proofs.Common.{refl}
use Rattle.console_names.proofs.Names.{row_is, found_is}
use Rattle.console_names.proofs.row_of.Goals as goal

pub returns : goal.returns
returns c = row_is _ _ _ _ refl (found_is _ _ _ c.found.ensures) c.unwrap_or.ensures
