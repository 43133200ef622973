use Rattle.console_obey.proofs.Obeys.{begun}
use Rattle.console_obey.proofs.first.Goals as goal

pub returns : goal.returns
returns c =
    begun _ _ _ _ _ _ c.empty_set-set.ensures c.start.ensures c.first.ensures c.cable.ensures
    c.first-2.ensures c.first-3.ensures
