use mathlib.Core.Path.{◌∙◌}
use Rattle.rules.proofs.Parties.{start_alone}
use Rattle.scheduler.proofs.start.Goals as goal

pub returns : goal.returns
returns c =
    c.start_for.ensures ∙ rw (c.all_places.ensures, c.all_ours.ensures) (start_alone _)
