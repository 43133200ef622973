use mathlib.Core.Path.{ap, ◌∙◌}
use Rattle.std.specs.Prelude.{is_some}
use Rattle.state_formed.proofs.Whole.{whole_is}
use Rattle.state_formed.proofs.well_formed.Goals as goal

pub returns : goal.returns
returns c =
    c.is_some.ensures ∙ ap is_some c.inspect.ensures ∙ whole_is _
