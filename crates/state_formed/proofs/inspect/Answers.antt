use mathlib.Core.Path.{◌∙◌}
use Rattle.state_formed.proofs.Whole.{set_no, set_yes}
use Rattle.state_formed.proofs.inspect.Goals as goal

pub returns-then-is_valid : goal.returns-then-is_valid
returns-then-is_valid c =
    c.formed.ensures ∙ set_yes _ c.if-is_valid.ensures

pub returns-else-is_valid : goal.returns-else-is_valid
returns-else-is_valid c =
    set_no _ c.if-is_valid.ensures
