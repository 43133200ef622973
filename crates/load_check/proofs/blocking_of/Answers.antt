use mathlib.Core.Path.{sym, ◌∙◌}
use Rattle.load_check.proofs.Steady.{blocking_is, blocking_refused}
use Rattle.load_check.proofs.blocking_of.Goals as goal

pub returns-then-is_valid : goal.returns-then-is_valid
returns-then-is_valid c =
    blocking_is c.args.x c.args.i c.args.t (sym c.is_valid.ensures ∙ c.if-is_valid.true) (c.from.ensures ∙ c.task_blocking.ensures)

pub returns-else-is_valid : goal.returns-else-is_valid
returns-else-is_valid c = blocking_refused c.args.x c.args.i c.args.t (sym c.is_valid.ensures ∙ c.if-is_valid.false)
