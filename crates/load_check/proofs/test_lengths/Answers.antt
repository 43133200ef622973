use mathlib.Core.Path.{sym, ◌∙◌}
use Rattle.rules.proofs.Valid.{valid_set}
use Rattle.load_check.proofs.Settle.{found_is, found_refused}
use Rattle.load_check.proofs.test_lengths.Goals as goal

pub test_range-requires : goal.test_range-requires
test_range-requires c = valid_set c.args.x (sym c.is_valid.ensures ∙ c.if-is_valid.true)

pub returns-then-is_valid : goal.returns-then-is_valid
returns-then-is_valid c = found_is c.args.x c.args.from c.args.end c.test_range.result (sym c.is_valid.ensures ∙ c.if-is_valid.true) c.test_range.ensures

pub returns-else-is_valid : goal.returns-else-is_valid
returns-else-is_valid c = found_refused c.args.x c.args.from c.args.end (sym c.is_valid.ensures ∙ c.if-is_valid.false)
