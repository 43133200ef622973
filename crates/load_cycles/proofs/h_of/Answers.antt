use mathlib.Core.Path.{sym, ◌∙◌}
use Rattle.rules.proofs.Valid.{valid_set}
use Rattle.load_cycles.proofs.Cycling.{h_is, h_above, h_refused}
use Rattle.load_cycles.proofs.h_of.Goals as goal

pub returns-then-not-is_valid : goal.returns-then-not-is_valid
returns-then-not-is_valid c = h_refused c.args.x (sym c.is_valid.ensures ∙ c.if-not-is_valid.true)

pub join_all-requires : goal.join_all-requires
join_all-requires c = valid_set c.args.x (sym c.is_valid.ensures ∙ c.if-not-is_valid.false)

pub returns-in_default : goal.returns-in_default
returns-in_default c = h_above c.args.x (sym c.is_valid.ensures ∙ c.if-not-is_valid.false) c.in_default.ensures

pub returns : goal.returns
returns c = h_is c.args.x c.in-Some.h c.from.result (sym c.is_valid.ensures ∙ c.if-not-is_valid.false) c.in-Some.ensures c.from.ensures
