use native.Mathlib.Omega.{arith}
use mathlib.Core.Path.{sym, ap, ◌∙◌}
use mathlib.Core.List.{List}
use Rattle.rules.proofs.Valid.{valid_set}
use Rattle.load_check.specs.declared.Row.{Row}
use Rattle.load_check.specs.Dues.{dues}
use Rattle.load_check.proofs.Bounds.{dues_fit, blockings_fit}
use Rattle.load_check.proofs.Steady.{demand_is, demand_refused}
use Rattle.load_check.proofs.demand.Goals as goal

pub rows_of-t-requires : goal.rows_of-t-requires
rows_of-t-requires c = valid_set c.args.x (sym c.is_valid.ensures ∙ c.if-is_valid.true)

pub dues_at-requires : goal.dues_at-requires
dues_at-requires c = rw c.used.ensures c.rows_of-t.ensures.fit

pub blockings-requires : goal.blockings-requires
blockings-requires c = valid_set c.args.x (sym c.is_valid.ensures ∙ c.if-is_valid.true)

pub overflow_add-result : goal.overflow_add-result
overflow_add-result c =
    omega (
      arith,
      c.dues_at.ensures,
      ap (λ (rs : List Row). dues rs c.args.i) c.used.ensures,
      dues_fit _ c.args.i c.rows_of-t.ensures.fit (omega arith),
      blockings_fit _ _ _ c.blockings.ensures (valid_set c.args.x (sym c.is_valid.ensures ∙ c.if-is_valid.true)).streams,
    )

pub returns-then-is_valid : goal.returns-then-is_valid
returns-then-is_valid c =
    demand_is c.args.x c.rows_of-t.result c.args.i c.dues_at.result c.blockings.result (sym c.is_valid.ensures ∙ c.if-is_valid.true)
    c.rows_of-t.ensures (omega arith) (c.dues_at.ensures ∙ ap (λ (rs : List Row). dues rs c.args.i) c.used.ensures) c.blockings.ensures

pub returns-else-is_valid : goal.returns-else-is_valid
returns-else-is_valid c = demand_refused c.args.x c.args.i (sym c.is_valid.ensures ∙ c.if-is_valid.false)
