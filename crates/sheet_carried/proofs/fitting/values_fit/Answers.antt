use Rattle.sheet_carried.proofs.Ways.{values_whole}
use Rattle.sheet_carried.proofs.fitting.values_fit.Goals as goal

-- src/fitting.rt:173:1
pub returns : goal.returns
returns c =
    values_whole _ _ _ _ _ _ _ _ _ _ _ _ c.in_rule-count.ensures c.has_date.ensures c.in_rule-date.ensures c.has_depth.ensures c.in_rule-depth.ensures c.in_rule-task.ensures c.in_rule-limit.ensures c.in_rule-cycle.ensures
