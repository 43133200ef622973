use mathlib.Core.Path.{◌≡◌}
use lib.ListN.{take}
use Rattle.laws.specs.Lists.{top}
use Rattle.rules.specs.Load.{blocks}
use Rattle.load_check.proofs.blocked.task_blocking.Given as goal

abbrev pub invariant-loop-s : goal.invariant-loop-s
invariant-loop-s l = l.most ≡ top (blocks l.t l.i) (take l.s-index l.s-items)
