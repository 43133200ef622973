use mathlib.Core.Path.{◌≡◌}
use lib.ListN.{take}
use Rattle.laws.specs.Lists.{top}
use Rattle.rules.specs.Load.{less_one}
use Rattle.load_check.proofs.blocked.blocks_for.Given as goal

abbrev pub invariant-loop-g : goal.invariant-loop-g
invariant-loop-g l = l.most ≡ top (less_one l.t) (take l.g-index l.g-items)
