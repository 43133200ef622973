use mathlib.Core.Path.{◌≡◌}
use lib.ListN.{take}
use Rattle.laws.specs.Lists.{top}
use Rattle.rules.specs.Load.{deadline_of}
use Rattle.load_cycles.proofs.ends.greatest_deadline.Given as goal

abbrev pub invariant-loop-s : goal.invariant-loop-s
invariant-loop-s l = l.most ≡ top deadline_of (take l.s-index l.s-items)
