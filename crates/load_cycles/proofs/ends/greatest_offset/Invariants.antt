use mathlib.Core.Path.{◌≡◌}
use lib.ListN.{take}
use Rattle.laws.specs.Lists.{top}
use Rattle.rules.specs.Load.{stream_offset}
use Rattle.load_cycles.proofs.ends.greatest_offset.Given as goal

abbrev pub invariant-loop-s : goal.invariant-loop-s
invariant-loop-s l = l.most ≡ top stream_offset (take l.s-index l.s-items)
