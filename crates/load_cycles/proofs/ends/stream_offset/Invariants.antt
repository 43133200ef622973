use mathlib.Core.Path.{◌≡◌}
use lib.ListN.{take}
use Rattle.laws.specs.Lists.{top}
use Rattle.rules.specs.Streams.{offset_at}
use Rattle.load_cycles.proofs.ends.stream_offset.Given as goal

abbrev pub invariant-loop-p : goal.invariant-loop-p
invariant-loop-p l = l.most ≡ top offset_at (take l.p-index l.p-items)
