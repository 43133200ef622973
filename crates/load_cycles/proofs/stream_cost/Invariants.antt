use Prim.Native.Nat.{◌*◌, ◌≤◌}
use mathlib.Core.Path.{◌≡◌}
use lib.ListN.{take}
use Rattle.laws.specs.Lists.{sum}
use Rattle.rules.specs.Load.{stage_cost}
use Rattle.load_cycles.proofs.stream_cost.Given as goal

abbrev pub invariant-loop-g : goal.invariant-loop-g
invariant-loop-g l = record { is : l.acc ≡ sum stage_cost (take l.g-index l.g-items); fits : l.acc ≤ l.g-index * 4294967295 }
