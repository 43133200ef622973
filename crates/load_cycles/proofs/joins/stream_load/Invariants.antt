use Prim.Native.Nat.{◌*◌, ◌≤◌}
use mathlib.Core.Path.{◌≡◌}
use lib.ListN.{take}
use Rattle.laws.specs.Lists.{sum}
use Rattle.rules.specs.Load.{rate}
use Rattle.load_cycles.proofs.joins.stream_load.Given as goal

abbrev pub invariant-loop-p : goal.invariant-loop-p
invariant-loop-p l = record { is : l.acc ≡ sum (rate l.h l.cost) (take l.p-index l.p-items); fits : l.acc ≤ l.p-index * 262140000000 }
