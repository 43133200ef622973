use Prim.Native.Nat.{◌*◌, ◌≤◌}
use mathlib.Core.Path.{◌≡◌}
use lib.ListN.{take}
use Rattle.laws.specs.Lists.{sum}
use Rattle.rules.specs.Load.{stream_load}
use Rattle.load_cycles.proofs.joins.load_of.Given as goal

abbrev pub invariant-loop-s : goal.invariant-loop-s
invariant-loop-s l = record { is : l.acc ≡ sum (stream_load l.h) (take l.s-index l.s-items); fits : l.acc ≤ l.s-index * 1048560000000 }
