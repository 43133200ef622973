use mathlib.Core.Path.{◌≡◌}
use Prim.Native.Nat.{◌*◌, ◌≤◌}
use lib.ListN.{take}
use Rattle.laws.specs.Lists.{sum as total}
use Rattle.rules.specs.Streams.{events}
use Rattle.stream_limits.proofs.limit_of.Given as goal

abbrev pub invariant-loop-p : goal.invariant-loop-p
invariant-loop-p l = record { is : l.sum ≡ total (events l.i) (take l.p-index l.p-items); fits : l.sum ≤ l.p-index * 4294967296 }
