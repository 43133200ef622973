use Prim.Native.Nat.{◌*◌, ◌≤◌}
use mathlib.Core.Path.{◌≡◌}
use Rattle.laws.specs.Lists.{below, sum}
use Rattle.rules.specs.Streams.{streams_of}
use Rattle.rules.specs.Load.{blocking}
use Rattle.load_check.proofs.blocked.blockings.Given as goal

abbrev pub invariant-loop-t : goal.invariant-loop-t
invariant-loop-t l = record { is : l.acc ≡ sum (blocking (streams_of l.x) l.i) (below l.t); fits : l.acc ≤ l.t * 65535 }
