use Prim.Native.Nat.{◌-◌, ◌≤◌}
use Rattle.rules.specs.Streams.{streams_of}
use Rattle.rules.specs.Load.{demand, NoneLate}
use Rattle.load_check.proofs.lengths.test_range.Given as goal

abbrev pub invariant-loop-i : goal.invariant-loop-i
invariant-loop-i l = (l.from ≤ l.i) × NoneLate (demand (streams_of l.x)) l.from l.i

abbrev pub decreases-loop-i : goal.decreases-loop-i
decreases-loop-i l = l.end - l.i
