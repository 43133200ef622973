use Prim.Native.Nat.{◌≤◌, ◌<◌}
use lib.ListN.{take}
use Rattle.laws.specs.Lists.{All}
use Rattle.load_check.specs.Blocked.{ApartFrom}
use Rattle.load_check.proofs.blocked.next_deadline.Given as goal

abbrev pub invariant-loop-s : goal.invariant-loop-s
invariant-loop-s l = record { after : l.i < l.nearest; near : l.nearest ≤ l.end; apart : All (ApartFrom l.i l.nearest) (take l.s-index l.s-items) }
