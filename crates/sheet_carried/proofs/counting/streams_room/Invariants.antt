use Prim.Native.Nat.{◌*◌, ◌≤◌}
use mathlib.Core.Path.{◌≡◌}
use lib.ListN.{take}
use Rattle.laws.specs.Lists.{sum}
use Rattle.rules.specs.Streams.{streams_of}
use Rattle.sheet_carried.specs.Left.{stream_room}
use Rattle.sheet_carried.proofs.counting.streams_room.Given as goal

abbrev pub invariant-loop-s : goal.invariant-loop-s
invariant-loop-s l = (l.room ≡ sum (stream_room l.fn.x.version) (take l.s-index (streams_of l.fn.x))) × (l.room ≤ 250 * l.s-index)
