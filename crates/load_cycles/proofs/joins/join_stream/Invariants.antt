use Rattle.rules.specs.Load.{PlaceIn}
use Rattle.load_cycles.proofs.Cycling.{SoFar}
use Rattle.load_cycles.proofs.joins.join_stream.Given as goal

abbrev pub invariant-loop-p : goal.invariant-loop-p
invariant-loop-p l = SoFar PlaceIn l.h l.p-items l.p-index l.acc
