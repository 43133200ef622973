use Rattle.rules.specs.Load.{CyclesIn}
use Rattle.load_cycles.proofs.Cycling.{SoFar}
use Rattle.load_cycles.proofs.joins.join_all.Given as goal

abbrev pub invariant-loop-s : goal.invariant-loop-s
invariant-loop-s l = SoFar CyclesIn 1 l.s-items l.s-index l.acc
