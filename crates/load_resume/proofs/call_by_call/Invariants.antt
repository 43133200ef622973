use Prim.Native.Nat.{◌-◌}
use Rattle.rules.specs.Resumed.{Underway}
use Rattle.load_resume.proofs.call_by_call.Given as goal

abbrev pub invariant-loop-next : goal.invariant-loop-next
invariant-loop-next g l = Underway l.initial.p.set l.p

abbrev pub decreases-loop-next : goal.decreases-loop-next
decreases-loop-next g l = 1300000 - l.p.next
