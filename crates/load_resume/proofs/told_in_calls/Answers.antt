use native.Mathlib.Omega.{arith}
use Rattle.load_cycles.proofs.Bounds.{ord_max_nat}
use Rattle.load_resume.proofs.Gone.{begins}
use Rattle.load_resume.proofs.told_in_calls.Goals as goal

pub call_by_call-requires-clause-underway : goal.call_by_call-requires-clause-underway
call_by_call-requires-clause-underway g c = begins c.args.x c.in-Ok.p c.in-Ok.ensures

pub call_by_call-requires-clause-some : goal.call_by_call-requires-clause-some
call_by_call-requires-clause-some g c = omega (arith, ord_max_nat, c.max.ensures)
