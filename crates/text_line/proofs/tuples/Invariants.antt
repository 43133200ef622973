use Rattle.std.proofs.Common.{◌≡◌, ◌-◌}
use Rattle.text_line.specs.Lines.{tuples_at}
use Rattle.text_line.proofs.tuples.Given as goal

abbrev pub invariant-loop : goal.invariant-loop
invariant-loop l = tuples_at (4 - l.counter) l.next l.low l.high l.line l.here ≡ tuples_at 4 l.fn.s 0 0 l.line l.at
