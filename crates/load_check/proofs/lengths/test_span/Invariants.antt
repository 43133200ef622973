use Rattle.rules.specs.Load.{NoneLate}
use Rattle.load_check.specs.Lengths.{rows_with}
use Rattle.load_check.proofs.lengths.test_span.Given as goal

abbrev pub invariant-loop-i : goal.invariant-loop-i
invariant-loop-i l = NoneLate (rows_with l.rows l.blocked) l.from l.i
