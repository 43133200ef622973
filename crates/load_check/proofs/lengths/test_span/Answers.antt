use native.Mathlib.Omega.{arith}
use Rattle.load_check.proofs.Bounds.{dues_fit}
use Rattle.load_check.proofs.lengths.test_span.Goals as goal

pub overflow_add-w : goal.overflow_add-w
overflow_add-w c = omega (arith, c.dues_at.ensures, c.requires.1, dues_fit c.args.rows.now c.loop-i.i c.requires.0 (omega arith))
