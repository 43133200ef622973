use native.Mathlib.Omega.{arith}
use Prim.Native.Nat.{ℕ, ◌+◌, ◌*◌}
use mathlib.Core.Path.{ap₂}
use borrow.Author.Tests.{le-leb, lt-leb}
use Rattle.load_check.specs.Dues.{row_due}
use Rattle.load_check.proofs.dues.row_due.Goals as goal

pub returns-then-row-i : goal.returns-then-row-i
unfolding row_due
returns-then-row-i c =
    simp (le-leb c.args.row.first c.args.i (omega arith)) (ap₂ (λ (a b : ℕ). a * (b + 1)) c.from.ensures c.from-then-row-i.ensures)

pub returns-else-row-i : goal.returns-else-row-i
unfolding row_due
returns-else-row-i c = simp (lt-leb _ _ c.if-row-i.false)
