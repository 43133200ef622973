use Prim.Native.Nat.{◌*◌, ◌≤◌}
use mathlib.Core.Path.{◌≡◌}
use lib.ListN.{take}
use Rattle.laws.specs.Lists.{sum}
use Rattle.load_check.specs.Dues.{row_due}
use Rattle.load_check.proofs.dues.dues_at.Given as goal

abbrev pub invariant-loop-row : goal.invariant-loop-row
invariant-loop-row l = record { is : l.acc ≡ sum (row_due l.i) (take l.row-index l.rows); fits : l.acc ≤ l.row-index * 1125882726973440 }
