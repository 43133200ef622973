use Prim.Native.Nat.{◌*◌, ◌≤◌}
use lib.ListN.{take}
use Rattle.load_check.specs.Dues.{RowsOf}
use Rattle.load_check.proofs.dues.rows_of.Given as goal

abbrev pub invariant-loop-s : goal.invariant-loop-s
invariant-loop-s l = record { few : l.t.count ≤ 4 * l.s-index; rows : RowsOf (take l.s-index l.s-items) l.t }
