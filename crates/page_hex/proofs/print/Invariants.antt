use Prim.Native.Nat.{◌+◌, ◌*◌, ◌≤◌}
use lib.ListN.{length}
use Rattle.page_hex.proofs.Prints.{Printing}
use Rattle.page_hex.proofs.print.Given as goal

abbrev pub invariant-loop-b : goal.invariant-loop-b
invariant-loop-b l = (l.at + 2 * length l.bytes ≤ length l.initial.out) × Printing l.initial.out l.bytes l.out l.at l.b-index l.end
