use lib.ListN.{take}
use Rattle.load_check.specs.Dues.{Grows}
use Rattle.load_check.proofs.RowLaws.{front_due}
use Rattle.load_check.proofs.dues.put_stream.Given as goal

abbrev pub invariant-loop-p : goal.invariant-loop-p
invariant-loop-p l = Grows l.initial.t l.p-index (front_due l.cost l.s.deadline (take l.p-index l.p-items)) l.t
