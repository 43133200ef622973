use Rattle.text_print.proofs.Prints.{Listing}
use Rattle.text_print.proofs.put_lines.Given as goal

abbrev pub invariant-loop-s : goal.invariant-loop-s
invariant-loop-s l = Listing l.fn.x l.s-items l.initial.out l.initial.at l.out l.s-index l.at
