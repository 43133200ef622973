use Rattle.std.proofs.Common.{arith, refl, rules}
use Rattle.text_print.proofs.Prints.{print_first, print_start, print_turn, print_end}
use Rattle.text_print.proofs.put_lines.Goals as goal

pub loop-s-init : goal.loop-s-init
loop-s-init c =
    print_start _ _ _ _ _ (search rules) (search rules) c.requires.1 (print_first _ _ _ _ _ c.requires.1 c.first_line.ensures c.append-at.ensures.0 c.append-at.ensures.1)

pub loop-s-preserved : goal.loop-s-preserved
loop-s-preserved c =
    print_turn _ _ _ _ _ c.loop-s.s-index c.loop-s.at c.loop-s.invariant _ _ _ _ _ _ _ _ c.requires.0 (omega arith) refl c.stages_line.ensures c.append-at-in-loop-s.ensures.0 c.append-at-in-loop-s.ensures.1 c.line_end.ensures c.append-at-in-loop-s-2.ensures.0 c.append-at-in-loop-s-2.ensures.1

pub returns : goal.returns
returns c =
    print_end _ _ _ _ _ c.loop-s.s-index _ c.loop-s.invariant _ (print_first _ _ _ _ _ c.requires.1 c.first_line.ensures c.append-at.ensures.0 c.append-at.ensures.1) (omega arith) (omega arith)
