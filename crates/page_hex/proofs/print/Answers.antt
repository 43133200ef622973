use Rattle.page_hex.proofs.Prints.{print_start, print_none, print_turn, print_size, print_end}
use native.Mathlib.Omega.{arith}
use Rattle.page_hex.proofs.print.Goals as goal

pub returns-then-out-at : goal.returns-then-out-at
returns-then-out-at c =
    print_none _ _ _ (omega (arith, c.if-out-at.true))

pub returns-then-out-at-2 : goal.returns-then-out-at-2
returns-then-out-at-2 c =
    print_none _ _ _ (omega (arith, c.if-out-at-2.true))

pub loop-b-init : goal.loop-b-init
loop-b-init c =
    (omega arith, print_start _ _ _)

pub loop-b-preserved : goal.loop-b-preserved
loop-b-preserved c =
    let l = c.loop-b in
    (l.invariant.0, print_turn _ _ l.out _ _ l.b-index l.end _ _ l.invariant.0 (omega arith) c.pair.ensures c.append-end.ensures.0 c.append-end.ensures.1 l.invariant.1)

pub shape_of-out : goal.shape_of-out
shape_of-out c =
    print_size _ _ _ _ _ _ c.loop-b.invariant.1

pub returns : goal.returns
returns c =
    print_end _ _ _ _ _ _ c.loop-b.invariant.1 (omega arith)
