use Rattle.std.proofs.Common.{◌-◌, ◌+◌, sym, ◌∙◌}
use Rattle.std.proofs.lemmas.Result.{err_from_is_err_and}
use native.Mathlib.Omega.{arith}
use Rattle.text_line.proofs.Ways.{tuples_over, tuples_five, tuple_more, tuple_faulty}
use Rattle.text_line.proofs.tuples.Goals as goal

pub returns-then-line-here : goal.returns-then-line-here
returns-then-line-here c =
    c.finish.ensures ∙ sym (tuples_over _ _ _ _ _ _ c.if-line-here.true) ∙ c.loop.invariant

pub returns-in_err-t : goal.returns-in_err-t
returns-in_err-t c =
    let p = err_from_is_err_and c.from_residual.result c.from_residual.ensures.1 in
    rw (p.1, p.2) (sym (tuple_faulty (4 - c.loop.counter) (4 - (c.loop.counter + 1)) (omega arith) _ _ _ _ _ c.if-line-here.false _ (sym c.tuple_at.ensures ∙ c.in_err-t.was)) ∙ c.loop.invariant)

pub loop-preserved : goal.loop-preserved
loop-preserved c =
    rw (c.add-next.ensures, c.offset_of-low.ensures) (sym (tuple_more (4 - c.loop.counter) (4 - (c.loop.counter + 1)) (omega arith) _ _ _ _ _ c.if-line-here.false _ _ (sym c.tuple_at.ensures ∙ c.in_ok-t.was)) ∙ c.loop.invariant)

pub returns-then-line-here-2 : goal.returns-then-line-here-2
returns-then-line-here-2 c =
    c.finish-then-line-here-2.ensures ∙ sym (tuples_over _ _ _ _ _ _ c.if-line-here-2.true) ∙ c.loop.invariant

pub returns-else-line-here-2 : goal.returns-else-line-here-2
returns-else-line-here-2 c =
    sym (tuples_five (4 - c.loop.counter) (omega arith) _ _ _ _ _ c.if-line-here-2.false) ∙ c.loop.invariant
