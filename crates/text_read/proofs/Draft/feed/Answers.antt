use Rattle.std.proofs.Common.{arith}
use Rattle.std.proofs.lemmas.Result.{err_from_is_err_and}
use Rattle.text_read.proofs.Steps.{took, took_bad, feed_turn, feed_faulty, feed_end}
use Rattle.text_read.proofs.Draft.feed.Goals as goal

pub returns-in_err-take : goal.returns-in_err-take
returns-in_err-take c =
    let p = err_from_is_err_and c.from_residual.result c.from_residual.ensures.1 in
    rw (p.1, p.2) (feed_faulty _ _ c.loop-b.b-index _ c.loop-b.invariant _ (omega arith) (took_bad _ _ _ c.take.ensures _ c.in_err-take.was))

pub loop-b-preserved : goal.loop-b-preserved
loop-b-preserved c =
    feed_turn _ _ c.loop-b.b-index _ c.loop-b.invariant _ (omega arith) (took _ _ _ c.take.ensures _ c.in_ok-take.was)

pub returns : goal.returns
returns c =
    feed_end _ _ c.loop-b.b-index _ c.loop-b.invariant (omega arith)
