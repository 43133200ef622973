use Rattle.scheduler_run.proofs.Moments.{after_none, after_more, after_all}
use Rattle.scheduler_run.proofs.run.Goals as goal

pub loop-b-init : goal.loop-b-init
loop-b-init c =
    after_none _ _ _ c.missed_now-missed.ensures

pub loop-b-preserved : goal.loop-b-preserved
loop-b-preserved c =
    after_more _ _ c.loop-b.b-index c.loop-b-test.true c.loop-b.s _ c.loop-b.missed _ c.loop-b.invariant c.called-s.ensures c.missed_now-missed-in-loop-b.ensures

pub returns : goal.returns
returns c =
    after_all _ _ _ _ _ _ c.start.ensures c.loop-b.invariant c.loop-b-test.false
