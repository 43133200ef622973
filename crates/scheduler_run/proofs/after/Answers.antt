use Rattle.scheduler_run.proofs.Moments.{state_none, state_more, state_all}
use Rattle.scheduler_run.proofs.after.Goals as goal

pub loop-b-init : goal.loop-b-init
loop-b-init c =
    state_none _ c.args.calls.now

pub loop-b-preserved : goal.loop-b-preserved
loop-b-preserved c =
    state_more _ _ c.loop-b.b-index c.loop-b-test.true c.loop-b.next _ c.loop-b.invariant c.called-next.ensures

pub returns : goal.returns
returns c =
    state_all _ _ _ _ c.loop-b.invariant c.loop-b-test.false
