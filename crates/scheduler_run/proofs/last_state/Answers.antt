use Rattle.scheduler_run.proofs.Moments.{from_start}
use Rattle.scheduler_run.proofs.last_state.Goals as goal

pub returns : goal.returns
returns c =
    from_start _ _ c.args.calls.now _ c.start.ensures c.after.ensures
