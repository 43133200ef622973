use Rattle.std.proofs.Common.{arith}
use Rattle.state_formed.proofs.Waiting.{wait_start, wait_go, wait_no, wait_end}
use Rattle.state_formed.proofs.waits_left.Goals as goal

pub loop-k-init : goal.loop-k-init
loop-k-init c =
    wait_start _ _ c.told-waits

pub returns-then-not-may_wait : goal.returns-then-not-may_wait
returns-then-not-may_wait c =
    wait_no _ _ _ _ c.loop-k.invariant c.told-streams c.loop-k-test.true _ _ c.door_of-door.ensures c.if-not-may_wait.ensures

pub loop-k-preserved : goal.loop-k-preserved
loop-k-preserved c =
    wait_go _ _ _ _ c.loop-k.invariant c.told-streams c.loop-k-test.true _ _ c.door_of-door.ensures c.if-not-may_wait.ensures _ c.wait_later.ensures

pub returns : goal.returns
returns c =
    wait_end _ _ _ _ c.loop-k.invariant c.told-streams (omega arith)
