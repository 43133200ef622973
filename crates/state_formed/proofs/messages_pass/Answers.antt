use native.Mathlib.Omega.{arith}
use Rattle.state_formed.proofs.Pass.{pass_start, pass_no, pass_past, pass_go, pass_twice, pass_end}
use Rattle.state_formed.proofs.messages_pass.Goals.{then-m-gt0+then-task-lt16+else-started-task, else-m-gt0, else-m-gt0-via-then-m-gt0+else-task-lt16, else-m-gt0-via-else-m-gt0}
use Rattle.state_formed.proofs.messages_pass.Goals as goal

pub loop-m-init : goal.loop-m-init
loop-m-init c =
    pass_start _ _ _

pub returns-in_default : goal.returns-in_default
returns-in_default c =
    pass_no _ _ _ _ _ _ c.loop-m.invariant c.loop-m-test.true c.in_default.ensures

pub returns-then-started-task : goal.returns-then-started-task
returns-then-started-task c =
    pass_twice _ _ _ _ _ _ c.loop-m.invariant c.loop-m-test.true _ _ c.in-Some.ensures c.if-m-gt0.true c.if-task-lt16.true c.if-started-task.true

pub loop-m-preserved : goal.loop-m-preserved
loop-m-preserved c =
    elim c.if-m-gt0.branch [
      | then-m-gt0+then-task-lt16+else-started-task w ↦ rw (w.started-is, w.before-is)
          (pass_go _ _ _ _ _ _ c.loop-m.invariant c.loop-m-test.true _ _ c.in-Some.ensures w.if-m-gt0.true w.if-task-lt16.true w.if-started-task.false)
      | else-m-gt0 w ↦ rw (w.started-is, w.before-is)
          (pass_past _ _ _ _ _ _ c.loop-m.invariant c.loop-m-test.true _ _ c.in-Some.ensures
          (λ u q. elim w.else-m-gt0.branch [
            | else-m-gt0-via-then-m-gt0+else-task-lt16 v ↦ omega arith
            | else-m-gt0-via-else-m-gt0 v ↦ omega arith
          ]))
    ]

pub returns : goal.returns
returns c =
    pass_end _ _ _ _ _ _ c.loop-m.invariant c.loop-m-test.false
