use Rattle.std.proofs.Common.{rules, arith, ap, ◌≡◌, ◌≤◌}
use Rattle.rules.specs.declared.Stream.{Stream}
use Rattle.rules.specs.Streams.{no_stream, no_stage, stream_at}
use Rattle.rules.specs.States.{span_of}
use Rattle.state_formed.proofs.Standing.{message_beyond, message_past, message_early, message_yes, message_no, posted_is, task_is}
use Rattle.state_formed.proofs.stands.Goals.{then-set-m-via-then-set-m, then-set-m-via-else-set-m+then-stream-m, then-set-m-via-else-set-m+else-stream-m+then-stage-m, then-set-m-via-else-set-m+else-stream-m+else-stage-m+then-clock-posted, then-set-m-via-else-set-m+else-stream-m+else-stage-m+else-clock-posted+then-posted-before}
use Rattle.state_formed.proofs.stands.Goals as goal

pub returns-in_err-stream : goal.returns-in_err-stream
returns-in_err-stream c =
    rw (message_beyond c.args.set.now c.args.clock c.args.before c.args.m.now c.in_err-stream.ensures.lookup.3) (search rules)

pub returns-in_err-stage : goal.returns-in_err-stage
returns-in_err-stage c =
    let e : c.in_ok-stream.stream.now ≡ stream_at c.args.set.now c.args.m.now.stream = c.in_ok-stream.ensures.lookup.3.1 no_stream in
    rw (message_past c.args.set.now c.args.clock c.args.before c.args.m.now (rw e at c.in_err-stage.ensures.lookup.3)) (search rules)

pub returns-in_err-posted : goal.returns-in_err-posted
returns-in_err-posted c =
    let e : c.in_ok-stream.stream.now ≡ stream_at c.args.set.now c.args.m.now.stream = c.in_ok-stream.ensures.lookup.3.1 no_stream in
    let h : c.in_ok-stream.stream.now.deadline ≤ c.args.m.now.deadline → ⊥ = c.in_err-posted.ensures in
    let g : c.in_ok-stream.stream.now.deadline ≡ span_of c.args.set.now c.args.m.now = ap (λ (x : Stream). x.deadline) e in
    rw (message_early c.args.set.now c.args.clock c.args.before c.args.m.now (omega (arith, g, h))) (search rules)

pub returns-then-set-m : goal.returns-then-set-m
returns-then-set-m c =
    rw (
    message_no c.args.set.now c.args.clock c.args.before c.args.m.now c.in_ok-stream.stream.now c.in_ok-stage.stage.now c.in_ok-posted.posted
    (c.in_ok-stream.ensures.lookup.3.1 no_stream) (c.in_ok-stage.ensures.lookup.3.1 no_stage) c.in_ok-posted.ensures.0 c.in_ok-posted.ensures.1
    (λ a b d e f. elim c.then-set-m.branch [
      | then-set-m-via-then-set-m w ↦ omega arith
      | then-set-m-via-else-set-m+then-stream-m w ↦ omega arith
      | then-set-m-via-else-set-m+else-stream-m+then-stage-m w ↦ omega arith
      | then-set-m-via-else-set-m+else-stream-m+else-stage-m+then-clock-posted w ↦ omega arith
      | then-set-m-via-else-set-m+else-stream-m+else-stage-m+else-clock-posted+then-posted-before w ↦ omega arith
    ]))

pub returns : goal.returns
returns c =
    rw (
      message_yes c.args.set.now c.args.clock c.args.before c.args.m.now c.in_ok-stream.stream.now c.in_ok-stage.stage.now c.in_ok-posted.posted
          (c.in_ok-stream.ensures.lookup.3.1 no_stream) (c.in_ok-stage.ensures.lookup.3.1 no_stage) c.in_ok-posted.ensures.0 c.in_ok-posted.ensures.1
          c.if-set-m.false c.if-stream-m.false c.if-stage-m.false c.if-clock-posted.false c.if-posted-before.false,
      posted_is c.args.set.now c.args.clock c.args.before c.args.m.now c.in_ok-stream.stream.now c.in_ok-stage.stage.now c.in_ok-posted.posted
          (c.in_ok-stream.ensures.lookup.3.1 no_stream) (c.in_ok-stage.ensures.lookup.3.1 no_stage) c.in_ok-posted.ensures.0 c.in_ok-posted.ensures.1,
      task_is c.args.set.now c.args.clock c.args.before c.args.m.now c.in_ok-stream.stream.now c.in_ok-stage.stage.now c.in_ok-posted.posted
          (c.in_ok-stream.ensures.lookup.3.1 no_stream) (c.in_ok-stage.ensures.lookup.3.1 no_stage) c.in_ok-posted.ensures.0 c.in_ok-posted.ensures.1,
    )
