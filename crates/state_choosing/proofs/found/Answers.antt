use Rattle.std.proofs.Common.{rules, arith, ap}
use Rattle.state_formed.proofs.WellFormed.{well_formed_lem}
use Rattle.state_choosing.specs.declared.Served.{Served}
use Rattle.state_choosing.proofs.Passing.{first_start, first_new, first_old, second_start, second_fresh, second_other, few_pending, stream_in, stage_in, serve_started, serve_best}
use Rattle.state_choosing.proofs.found.Goals.{then-goes_first, else-goes_first, then-m-gt0+else-started-best, else-m-gt0}
use Rattle.state_choosing.proofs.found.Goals as goal

pub shared_ref_as_front-pending : goal.shared_ref_as_front-pending
shared_ref_as_front-pending c =
    (well_formed_lem _ c.requires.formed).few

pub serve-best-requires : goal.serve-best-requires
serve-best-requires c =
    let s = c.args.s.now in
    (stream_in s c.requires.formed 0 (omega arith), stage_in s c.requires.formed 0 (omega arith))

pub loop-k-init : goal.loop-k-init
loop-k-init c =
    let s = c.args.s.now in
    first_start _ _ _ _ (omega arith) c.serve-best.ensures (search rules)

pub offset_bounds-pending-k : goal.offset_bounds-pending-k
offset_bounds-pending-k c =
    let s = c.args.s.now in
    omega (arith, few_pending s c.requires.formed)

pub serve-here-requires : goal.serve-here-requires
serve-here-requires c =
    let s = c.args.s.now in
    (stream_in s c.requires.formed _ c.loop-k-test.true, stage_in s c.requires.formed _ c.loop-k-test.true)

pub loop-k-preserved : goal.loop-k-preserved
loop-k-preserved c =
    let loop = c.loop-k in
    elim c.if-goes_first.branch [
      | then-goes_first w ↦ rw (w.best-is, w.deadline-is)
          (first_new _ _ _ _ _ loop.invariant c.loop-k-test.true _ c.serve-here.ensures _ c.goes_first.ensures w.if-goes_first.true)
      | else-goes_first w ↦ rw (w.best-is, w.deadline-is)
          (first_old _ _ _ _ _ loop.invariant c.loop-k-test.true _ c.serve-here.ensures _ c.goes_first.ensures w.if-goes_first.false)
    ]

pub loop-k-2-init : goal.loop-k-2-init
loop-k-2-init c =
    second_start _ _ _ _ _ c.loop-k.invariant (omega arith)

pub offset_bounds-pending-k-in-loop-k-2 : goal.offset_bounds-pending-k-in-loop-k-2
offset_bounds-pending-k-in-loop-k-2 c =
    let s = c.args.s.now in
    omega (arith, few_pending s c.requires.formed)

pub serve-started-requires : goal.serve-started-requires
serve-started-requires c =
    let s = c.args.s.now in
    (stream_in s c.requires.formed _ c.loop-k-2-test.true, stage_in s c.requires.formed _ c.loop-k-2-test.true)

pub returns-then-started-best : goal.returns-then-started-best
returns-then-started-best c =
    let s = c.args.s.now in
    let r = serve_started s c.requires.formed _ _ c.loop-k-2.invariant c.loop-k-2-test.true c.if-m-gt0.true _ c.serve-started.ensures c.if-started-best.true in
    record { told = r.0; inside = r.1 }

pub loop-k-2-preserved : goal.loop-k-2-preserved
loop-k-2-preserved c =
    elim c.if-m-gt0.branch [
      | then-m-gt0+else-started-best w ↦
          second_other _ _ _ _ c.loop-k-2.invariant c.loop-k-2-test.true w.if-m-gt0.true _ (ap (λ (y : Served). y.task) w.serve-started.ensures) w.if-started-best.false
      | else-m-gt0 w ↦ second_fresh _ _ _ _ c.loop-k-2.invariant c.loop-k-2-test.true w.if-m-gt0.false
    ]

pub returns : goal.returns
returns c =
    let s = c.args.s.now in
    let r = serve_best s c.requires.formed _ _ c.loop-k-2.invariant c.loop-k-2-test.false in
    record { told = r.0; inside = r.1 }
