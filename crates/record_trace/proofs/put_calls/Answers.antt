use borrow.Author.Rules.{rules}
use native.Mathlib.Omega.{arith}
use mathlib.Core.Path.{◌≡◌, refl}
use Rattle.std.specs.Prelude.{Err}
use Rattle.record_trace.proofs.Takings.{put_turn, put_stop, put_all}
use Rattle.record_trace.proofs.put_calls.Goals as goal

pub loop-b-init : goal.loop-b-init
loop-b-init c =
    rw c.at_first-t.ensures (record { size = refl; measuring = record { inside = omega arith; within = record { bit = omega arith; byte = omega arith }; same = refl }; same = refl })

pub returns-in_err-h : goal.returns-in_err-h
returns-in_err-h c =
    let x : c.from_residual.result ≡ Err c.in_err-h.field-0.0 = search rules in
    rw x (put_stop c.args.trace.now c.args.buf.now c.loop-b.buf c.loop-b.t c.loop-b.b-index (omega arith) c.loop-b.invariant _ c.hear.ensures _ c.in_err-h.was)

pub heard-t-requires : goal.heard-t-requires
heard-t-requires c =
    (c.loop-b.invariant.measuring.within.bit, omega (arith, c.loop-b.invariant.measuring.within.byte))

pub loop-b-preserved : goal.loop-b-preserved
loop-b-preserved c =
    put_turn c.args.trace.now c.args.buf.now c.loop-b.buf c.loop-b.t c.loop-b.b-index (omega arith) c.loop-b.invariant _ c.hear.ensures _ _ _ c.in_ok-h.was c.put_heard.auto.buf c.put_heard.ensures c.heard-t.ensures

pub shape_of-buf : goal.shape_of-buf
shape_of-buf c =
    c.loop-b.invariant.size

pub returns : goal.returns
returns c =
    put_all _ _ _ _ _ (omega arith) c.loop-b.invariant
