use borrow.Author.Rules.{rules}
use native.Mathlib.Omega.{arith}
use mathlib.Core.Path.{◌≡◌, refl}
use Rattle.std.specs.Prelude.{Err}
use Rattle.record_trace.proofs.Takings.{measure_turn, measure_stop, measure_end}
use Rattle.record_trace.proofs.measure.Goals as goal

pub loop-b-init : goal.loop-b-init
loop-b-init c =
    rw c.at_first-t.ensures (record { inside = omega arith; within = record { bit = omega arith; byte = omega arith }; same = refl })

pub returns-in_err-h : goal.returns-in_err-h
returns-in_err-h c =
    let x : c.from_residual.result ≡ Err c.in_err-h.field-0.0 = search rules in
    rw x (measure_stop c.args.trace.now c.loop-b.t c.loop-b.b-index (omega arith) c.loop-b.invariant _ c.hear.ensures _ c.in_err-h.was)

pub heard-t-requires : goal.heard-t-requires
heard-t-requires c =
    (c.loop-b.invariant.within.bit, omega (arith, c.loop-b.invariant.within.byte))

pub loop-b-preserved : goal.loop-b-preserved
loop-b-preserved c =
    measure_turn c.args.trace.now c.loop-b.t c.loop-b.b-index (omega arith) c.loop-b.invariant _ c.hear.ensures _ _ c.in_ok-h.was c.heard-t.ensures

pub returns : goal.returns
returns c =
    measure_end _ _ _ (omega arith) c.loop-b.invariant
