use mathlib.Core.Path.{sym, ◌∙◌}
use Rattle.console_parse.proofs.Traces.{steps_from_lem, steps_on, steps_off, steps_end}
use native.Mathlib.Omega.{arith}
use Rattle.console_parse.proofs.is_steps.Goals as goal

pub loop-b-init : goal.loop-b-init
loop-b-init c =
    sym (steps_from_lem _)

pub returns-then-not-is_step_byte : goal.returns-then-not-is_step_byte
returns-then-not-is_step_byte c =
    let l = c.loop-b in
    sym (sym l.invariant ∙ steps_off c.args.w.now l.waiting l.b-index (omega arith) (sym c.is_step_byte.ensures ∙ c.if-not-is_step_byte.true))

pub loop-b-preserved : goal.loop-b-preserved
loop-b-preserved c =
    let l = c.loop-b in
    steps_on c.args.w.now l.waiting l.b-index (omega arith) (sym c.is_step_byte.ensures ∙ c.if-not-is_step_byte.false) ∙ l.invariant

pub returns : goal.returns
returns c =
    let l = c.loop-b in
    sym (sym l.invariant ∙ steps_end c.args.w.now l.waiting l.b-index (omega arith))
