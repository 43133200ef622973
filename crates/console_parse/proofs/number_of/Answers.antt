use mathlib.Core.Path.{refl, sym, ◌∙◌}
use Rattle.ascii.specs.Decimal.{is_digit}
use Rattle.console_parse.proofs.Tests.{some_bytes, got_empty, got_long, got_other, got_is, all_on, all_off, all_end, read_end_lem, too_large, next, past}
use native.Mathlib.Omega.{arith}
use borrow.Author.Tests.{eqb-true}
use Rattle.console_parse.proofs.number_of.Goals as goal

pub returns-then-is_empty : goal.returns-then-is_empty
returns-then-is_empty c =
    got_empty _ _ (eqb-true _ 0 (sym c.is_empty.ensures ∙ c.if-is_empty.true))

pub returns-then-w-gt10 : goal.returns-then-w-gt10
returns-then-w-gt10 c =
    got_long _ _ c.if-w-gt10.true

pub loop-b-init : goal.loop-b-init
loop-b-init c =
    (omega arith, refl, refl)

pub returns-then-not-is_digit : goal.returns-then-not-is_digit
returns-then-not-is_digit c =
    got_other _ _ (sym c.loop-b.invariant.1 ∙ all_off is_digit c.args.w.now c.loop-b.b-index (omega arith) (sym c.is_digit.ensures ∙ c.if-not-is_digit.true))

pub overflow_mul-n : goal.overflow_mul-n
overflow_mul-n c =
    omega (arith, c.loop-b.invariant.0)

pub overflow_add-n : goal.overflow_add-n
overflow_add-n c =
    omega (arith, c.loop-b.invariant.0, c.digit_of.ensures, c.type_inv.w c.loop-b.b-index)

pub returns-then-from-n : goal.returns-then-from-n
returns-then-from-n c =
    too_large c.args.w.now c.loop-b.b-index c.args.most c.loop-b.n _ (omega (arith, c.ranges.most)) (omega arith) c.digit_of.ensures c.loop-b.invariant.2 (omega arith)

pub loop-b-preserved : goal.loop-b-preserved
loop-b-preserved c =
    (omega arith, all_on is_digit c.args.w.now c.loop-b.b-index (omega arith) (sym c.is_digit.ensures ∙ c.if-not-is_digit.false) ∙ c.loop-b.invariant.1, next c.args.w.now c.loop-b.b-index c.loop-b.n _ (omega arith) c.digit_of.ensures c.loop-b.invariant.2)

pub overflow_cast-result : goal.overflow_cast-result
overflow_cast-result c =
    omega (arith, c.loop-b.invariant.0)

pub returns-then-n-from : goal.returns-then-n-from
returns-then-n-from c =
    got_is c.args.most _ _ (some_bytes _ (sym c.is_empty.ensures ∙ c.if-is_empty.false)) c.if-w-gt10.false (sym c.loop-b.invariant.1 ∙ all_end is_digit c.args.w.now c.loop-b.b-index (omega arith)) (sym (read_end_lem _ c.args.w.now c.loop-b.b-index (omega arith)) ∙ c.loop-b.invariant.2) (omega arith)

pub returns-else-n-from : goal.returns-else-n-from
returns-else-n-from c =
    past c.args.w.now c.loop-b.b-index c.args.most c.loop-b.n (omega arith) c.loop-b.invariant.2 (omega arith)
