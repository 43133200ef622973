use borrow.Author.Rules.{rules}
use native.Mathlib.Omega.{arith}
use mathlib.Core.Path.{refl, ap, sym, ◌∙◌}
use Rattle.record_call.proofs.Widths.{inside}
use Rattle.record_call.proofs.Appending.{ended_by, end_field, finish_ill, finish_put}
use Rattle.record_call.proofs.finish.Goals as goal

pub returns-then-not-place_in : goal.returns-then-not-place_in
returns-then-not-place_in c =
    finish_ill _ _ _ c.place_in.ensures (c.if-not-place_in.true)

pub overflow_add-at : goal.overflow_add-at
overflow_add-at c =
    let h = inside c.args.buf.now c.args.at (sym c.place_in.ensures ∙ c.if-not-place_in.false) in
    record { fits = omega (arith, h.bit_in) }

pub overflow_mul-width : goal.overflow_mul-width
overflow_mul-width c =
    let h = inside c.args.buf.now c.args.at (sym c.place_in.ensures ∙ c.if-not-place_in.false) in
    record { fits = omega (arith, h.bit_in) }

pub returns-in_err-end : goal.returns-in_err-end
returns-in_err-end c =
    let h = inside c.args.buf.now c.args.at (sym c.place_in.ensures ∙ c.if-not-place_in.false) in
    finish_put _ _ _ _ _ _ _ c.place_in.ensures (c.if-not-place_in.false) (end_field c.args.at _ _ h.bit_in (omega (arith, h.bit_in)) refl) c.put.ensures.0 (rw c.in_err-end.was (search rules)) c.put.ensures.1

pub returns : goal.returns
returns c =
    let h = inside c.args.buf.now c.args.at (sym c.place_in.ensures ∙ c.if-not-place_in.false) in
    finish_put _ _ _ _ _ _ _ c.place_in.ensures (c.if-not-place_in.false) (end_field c.args.at _ _ h.bit_in (omega (arith, h.bit_in)) refl) c.put.ensures.0 (sym (ap ended_by c.in_ok-end.was)) c.put.ensures.1
