use borrow.Author.Rules.{rules}
use mathlib.Core.Path.{◌≡◌, sym, ◌∙◌}
use Rattle.std.specs.Prelude.{Err}
use Rattle.laws.proofs.Fields.{are_bytes_of}
use Rattle.record_trace.proofs.Whole.{bad_trace, cut_trace, small, no_room, recorded, same_end, never_bad}
use Rattle.record_trace.proofs.record.Goals as goal

pub returns-in_err-t : goal.returns-in_err-t
returns-in_err-t c =
    let x : c.from_residual.result ≡ Err c.in_err-t.field-0.0 = search rules in
    rw x (bad_trace c.args.trace.now c.args.buf.now _ (sym c.in_err-t.was ∙ c.measure.ensures))

pub returns-then-t : goal.returns-then-t
returns-then-t c =
    cut_trace c.args.trace.now c.args.buf.now _ (sym c.in_ok-t.was ∙ c.measure.ensures) c.if-t.true

pub has_room-requires : goal.has_room-requires
has_room-requires c =
    small c.args.trace.now c.args.buf.now _ (sym c.in_ok-t.was ∙ c.measure.ensures)

pub returns-then-not-has_room : goal.returns-then-not-has_room
returns-then-not-has_room c =
    no_room c.args.trace.now c.args.buf.now _ (sym c.in_ok-t.was ∙ c.measure.ensures) c.if-t.false _ (are_bytes_of c.args.buf.now (λ i. search rules)) c.has_room.ensures (c.if-not-has_room.true)

pub returns-in_err-end : goal.returns-in_err-end
returns-in_err-end c =
    never_bad c.args.trace.now _ _ (sym c.in_ok-t.was ∙ c.measure.ensures) (sym c.in_err-end.was ∙ c.put_calls.ensures.0)

pub returns : goal.returns
returns c =
    let same = same_end c.args.trace.now _ _ (sym c.in_ok-t.was ∙ c.measure.ensures) (sym c.in_ok-end.was ∙ c.put_calls.ensures.0) in
    recorded c.args.trace.now c.args.buf.now _ (sym c.in_ok-t.was ∙ c.measure.ensures) c.if-t.false _ _ _ _ (are_bytes_of c.args.buf.now (λ i. search rules)) c.has_room.ensures (c.if-not-has_room.false) c.put_calls.ensures.1
    (rw same c.finish.ensures.0) (rw same c.finish.ensures.1)
