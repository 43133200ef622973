use native.Mathlib.Omega.{arith}
use mathlib.Core.Path.{sym, ◌∙◌}
use Rattle.record_call.proofs.Widths.{some_width, call_width}
use Rattle.record_call.proofs.Appending.{append_ill, append_no_stream, append_put}
use Rattle.record_call.proofs.append.Goals as goal

pub returns-then-not-place_in : goal.returns-then-not-place_in
returns-then-not-place_in c =
    append_ill _ _ _ _ c.place_in.ensures (c.if-not-place_in.true)

pub returns-then-not-can_record : goal.returns-then-not-can_record
returns-then-not-can_record c =
    append_no_stream _ _ _ _ _ c.place_in.ensures (c.if-not-place_in.false) c.can_record.ensures (c.if-not-can_record.true)

pub put-requires : goal.put-requires
put-requires c =
    (sym c.place_in.ensures ∙ c.if-not-place_in.false, omega (arith, c.width.ensures, some_width c.args.c), omega (arith, c.width.ensures, call_width c.args.c))

pub returns : goal.returns
returns c =
    append_put _ _ _ _ _ _ _ _ _ c.place_in.ensures (c.if-not-place_in.false) c.can_record.ensures (c.if-not-can_record.false) c.width.ensures c.code.ensures c.put.ensures.0 c.put.ensures.1
