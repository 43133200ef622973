use Rattle.std.proofs.Common.{arith}
use Rattle.console_names.specs.Rows.{wanted}
use Rattle.console_parse.proofs.Fills.{turn, stop, ends, ends_not, filled_asked, taken, untaken, all_read}
use Rattle.console_parse.proofs.numbers.Goals as goal

pub loop-k-init : goal.loop-k-init
loop-k-init c = filled_asked _ (wanted c.args.r) _

pub returns-in_default : goal.returns-in_default
returns-in_default c =
    stop _ _ _ _ c.args.r.most.now _ 5 _ _ c.loop-k.invariant _ (omega arith) (omega arith) (untaken _ _ c.in_default.is c.next_number.ensures) c.bare.ensures

pub loop-k-preserved : goal.loop-k-preserved
loop-k-preserved c =
    turn _ _ _ _ c.args.r.most.now _ 5 _ _ c.loop-k.invariant _ _ (omega arith) (omega arith) (taken _ _ _ _ c.in-Some.is c.next_number.ensures)

pub returns-then-text_behind : goal.returns-then-text_behind
returns-then-text_behind c =
    ends _ _ _ _ c.args.r.most.now _ 5 _ _ c.loop-k.invariant _ c.text_behind.ensures (all_read _ _ _ c.min-k-end.result c.min-k-end.ensures c.loop-k-test.false) _ c.if-text_behind.true (omega arith)

pub returns-else-text_behind : goal.returns-else-text_behind
returns-else-text_behind c =
    ends_not _ _ _ _ c.args.r.most.now _ 5 _ _ c.loop-k.invariant _ c.text_behind.ensures (all_read _ _ _ c.min-k-end.result c.min-k-end.ensures c.loop-k-test.false) _ c.if-text_behind.false c.bare-else-text_behind.ensures
