use Rattle.std.proofs.Common.{arith}
use Rattle.console_parse.proofs.Words.{front_short}
use Rattle.console_parse.proofs.Nexts.{next_none, next_other, next_is, next_bad}
use Rattle.console_parse.proofs.next_number.Goals as goal

pub returns-in_err-first : goal.returns-in_err-first
returns-in_err-first c = rw c.from_residual.ensures (next_none _ _ c.in_err-first.ensures.cases)

pub returns-then-first-ne32 : goal.returns-then-first-ne32
returns-then-first-ne32 c = next_other _ _ _ _ c.in_ok-first.ensures.cases.0 c.if-first-ne32.true

pub split_at-requires : goal.split_at-requires
split_at-requires c = omega (arith, c.word_len.ensures, front_short c.in_ok-first.behind.now)

pub returns-in_err-n : goal.returns-in_err-n
returns-in_err-n c =
    let s = c.split_at in
    rw c.from_residual-in_err-n.ensures
    (next_bad _ _ _ _ c.in_ok-first.ensures.cases.0 _ _ s.result.0.now s.result.1.now c.if-first-ne32.false c.word_len.ensures s.ensures.front s.ensures.back c.number_of.ensures c.in_err-n.was)

pub returns : goal.returns
returns c =
    let s = c.split_at in
    next_is _ _ _ _ c.in_ok-first.ensures.cases.0 _ _ s.result.0.now s.result.1.now c.if-first-ne32.false c.word_len.ensures s.ensures.front s.ensures.back c.number_of.ensures _ c.in_ok-n.was
