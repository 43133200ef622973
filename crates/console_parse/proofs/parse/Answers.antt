use Rattle.std.proofs.Common.{sym, ◌∙◌, arith}
use borrow.Author.Tests.{eqb-true}
use Rattle.console_parse.proofs.Tests.{some_bytes}
use Rattle.console_parse.proofs.Words.{front_short}
use Rattle.console_parse.proofs.Orders.{empty, long, named}
use Rattle.console_parse.proofs.parse.Goals as goal

pub returns-then-is_empty : goal.returns-then-is_empty
returns-then-is_empty c = empty _ _ (eqb-true _ 0 (sym c.is_empty.ensures ∙ c.if-is_empty.true)) c.bare.ensures

pub returns-then-line-gt-LONGEST : goal.returns-then-line-gt-LONGEST
returns-then-line-gt-LONGEST c =
    long _ _ (some_bytes _ (sym c.is_empty.ensures ∙ c.if-is_empty.false)) c.if-line-gt-LONGEST.true c.bare-then-line-gt-LONGEST.ensures

pub split_at-requires : goal.split_at-requires
split_at-requires c = omega (arith, c.word_len.ensures, front_short c.args.line.now)

pub returns : goal.returns
returns c =
    let s = c.split_at in
    named _ _ c.word_len.ensures s.result.0.now s.result.1.now s.ensures.front s.ensures.back _ _ (some_bytes _ (sym c.is_empty.ensures ∙ c.if-is_empty.false)) c.if-line-gt-LONGEST.false c.row_of.ensures c.numbers.ensures
