use Rattle.console_ask.proofs.Sheets.{sheet_onto}
use borrow.Author.Rules.{rules}
use Rattle.console_ask.proofs.sheet_onto.Goals as goal

pub returns : goal.returns
returns c =
    let a = c.args in
    sheet_onto a.x a.bytes.now a.out.now a.at c.requires.0 c.requires.1 _ _ _ _ _ _ _ _ _ _ c.write-answer.ensures (search rules)
    c.write_line.ensures c.append-end.ensures c.print-last.ensures c.empty_line.ensures c.append.ensures
