use Rattle.console_replay.proofs.Records.{buffer_onto}
use borrow.Author.Rules.{rules}
use Rattle.console_replay.proofs.buffer_onto.Goals as goal

pub returns : goal.returns
returns c =
    let a = c.args in
    buffer_onto a.trace.now a.bytes.now a.out.now a.at c.requires.0 c.requires.1 _ _ _ _ _ _ _ _ _ _ c.record-answer.ensures (search rules)
    c.record_line.ensures c.append-end.ensures c.print-last.ensures c.empty_line.ensures c.append.ensures
