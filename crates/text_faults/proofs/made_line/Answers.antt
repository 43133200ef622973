use Rattle.text_faults.proofs.Lines.{made_is}
use Rattle.text_faults.proofs.made_line.Goals as goal

pub returns : goal.returns
returns c =
    made_is _ _ _ _ _ _ _ _ _ _ c.blank.ensures c.one.ensures c.word-first.ensures c.things.ensures c.one-2.ensures c.word-next.ensures c.things-2.ensures c.put.ensures
