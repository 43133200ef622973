use Rattle.text_faults.proofs.Lines.{fault_is}
use Rattle.text_faults.proofs.fault_line.Goals as goal

pub returns : goal.returns
returns c =
    fault_is _ _ _ _ _ _ _ c.blank.ensures c.one.ensures c.word-at.ensures (rw c.words.ensures at c.word.ensures) c.put.ensures
