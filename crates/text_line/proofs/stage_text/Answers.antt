use Rattle.line.proofs.Puts.{then, last}
use Rattle.text_line.proofs.stage_text.Goals as goal

pub returns : goal.returns
returns c =
    last _ _ _ _ _ (then _ _ _ _ _ c.one-task.ensures (rw c.from.ensures at c.one-cost.ensures)) c.put.ensures
