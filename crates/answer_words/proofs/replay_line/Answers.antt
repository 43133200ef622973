use Rattle.answer_words.specs.Words.{says}
use Rattle.answer_words.proofs.Lengths.{says_short}
use Rattle.answer_words.proofs.Ends.{ended}
use Rattle.rules.specs.Numbers.{ended as Ended}
use Rattle.answer_words.proofs.replay_line.Goals as goal

pub returns-in-Ok-None : goal.returns-in-Ok-None
unfolding says
returns-in-Ok-None c =
    let h = rw c.in-Ok-None.is at c.in-Ok-None.field-0-is in
    rw (c.in-Ok-None.is, h) (ended _ _ _ (says Ended) (says_short Ended) c.blank.ensures c.word.ensures c.put.ensures)
