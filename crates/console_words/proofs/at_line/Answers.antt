use Rattle.answer_words.proofs.Ends.{ended}
use Rattle.console_words.proofs.Lengths.{at_short}
use Rattle.console_words.proofs.at_line.Goals as goal

pub returns : goal.returns
returns c =
    ended _ _ _ _ (at_short _ _) c.blank.ensures c.two.ensures c.put.ensures
