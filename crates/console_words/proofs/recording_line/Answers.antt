use Rattle.answer_words.proofs.Ends.{ended}
use Rattle.console_words.proofs.Lengths.{recording_short}
use Rattle.console_words.proofs.recording_line.Goals as goal

pub returns : goal.returns
returns c =
    ended _ _ _ _ (recording_short _) c.blank.ensures c.one.ensures c.put.ensures
