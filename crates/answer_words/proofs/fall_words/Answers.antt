use Rattle.answer_words.specs.Words.{says}
use Rattle.line.proofs.Puts.{then}
use Rattle.answer_words.proofs.fall_words.Goals as goal

pub returns-in-Accept : goal.returns-in-Accept
unfolding says
returns-in-Accept c =
    rw c.in-Accept.is (then _ _ _ _ _ c.one.ensures c.word.ensures)

pub returns-in-Late : goal.returns-in-Late
unfolding says
returns-in-Late c =
    rw c.in-Late.is (then _ _ _ _ _ c.one-in-Late.ensures c.two.ensures)
