use Rattle.answer_words.specs.Words.{says}
use Rattle.line.proofs.Puts.{then}
use Rattle.console_words.proofs.put_choice.Goals as goal

pub returns-in-None : goal.returns-in-None
unfolding says
returns-in-None c = rw c.in-None.is c.word.ensures

pub returns-in-Some : goal.returns-in-Some
unfolding says
returns-in-Some c = rw (c.in-Some.is, c.in-Some.field-0-is) (then _ _ _ _ _ c.one.ensures c.one-in-Some.ensures)
