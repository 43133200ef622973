use Rattle.answer_words.specs.Words.{says}
use Rattle.line.proofs.Puts.{then}
use Rattle.console_words.proofs.put_count.Goals as goal

pub returns-in-Ok : goal.returns-in-Ok
unfolding says
returns-in-Ok c = rw c.in-Ok.is c.decimal.ensures

pub returns-in-Err : goal.returns-in-Err
unfolding says
returns-in-Err c = rw c.in-Err.is (then _ _ _ _ _ c.refused.ensures c.number.ensures)
