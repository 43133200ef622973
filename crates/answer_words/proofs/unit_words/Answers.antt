use Rattle.answer_words.specs.Words.{says}
use Rattle.answer_words.proofs.Ends.{lax}
use borrow.Author.Rules.{rules}
use Rattle.answer_words.proofs.unit_words.Goals as goal

pub returns-in-Ok-Finished : goal.returns-in-Ok-Finished
unfolding says
returns-in-Ok-Finished c =
    let h = rw c.in-Ok-Finished.is at c.in-Ok-Finished.field-0-is in
    rw (c.in-Ok-Finished.is, h) (lax _ _ _ _ c.in-Ok-Finished.z (search rules) c.two-in-Ok-Finished.ensures c.signed.ensures)

pub returns-in-Ok-Cut : goal.returns-in-Ok-Cut
unfolding says
returns-in-Ok-Cut c =
    let h = rw c.in-Ok-Cut.is at c.in-Ok-Cut.field-0-is in
    rw (c.in-Ok-Cut.is, h) (lax _ _ _ _ c.in-Ok-Cut.z (search rules) c.two-in-Ok-Cut.ensures c.signed-in-Ok-Cut.ensures)
