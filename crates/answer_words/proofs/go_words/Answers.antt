use Rattle.answer_words.specs.Words.{says}
use Rattle.line.proofs.Puts.{then}
use Rattle.answer_words.proofs.go_words.Goals as goal

pub returns-in-Ok-Next : goal.returns-in-Ok-Next
unfolding says
returns-in-Ok-Next c =
    let h = rw c.in-Ok-Next.is at c.in-Ok-Next.field-0-is in
    rw (c.in-Ok-Next.is, h) (then _ _ _ _ _ c.one.ensures c.one-in-Ok-Next.ensures)
