use Rattle.line.proofs.Puts.{then}
use Rattle.answer_words.proofs.Ends.{ended}
use Rattle.check_lines.specs.Told.{progress_words}
use Rattle.check_lines.proofs.Shown.{progress_short}
use Rattle.check_lines.proofs.progress_line.Goals as goal

pub returns : goal.returns
returns c =
    let a = c.from.result in
    let b = c.from-2.result in
    rw (← c.from.ensures, ← c.from-2.ensures) (ended _ _ _ (progress_words a b) (progress_short a b) c.blank.ensures (then _ _ _ _ _ c.one-front.ensures c.one.ensures) c.put.ensures)
