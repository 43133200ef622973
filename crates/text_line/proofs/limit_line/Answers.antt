use Rattle.line.proofs.Puts.{then}
use Rattle.text_line.specs.Lines.{place_text, limit_text}
use Rattle.text_line.proofs.Texts.{folded}
use Rattle.text_line.proofs.limit_line.Goals as goal

pub returns : goal.returns
unfolding limit_text
returns c =
    then _ _ _ _ _ (rw (c.blank.ensures, c.from.ensures) at c.one-deadline.ensures) (rw (folded place_text) at c.tuples_text.ensures)
