use Rattle.text_line.specs.Lines.{stage_text, stages_text}
use Rattle.text_line.proofs.Texts.{folded}
use Rattle.text_line.proofs.stages_line.Goals as goal

pub returns : goal.returns
unfolding stages_text
returns c =
    rw (c.blank.ensures, folded stage_text) at c.stages_text.ensures
