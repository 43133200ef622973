use mathlib.Core.Path.{sym, ◌∙◌}
use Rattle.console_obey.proofs.Texts.{text_there, text_few}
use Rattle.console_obey.proofs.Obeys.{obeys, stays}
use Rattle.console_obey.proofs.obey.Goals as goal

pub returns-then-not-has_room : goal.returns-then-not-has_room
returns-then-not-has_room c =
    let a = c.args in
    stays a.d a.line.now a.out.now a.at (sym c.has_room.ensures ∙ c.if-not-has_room.true)

pub slice_bounds-text_step-start : goal.slice_bounds-text_step-start
slice_bounds-text_step-start c =
    text_there _ _ c.parse-o.ensures

pub text_step-requires : goal.text_step-requires
text_step-requires c =
    (text_few _ _ c.parse-o.ensures, sym c.has_room.ensures ∙ c.if-not-has_room.false)

pub returns : goal.returns
returns c =
    let a = c.args in
    obeys a.d a.line.now a.out.now a.at _ _ _ (sym c.has_room.ensures ∙ c.if-not-has_room.false) c.parse-o.ensures c.text_step.ensures

pub slice_bounds-text_step-count : goal.slice_bounds-text_step-count
slice_bounds-text_step-count c =
    text_there _ _ c.parse-o.ensures
