use mathlib.Core.Path.{sym, ◌∙◌}
use Rattle.console_ask.proofs.Answers.{asks, unasked}
use Rattle.console_ask.proofs.ask.Goals as goal

pub question_onto-requires : goal.question_onto-requires
question_onto-requires c =
    sym c.has_room.ensures ∙ c.if-has_room.true

pub returns-then-has_room : goal.returns-then-has_room
returns-then-has_room c =
    let a = c.args in
    asks a.q a.n a.x a.s a.out.now a.at _ _ (sym c.has_room.ensures ∙ c.if-has_room.true) c.question_onto.ensures

pub returns-else-has_room : goal.returns-else-has_room
returns-else-has_room c =
    let a = c.args in
    unasked a.q a.n a.x a.s a.out.now a.at (sym c.has_room.ensures ∙ c.if-has_room.false)
