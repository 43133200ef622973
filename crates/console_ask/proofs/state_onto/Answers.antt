use Rattle.std.proofs.Common.{rules}
use Rattle.laws.proofs.Parts.{sized}
use Rattle.console_ask.specs.Questions.{message_line, staged_line, door_line, owns_line}
use Rattle.console_ask.proofs.States.{Sized, state_onto}
use Rattle.console_ask.proofs.state_onto.Goals as goal

pub returns : goal.returns
returns c =
    let all : Sized c.args.s.now = record { messages = search (rules, sized); waits = search (rules, sized); owners = search (rules, sized) } in
    state_onto _ all _ _ c.requires _ _ _ _ _ _ _ _ _ _ _ _ _ _ _ _ c.one_line.ensures c.append-clock.ensures c.one_line-2.ensures c.append-count.ensures
    (c.lines_onto-messages.ensures message_line (λ k x r p. search rules))
    (c.lines_onto-stages.ensures staged_line (λ k x r p. search rules))
    (c.lines_onto-waits.ensures door_line (λ k x r p. search rules))
    (c.lines_onto-owners.ensures owns_line (λ k x r p. search rules))
    (c.told_onto.ensures _ c.room_line.ensures)
