use native.Mathlib.Omega.{arith}
use mathlib.Core.Path.{ap, sym, ◌∙◌}
use Rattle.std.specs.Prelude.{Ok}
use Rattle.rules.specs.Recordings.{replay_by}
use Rattle.replay_step.proofs.Marks.{inside_by, byte_there, no_step, a_step}
use Rattle.replay_step.proofs.step.Goals as goal

pub returns-then-not-formed-inside : goal.returns-then-not-formed-inside
returns-then-not-formed-inside c =
    c.standing.ensures ∙ no_step _ _ _ _ _ c.well_formed-formed.ensures c.place_in-inside.ensures (c.if-not-formed-inside.true)

pub mark_at-requires : goal.mark_at-requires
mark_at-requires c =
    (inside_by _ _ c.well_formed-formed.result c.place_in-inside.result c.place_in-inside.ensures (c.if-not-formed-inside.false)).bit_in

pub made-requires : goal.made-requires
made-requires c =
    let in-it = inside_by _ _ c.well_formed-formed.result c.place_in-inside.result c.place_in-inside.ensures (c.if-not-formed-inside.false) in
    let there = byte_there c.args.recording.now c.args.at _ in-it.bit_in (sym c.mark_at.ensures ∙ c.in-Ok-Some.is ∙ ap Ok c.in-Ok-Some.field-0-is) in
    (in-it.bit_in, omega (arith, there))

pub returns-in-Ok-Some : goal.returns-in-Ok-Some
returns-in-Ok-Some c =
    a_step _ _ _ _ _ c.well_formed-formed.ensures c.place_in-inside.ensures (c.if-not-formed-inside.false) _ c.mark_at.ensures _
    (c.made.ensures ∙ ap (replay_by _ _) (sym (c.in-Ok-Some.is ∙ ap Ok c.in-Ok-Some.field-0-is)))

pub returns-in-Ok-None : goal.returns-in-Ok-None
returns-in-Ok-None c =
    a_step _ _ _ _ _ c.well_formed-formed.ensures c.place_in-inside.ensures (c.if-not-formed-inside.false) _ c.mark_at.ensures _
    (c.standing-in-Ok-None.ensures ∙ ap (replay_by _ _) (sym (c.in-Ok-None.is ∙ ap Ok c.in-Ok-None.field-0-is)))

pub returns-in-Err : goal.returns-in-Err
returns-in-Err c =
    a_step _ _ _ _ _ c.well_formed-formed.ensures c.place_in-inside.ensures (c.if-not-formed-inside.false) _ c.mark_at.ensures _
    (c.standing-in-Err.ensures ∙ ap (replay_by _ _) (sym c.in-Err.is))
