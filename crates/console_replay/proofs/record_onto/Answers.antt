use mathlib.Core.Path.{sym, refl, ◌∙◌}
use Rattle.console_replay.proofs.Records.{records, stays}
use Rattle.console_replay.proofs.record_onto.Goals as goal

pub returns-then-not-has_room : goal.returns-then-not-has_room
returns-then-not-has_room c =
    let a = c.args in
    stays a.trace.now a.len a.out.now a.at (sym c.has_room.ensures ∙ c.if-not-has_room.true)

pub buffer_within-requires : goal.buffer_within-requires
buffer_within-requires c =
    (refl, sym c.has_room.ensures ∙ c.if-not-has_room.false)

pub returns : goal.returns
returns c =
    let a = c.args in
    records a.trace.now a.len a.out.now a.at _ _ (sym c.has_room.ensures ∙ c.if-not-has_room.false) c.buffer_within.ensures
