use native.Mathlib.Omega.{arith}
use mathlib.Core.Path.{sym, ◌∙◌}
use Rattle.rules.specs.Streams.{streams_of}
use Rattle.rules.proofs.Valid.{valid_set}
use Rattle.load_cycles.proofs.Bounds.{deadlines_fit, offsets_fit}
use Rattle.load_cycles.proofs.Settle.{joined_short, verdict_refused, verdict_long, verdict_overload, goes_on_lem}
use Rattle.load_cycles.proofs.begin.Goals as goal

pub returns-then-not-is_valid : goal.returns-then-not-is_valid
returns-then-not-is_valid c = verdict_refused c.args.x (sym c.is_valid.ensures ∙ c.if-not-is_valid.true)

pub join_all-requires : goal.join_all-requires
join_all-requires c = valid_set c.args.x (sym c.is_valid.ensures ∙ c.if-not-is_valid.false)

pub returns-in_default : goal.returns-in_default
returns-in_default c = verdict_long c.args.x (sym c.is_valid.ensures ∙ c.if-not-is_valid.false) c.join_all.ensures c.in_default.is

pub load_of-requires : goal.load_of-requires
load_of-requires c =
    (valid_set c.args.x (sym c.is_valid.ensures ∙ c.if-not-is_valid.false), joined_short c.args.x c.join_all.ensures c.in-Some.is)

pub returns-then-from-load_of : goal.returns-then-from-load_of
returns-then-from-load_of c =
    verdict_overload c.args.x (sym c.is_valid.ensures ∙ c.if-not-is_valid.false) c.join_all.ensures c.in-Some.is c.from.ensures c.load_of.ensures (omega arith)

pub end_after-requires : goal.end_after-requires
end_after-requires c =
    let v = valid_set c.args.x (sym c.is_valid.ensures ∙ c.if-not-is_valid.false) in (
      joined_short c.args.x c.join_all.ensures c.in-Some.is,
      omega (arith, c.greatest_deadline.ensures, deadlines_fit (streams_of c.args.x) v.streams),
      omega (arith, c.greatest_offset.ensures, offsets_fit (streams_of c.args.x) v.streams),
    )

pub returns : goal.returns
returns c =
    goes_on_lem c.args.x (sym c.is_valid.ensures ∙ c.if-not-is_valid.false) c.join_all.ensures c.in-Some.is c.from.ensures c.load_of.ensures
    c.greatest_deadline.ensures c.greatest_offset.ensures c.end_after.ensures (omega arith)
