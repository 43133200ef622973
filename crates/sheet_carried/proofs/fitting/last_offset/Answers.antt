use Rattle.laws.proofs.Parts.{sized}
use borrow.Author.Rules.{rules}
use Rattle.sheet_carried.proofs.Ways.{last_at, last_none}
use Rattle.sheet_carried.proofs.fitting.last_offset.Goals as goal

pub returns-then-k-eq0 : goal.returns-then-k-eq0
returns-then-k-eq0 c = last_none _ _ c.if-k-eq0.true

pub returns-else-k-eq0 : goal.returns-else-k-eq0
returns-else-k-eq0 c = last_at _ _ _ c.args.places (search (rules, sized)) c.if-k-eq0.false c.min.ensures c.offset_at.ensures
