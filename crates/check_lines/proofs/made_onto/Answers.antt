use mathlib.Core.Logic.{inl, inr}
use Rattle.page.proofs.Pieces.{onto_none}
use Rattle.check_lines.proofs.Shown.{made_late, made_long}
use Rattle.check_lines.proofs.made_onto.Goals as goal

pub returns-then-i-le4294967295 : goal.returns-then-i-le4294967295
returns-then-i-le4294967295 c =
    made_late c.args.x c.in-Late.i c.in-Late.field-1 c.in-Late.is c.args.out.now c.args.at c.if-i-le4294967295.true _ _ c.parts_onto.ensures

pub returns-else-i-le4294967295 : goal.returns-else-i-le4294967295
returns-else-i-le4294967295 c =
    made_long c.args.x c.in-Late.i c.in-Late.field-1 c.in-Late.is c.args.out.now c.args.at c.if-i-le4294967295.false

pub returns-in-Accept : goal.returns-in-Accept
returns-in-Accept c =
    elim c.in-Accept.is [
      | inl e ↦ rw e (onto_none c.args.out.now c.args.at)
      | inr f ↦ elim f [ inl e ↦ rw e (onto_none c.args.out.now c.args.at) | inr e ↦ rw e.1 (onto_none c.args.out.now c.args.at) ]
    ]
