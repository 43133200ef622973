use native.Mathlib.Omega.{arith}
use mathlib.Core.Logic.{inl, inr}
use Rattle.std.proofs.lemmas.Grind.{common_steps}
use Rattle.load_resume.proofs.Gone.{barred_stop, barred_before, barred_behind}
use Rattle.load_resume.proofs.go.Goals as goal

pub returns-in_default : goal.returns-in_default
returns-in_default c =
    elim c.if-contains.ensures.cases [
      | inl h ↦ barred_before c.args.p c.in-Ok.end c.args.n c.in-Ok.ensures (grind (arith, common_steps, h))
      | inr h ↦ barred_behind c.args.p c.in-Ok.end c.args.n c.in-Ok.ensures (grind (arith, common_steps, h))
    ]

pub returns-in_default-2 : goal.returns-in_default-2
returns-in_default-2 c = barred_stop c.args.p c.args.n c.in_default.ensures
