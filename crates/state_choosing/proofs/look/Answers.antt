use Rattle.std.proofs.Common.{rules, ◌≡◌, sym, ◌∙◌, Err, None, Some}
use Rattle.rules.specs.declared.Refusal.TheVariants.{IllFormed}
use Rattle.state_formed.specs.InRange.{whole_of}
use Rattle.state_formed.proofs.Whole.{whole_some}
use Rattle.state_choosing.proofs.Looking.{look_ill, look_none, look_one}
use Rattle.state_choosing.proofs.look.Goals.{then-s-eq0, else-s-eq0}
use Rattle.state_choosing.proofs.look.Goals as goal

pub returns-in_err-tested-clause-told : goal.returns-in_err-tested-clause-told
returns-in_err-tested-clause-told c =
    let e : c.inspect.result ≡ None = c.in_err-tested.ensures.ok_part in
    let f : c.from_residual.result ≡ Err IllFormed = search rules in
    f ∙ look_ill _ (sym e ∙ c.inspect.ensures)

pub found-requires-clause-formed : goal.found-requires-clause-formed
found-requires-clause-formed c =
    (whole_some c.args.s.now c.in_ok-tested.tested (sym c.in_ok-tested.ensures.ok_part ∙ c.inspect.ensures)).0

pub returns-clause-told : goal.returns-clause-told
returns-clause-told c =
    let t : Some c.in_ok-tested.tested ≡ whole_of c.args.s.now = sym c.in_ok-tested.ensures.ok_part ∙ c.inspect.ensures in
    elim c.if-s-eq0.branch [
      | then-s-eq0 w ↦ rw w.served-is (look_none _ _ t w.if-s-eq0.true)
      | else-s-eq0 w ↦ rw w.served-is (look_one _ _ t w.if-s-eq0.false _ w.found.ensures.told)
    ]
