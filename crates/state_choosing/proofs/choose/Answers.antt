use Rattle.std.proofs.Common.{rules, arith, ◌≡◌, ◌<◌, ◌∙◌, Err}
use Rattle.state_formed.proofs.WellFormed.{well_formed_lem}
use Rattle.state_choosing.proofs.Looking.{looked_ok, choose_err, choose_none, choose_some}
use Rattle.state_choosing.proofs.choose.Goals as goal

pub returns-in_err-look : goal.returns-in_err-look
returns-in_err-look c =
    let f : c.from_residual.result ≡ Err c.in_err-look.field-0.0 = search rules in
    f ∙ choose_err _ _ c.in_err-look.ensures.told

pub offset_bounds-s-it : goal.offset_bounds-s-it
offset_bounds-s-it c =
    let q : c.in-Some.it.place < c.args.s.now.count = rw c.in-Some.is at c.in_ok-look.ensures.inside in
    omega (arith, (well_formed_lem _ (looked_ok _ _ c.in_ok-look.ensures.told).0).few)

pub bounds-s-it : goal.bounds-s-it
bounds-s-it c =
    let q : c.in-Some.it.place < c.args.s.now.count = rw c.in-Some.is at c.in_ok-look.ensures.inside in
    omega (arith, (well_formed_lem _ (looked_ok _ _ c.in_ok-look.ensures.told).0).few)

pub returns-in-None : goal.returns-in-None
returns-in-None c =
    choose_none _ _ c.in_ok-look.ensures.told c.in-None.is

pub returns-in-Some : goal.returns-in-Some
returns-in-Some c =
    choose_some _ _ c.in_ok-look.ensures.told _ c.in-Some.is
