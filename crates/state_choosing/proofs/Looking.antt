-- What looking for a message to serve tells of the state, and of the message; the ways out of looking and of choosing.
-- Assumes nothing.
use mathlib.Core.Bool.{Bool, true, false, cond}
use mathlib.Core.Path.{◌≡◌, refl, ap, sym, ◌∙◌}
use borrow.Author.Tests.{eqb-true, eqb-false, eq-eqb, ne_eqb}
use lib.Dec.{eqb}
use Rattle.std.specs.Prelude.{Ok, Err, Some, None}
use Rattle.rules.specs.declared.State.{State}
use Rattle.rules.specs.declared.Refusal.{Refusal}
use Rattle.rules.specs.declared.Refusal.TheVariants.{IllFormed}
use Rattle.rules.specs.declared.Running.{Running}
use Rattle.rules.specs.Doors.{waits_later}
use Rattle.rules.specs.States.{well_formed}
use Rattle.rules.specs.Steps.{message_at, place_of, choose_of}
use Rattle.state_formed.specs.declared.Tested.{Tested}
use Rattle.state_formed.specs.InRange.{whole_of}
use Rattle.state_formed.proofs.Whole.{whole_none, whole_some}
use Rattle.state_choosing.specs.declared.Served.{Served}
use Rattle.state_choosing.specs.declared.Looked.{Looked}
use Rattle.state_choosing.specs.ToServe.{found_of, serve_at, serve_of, looked_of}

module _ (s : State) where
  pub look_ill : None ≡ whole_of s → Err IllFormed ≡ looked_of s
  unfolding looked_of
  look_ill e = rw (whole_none s e)

  pub look_one : (t : Tested) → Some t ≡ whole_of s → (s.count ≡ 0 → ⊥) → (f : Served) → f ≡ found_of s → Ok (let r : Looked = record { served = Some f; later = t.later } in r) ≡ looked_of s
  unfolding looked_of serve_of found_of
  look_one t e some f g = rw (g, (whole_some s t e).0, (whole_some s t e).1, ne_eqb _ _ some)

  pub look_none : (t : Tested) → Some t ≡ whole_of s → s.count ≡ 0 → Ok (let r : Looked = record { served = None; later = t.later } in r) ≡ looked_of s
  unfolding looked_of serve_of
  look_none t e none = rw ((whole_some s t e).0, (whole_some s t e).1, eq-eqb _ _ none)

  -- ---- what looking tells

  told_ok : (b : Bool) (r v : Looked) (e : Refusal) → Ok r ≡ cond b (Ok v) (Err e) → (b ≡ true) × (r ≡ v)
  told_ok true r v e q = (refl, cc)
  told_ok false r v e q = absurd (let z : ⊥ = cc in z)

  told_err : (b : Bool) (v : Looked) (e f : Refusal) → Err f ≡ cond b (Ok v) (Err e) → (b ≡ false) × (f ≡ e)
  told_err true v e f q = absurd (let z : ⊥ = cc in z)
  told_err false v e f q = (refl, cc)

  pub looked_err : (f : Refusal) → Err f ≡ looked_of s → (well_formed s ≡ false) × (f ≡ IllFormed)
  unfolding looked_of
  looked_err f e = told_err (well_formed s) _ IllFormed f e

  module _ (r : Looked) (e : Ok r ≡ looked_of s) where
    pub looked_ok : (well_formed s ≡ true) × (r.served ≡ serve_of s) × (r.later ≡ waits_later s.set.streams s.waits)
    unfolding looked_of
    looked_ok =
        let t = told_ok (well_formed s) r _ IllFormed e in
        (t.0, ap (λ (y : Looked). y.served) t.1, ap (λ (y : Looked). y.later) t.1)

    none_served : (z : Bool) (v : Served) → None ≡ cond z None (Some v) → z ≡ true
    none_served true v q = refl
    none_served false v q = absurd (let z : ⊥ = cc in z)

    some_served : (z : Bool) (f v : Served) → Some f ≡ cond z None (Some v) → (z ≡ false) × (f ≡ v)
    some_served true f v q = absurd (let z : ⊥ = cc in z)
    some_served false f v q = (refl, cc)

    pub looked_none : r.served ≡ None → s.count ≡ 0
    unfolding serve_of
    looked_none q = eqb-true s.count 0 (none_served (eqb s.count 0) _ (sym q ∙ looked_ok.1))

    pub looked_some : (f : Served) → r.served ≡ Some f → (s.count ≡ 0 → ⊥) × (f ≡ serve_at s (place_of s))
    unfolding serve_of
    looked_some f q =
        let t = some_served (eqb s.count 0) f _ (sym q ∙ looked_ok.1) in
        (eqb-false s.count 0 t.0, t.1)

  -- ---- and what choosing answers

  pub choose_err : (f : Refusal) → Err f ≡ looked_of s → Err f ≡ choose_of s
  unfolding choose_of
  choose_err f e = rw ((looked_err f e).1, (looked_err f e).0)

  pub choose_none : (r : Looked) → Ok r ≡ looked_of s → r.served ≡ None → Ok None ≡ choose_of s
  unfolding choose_of
  choose_none r e q = rw ((looked_ok r e).0, eq-eqb _ _ (looked_none r e q))

  pub choose_some : (r : Looked) → Ok r ≡ looked_of s → (f : Served) → r.served ≡ Some f → Ok (Some (let y : Running = record { task = f.task; stream = (message_at s f.place).stream } in y)) ≡ choose_of s
  unfolding choose_of
  choose_some r e f q = rw ((looked_some r e f q).1, (looked_ok r e).0, ne_eqb _ _ (looked_some r e f q).0)
