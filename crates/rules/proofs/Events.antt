-- One event more: what it adds to the accepted posts and to the departures; and that a step of a run leaves the state that the call leaves.
-- Assumes nothing.
use Prim.Native.Nat.{ℕ}
use mathlib.Core.List.{List, [], ◌∷◌, ◌++◌}
use mathlib.Core.Path.{◌≡◌, refl, ap}
use Rattle.rules.specs.declared.State.{State}
use Rattle.rules.specs.declared.Call.{Call}
use Rattle.rules.specs.declared.Call.TheVariants.{Posts, Units}
use Rattle.std.specs.Prelude.{Result, Ok, Err}
use Rattle.rules.specs.declared.Posted.{Posted}
use Rattle.rules.specs.declared.Outcome.{Outcome}
use Rattle.rules.specs.declared.Refusal.{Refusal}
use Rattle.rules.specs.declared.Outcome.TheVariants.{Ran, Passed, Finished, Cut, Idle}
use Rattle.rules.specs.Steps.{post_of, unit_of, call_of}
use Rattle.rules.specs.Runs.{Accepted, Departure, Event, accepts, leaves, accepted_of, departures_of, Run, after_post, after_unit, step_of}

pub accepted_more : (es : List Event) (p : Accepted) → accepted_of (es ++ (accepts p ∷ [])) ≡ accepted_of es ++ (p ∷ [])
unfolding accepted_of
accepted_more [] p = refl
accepted_more (accepts q ∷ es) p = ap (λ (l : List Accepted). q ∷ l) (accepted_more es p)
accepted_more (leaves d ∷ es) p = accepted_more es p

pub accepted_same : (es : List Event) (d : Departure) → accepted_of (es ++ (leaves d ∷ [])) ≡ accepted_of es
unfolding accepted_of
accepted_same [] d = refl
accepted_same (accepts q ∷ es) d = ap (λ (l : List Accepted). q ∷ l) (accepted_same es d)
accepted_same (leaves e ∷ es) d = accepted_same es d

pub departures_more : (es : List Event) (d : Departure) → departures_of (es ++ (leaves d ∷ [])) ≡ departures_of es ++ (d ∷ [])
unfolding departures_of
departures_more [] d = refl
departures_more (accepts q ∷ es) d = departures_more es d
departures_more (leaves e ∷ es) d = ap (λ (l : List Departure). e ∷ l) (departures_more es d)

pub departures_same : (es : List Event) (p : Accepted) → departures_of (es ++ (accepts p ∷ [])) ≡ departures_of es
unfolding departures_of
departures_same [] p = refl
departures_same (accepts q ∷ es) p = departures_same es p
departures_same (leaves e ∷ es) p = ap (λ (l : List Departure). e ∷ l) (departures_same es p)

-- ---- the state after a step

post_state : (r : Run) (k : ℕ) (s : State) (a : Result Posted Refusal) → (after_post r k s a).state ≡ s
post_state r k s (Ok p) = refl
post_state r k s (Err why) = refl

unit_state : (r : Run) (s : State) (a : Result Outcome Refusal) → (after_unit r s a).state ≡ s
unit_state r s (Ok (Ran t k)) = refl
unit_state r s (Ok (Passed t k)) = refl
unit_state r s (Ok (Finished t k l)) = refl
unit_state r s (Ok (Cut t k l)) = refl
unit_state r s (Ok Idle) = refl
unit_state r s (Err why) = refl

pub step_state : (r : Run) (c : Call) → (step_of r c).state ≡ (call_of r.state c).state
unfolding step_of call_of
step_state r (Posts k) = post_state r k (post_of r.state k).state (post_of r.state k).answer
step_state r (Units done) = unit_state r (unit_of r.state done).state (unit_of r.state done).answer
