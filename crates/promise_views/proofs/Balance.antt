-- The accepted messages of a kind of streams are those that left and those that are pending. Assumes nothing.
use Prim.Native.Nat.{ℕ, ◌+◌, ◌≤◌, ◌<◌}
use mathlib.Core.Bool.{Bool}
use mathlib.Core.List.{List, [], ◌∷◌, ◌++◌}
use mathlib.Core.Path.{◌≡◌, refl, ap}
use native.Mathlib.Omega.{arith}
use Rattle.laws.specs.Lists.{sum, count}
use Rattle.laws.proofs.Gates.{sum_last}
use Rattle.laws.proofs.Sums.{by_test}
use Rattle.rules.specs.declared.Message.{Message}
use Rattle.rules.specs.declared.State.{State}
use Rattle.rules.specs.declared.Call.{Call}
use Rattle.rules.specs.declared.Call.TheVariants.{Posts, Units}
use Rattle.rules.specs.declared.PostResult.{PostResult}
use Rattle.rules.specs.declared.UnitResult.{UnitResult}
use Rattle.rules.specs.Streams.{valid}
use lib.Dec.{leb}
use Rattle.rules.specs.Parties.{together}
use Rattle.rules.specs.States.{party_of, most_pending}
use Rattle.rules.specs.Steps.{start_for, post_of, unit_of, call_of, place_of, message_at, stayed, departed}
use Rattle.rules.specs.Runs.{Accepted, Departure, leaves, Run, accepted_of, departures_of, accepted, departures, new_post, after_post, after_unit, step_of, Start, Boxed, begin_for, run_from, run_for}
use Rattle.rules.proofs.Events.{accepted_more, accepted_same, departures_more, departures_same, step_state}
use Rattle.state_formed.proofs.WellFormed.{well_formed_lem, place_room}
use Rattle.state_choosing.proofs.Choice.{place_in}
use Rattle.promise_steps.specs.Formed.{Formed, StartGives}
use Rattle.promise_steps.proofs.Cases.{PostCase, refuses, accepts, post_case, Serving, UnitCase, stops, idles, finishes, passes, cuts, runs, unit_case}
use Rattle.promise_steps.proofs.Runs.{start_gives, step_keeps}
use Rattle.promise_views.specs.Views.{Kind, Balanced, post_of_kind, departure_of_kind}
use Rattle.promise_steps.proofs.Pending.{one, held, held_added, held_stayed, held_departed}

-- where the chosen message stands
pub place_low : (s : State) → Formed s → Serving s → place_of s < s.count
place_low s f v = place_in s f.formed f.housed.places f.housed.set.sixteen v.some

module _ (mine : Kind) where
  abbrev came : Run → ℕ
  came r = count (post_of_kind mine) (accepted r)

  abbrev gone : Run → ℕ
  gone r = count (departure_of_kind mine) (departures r)

  record Balance (r : Run) : Type 0 where
    pub formed : Formed r.state
    pub same : came r ≡ gone r + held mine r.state

  came_more : (r : Run) (k : ℕ) → count (post_of_kind mine) (accepted r ++ (new_post r k ∷ [])) ≡ came r + one mine k
  unfolding count
  came_more r k = sum_last (λ (p : Accepted). one mine p.stream) (accepted r) (new_post r k)

  gone_more : (r : Run) (d : Departure) → count (departure_of_kind mine) (departures r ++ (d ∷ [])) ≡ gone r + one mine d.stream
  unfolding count
  gone_more r d = sum_last (λ (e : Departure). one mine e.stream) (departures r) d

  -- ---- a post

  post_same : (r : Run) (k : ℕ) → Balance r → (p : PostResult) → PostCase r.state k p → came (after_post r k p.state p.answer) ≡ gone (after_post r k p.state p.answer) + held mine p.state
  post_same r k b p (refuses why) = b.same
  post_same r k b p (accepts inside left free) =
      let room = place_room r.state (well_formed_lem r.state b.formed.formed) b.formed.housed.places (party_of r.state k) left in
      rw (accepted_more r.events (new_post r k), departures_same r.events (new_post r k))
      (omega (arith, b.same, came_more r k, held_added mine r.state b.formed.housed.places k room))

  -- ---- a unit

  module _ (r : Run) (b : Balance r) where
    few : r.state.count ≤ 64
    few = (well_formed_lem r.state b.formed.formed).few

    left_same : Serving r.state → (d : Departure) → d.stream ≡ (message_at r.state (place_of r.state)).stream
        → count (post_of_kind mine) (accepted_of (r.events ++ (leaves d ∷ []))) ≡ count (departure_of_kind mine) (departures_of (r.events ++ (leaves d ∷ []))) + held mine (departed r.state (place_of r.state))
    left_same v d e =
        rw (accepted_same r.events d, departures_more r.events d)
        (omega (arith, b.same, gone_more r d, ap (one mine) e, held_departed mine r.state b.formed.housed.places (place_of r.state) few (place_low r.state b.formed v)))

    stays : Serving r.state → (m : Message) → m.stream ≡ (message_at r.state (place_of r.state)).stream
        → came r ≡ gone r + held mine (stayed r.state (place_of r.state) m)
    stays v m e = omega (arith, b.same, held_stayed mine r.state b.formed.housed.places (place_of r.state) few (place_low r.state b.formed v) m e)

    unit_same : (done : Bool) (u : UnitResult) → UnitCase r.state done u → came (after_unit r u.state u.answer) ≡ gone (after_unit r u.state u.answer) + held mine u.state
    unit_same done u (stops why) = b.same
    unit_same done u (idles e h) = b.same
    unit_same done u (finishes v e) = left_same v _ refl
    unit_same done u (passes v e) = stays v _ refl
    unit_same done u (cuts v e) = left_same v _ refl
    unit_same done u (runs v e) = stays v _ refl

  -- ---- a run

  step_same : (r : Run) (c : Call) → Balance r → came (step_of r c) ≡ gone (step_of r c) + held mine (call_of r.state c).state
  unfolding step_of call_of
  step_same r (Posts k) b = post_same r k b (post_of r.state k) (post_case r.state k)
  step_same r (Units done) b = unit_same r b done (unit_of r.state done) (unit_case r.state done)

  step_balance : (r : Run) (c : Call) → Balance r → Balance (step_of r c)
  step_balance r c b = record {
    formed = step_keeps r c b.formed;
    same = rw (step_state r c) (step_same r c b);
  }

  from_balance : (r : Run) (cs : List Call) → Balance r → Balance (run_from r cs)
  unfolding run_from
  from_balance r [] b = b
  from_balance r (c ∷ cs) b = from_balance (step_of r c) cs (step_balance r c b)

  begin_balance : (z : Start) → Boxed z → Balance (begin_for z)
  unfolding begin_for start_for StartGives accepted_of departures_of count sum
  begin_balance z b = record {
    formed = start_gives z b;
    same = by_test (valid z.set) (λ e. by_test (leb (together z.places) most_pending) (λ g. rw (e, g)) (λ g. rw (e, g))) (λ e. rw e);
  }

pub balanced : Balanced
unfolding Balanced run_for
balanced z b calls mine = (from_balance mine (begin_for z) calls (begin_balance mine z b)).same
