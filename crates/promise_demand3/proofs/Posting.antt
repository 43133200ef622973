-- An accepted post is one of the deadline argument: a message with the next number goes last. Assumes nothing.
use Prim.Native.Nat.{ℕ, ◌<◌}
use mathlib.Core.Bool.{true}
use mathlib.Core.List.{[], ◌∷◌, ◌++◌}
use mathlib.Core.Path.{◌≡◌, refl, ap, subst, ◌∙◌}
use native.Mathlib.Omega.{arith}
use lib.ListN.{length, length-append}
use Rattle.rules.specs.declared.Set.{Set}
use Rattle.rules.specs.declared.PostResult.{PostResult}
use Rattle.rules.specs.Streams.{Placed, stream_at, valid}
use Rattle.rules.specs.States.{pending}
use Rattle.rules.specs.Steps.{new_message, added}
use Rattle.rules.specs.Runs.{Run, accepted, new_post, after_post}
use Rattle.rules.proofs.Events.{accepted_more, departures_same}
use Rattle.promise_deadlines.specs.Model.{New, post}
use Rattle.promise_steps.specs.Formed.{Formed}
use Rattle.promise_steps.proofs.Valid.{stream_valid, stage_cost_lem}
use Rattle.rules.specs.States.{party_of}
use Rattle.state_formed.proofs.WellFormed.{well_formed_lem, place_room}
use Rattle.promise_steps.proofs.Cases.{PostCase, refuses, accepts, pending_added}
use Rattle.promise_demand3.specs.Kind.{Named, paired, pending_of}
use Rattle.promise_demand3.proofs.Pairing.{name, paired_last}
use Rattle.promise_demand3.proofs.Base.{base, cost_first, hold_unstarted}
use Rattle.promise_demand3.proofs.Moments.{Good, all_numbered, Reachable, Stepped, no_post}

-- the message of the post, with its number
abbrev message : Run → ℕ → Named
message r k = name (length (accepted r)) (new_message r.state k)

module _ (S : Set) (placed : Placed S) (ok : valid S ≡ true) (r : Run) (k : ℕ) (g : Good S placed ok r) where
  new : k < r.state.set.count → New (base S placed ok) r.time (accepted r) (new_post r k) (message r k)
  new h =
      let inside : k < S.count = subst (λ (x : Set). k < x.count) g.set_is h in
      record {
        next = refl;
        now = refl;
        stream_in = inside;
        message = record { named = refl; to = refl; until = omega (arith, g.timed, ap (λ (x : Set). (stream_at x k).deadline) g.set_is) };
        whole = omega (arith, cost_first S placed ok (message r k));
        unstarted = hold_unstarted S (message r k) refl;
        fine = record {
          stream_in = inside;
          stage_in = (stream_valid S placed ok k inside).depth.low;
          used_in = stage_cost_lem S placed ok k inside 0 (stream_valid S placed ok k inside).depth.low;
        };
      }

  -- the pending messages with the new one last
  goes_last : r.state.count < 64 → paired (r.names ++ (length (accepted r) ∷ [])) (pending (added r.state (new_message r.state k))) ≡ pending_of r ++ (message r k ∷ [])
  goes_last room =
      ap (paired (r.names ++ (length (accepted r) ∷ []))) (pending_added r.state g.formed.housed.places (new_message r.state k) room)
      ∙ paired_last r.names (pending r.state) (length (accepted r)) (new_message r.state k) (all_numbered S placed ok r g)

  pub post_step : Reachable S placed ok r → (p : PostResult) → Formed p.state → PostCase r.state k p → Stepped S placed ok r (after_post r k p.state p.answer)
  post_step run p f (refuses why) = no_post S placed ok r r refl g run
  post_step run p f (accepts inside room free) = record {
    good = record { set_is = g.set_is; formed = f; numbered = omega (arith, length-append r.names (length (accepted r) ∷ []), g.numbered); timed = g.timed };
    reachable = rw (accepted_more r.events (new_post r k), departures_same r.events (new_post r k), goes_last (place_room r.state (well_formed_lem r.state g.formed.formed) g.formed.housed.places (party_of r.state k) room))
        (post run (new_post r k) (message r k) (new inside));
    more = new_post r k ∷ [];
    grown = accepted_more r.events (new_post r k);
  }
