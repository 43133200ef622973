-- The scheduler of document 01 is a lawful machine of the deadline argument: each call of a run is a refusal, a post, a unit that serves the chosen message, or an idle unit.
-- Assumes nothing.
use Prim.Native.Nat.{ℕ, ◌+◌}
use mathlib.Core.Bool.{Bool, true}
use mathlib.Core.List.{List, [], ◌++◌}
use mathlib.Core.Path.{◌≡◌, refl, sym, ap, subst, ◌∙◌}
use native.Mathlib.Numerals.{add-one}
use native.Mathlib.Omega.{arith}
use lib.ListN.{take}
use Rattle.rules.specs.declared.Set.{Set}
use Rattle.rules.specs.declared.StartResult.{StartResult}
use Rattle.std.specs.Prelude.{Ok}
use Rattle.rules.specs.declared.UnitResult.{UnitResult}
use Rattle.rules.specs.Streams.{Placed, valid}
use Rattle.rules.specs.Parties.{owners_for}
use borrow.Author.Tests.{le-leb}
use Rattle.rules.specs.Steps.{fresh_for, start_for, post_of, unit_of, ticked}
use Rattle.rules.specs.declared.Call.{Call}
use Rattle.rules.specs.declared.Call.TheVariants.{Posts, Units}
use Rattle.rules.specs.Runs.{finished, cut, Run, accepted, departures, after_moving, after_unit, step_of, Start, Starts, begin_for, accepted_of, departures_of}
use Rattle.promise_deadlines.specs.Model.{idle, Reaches}
use Rattle.promise_deadlines.specs.Machine.{Moment, outset, Reached, Following, Lawful}
use Rattle.promise_steps.specs.Formed.{Formed, StartGives, PostKeeps, UnitKeeps}
use Rattle.promise_steps.proofs.Cases.{post_case, UnitCase, unit_case, stops, idles, finishes, passes, cuts, runs}
use Rattle.promise_steps.proofs.Kept.{post_keeps, unit_keeps}
use Rattle.promise_steps.proofs.Runs.{start_gives, begin_time}
use Rattle.promise_demand3.specs.Kind.{Named, paired, pending_of}
use Rattle.promise_demand3.proofs.Pairing.{paired_none}
use Rattle.promise_demand3.proofs.Base.{base}
use Rattle.promise_demand3.proofs.Moments.{Good, moment_of, Reachable, Stepped, no_post}
use Rattle.promise_demand3.proofs.Posting.{post_step}
use Rattle.promise_demand3.proofs.Serving.{leave_step, last_stage_lem, cut_cost, gain_step, pass_step}

module _ (S : Set) (placed : Placed S) (ok : valid S ≡ true) where
  -- ---- a unit

  idle_step : (r : Run) → Good S placed ok r → Reachable S placed ok r → r.state.count ≡ 0 → Formed (ticked r.state) → Stepped S placed ok r (after_moving r (ticked r.state))
  idle_step r g run e f = no_post S placed ok r (after_moving r (ticked r.state)) refl
      (record { set_is = g.set_is; formed = f; numbered = g.numbered; timed = omega (arith, g.timed) })
      (subst (λ (q : List Named). Reaches (base S placed ok) (r.time + 1) q (accepted r) (departures r)) (sym nothing)
      (rw add-one (idle (subst (λ (q : List Named). Reaches (base S placed ok) r.time q (accepted r) (departures r)) nothing run))))
    where
      nothing : pending_of r ≡ []
      nothing = ap (λ (n : ℕ). paired r.names (take n r.state.messages)) e ∙ paired_none r.names

  unit_step : (r : Run) (done : Bool) → Good S placed ok r → Reachable S placed ok r → (u : UnitResult) → Formed u.state → UnitCase r.state done u → Stepped S placed ok r (after_unit r u.state u.answer)
  unit_step r done g run u f (stops why) = no_post S placed ok r r refl g run
  unit_step r done g run u f (idles e h) = idle_step r g run e f
  unit_step r done g run u f (finishes v e) = leave_step S placed ok r g run v finished _ (last_stage_lem S placed ok r g run v e) f
  unit_step r done g run u f (passes v e) = pass_step S placed ok r g run v e f
  unit_step r done g run u f (cuts v e) = leave_step S placed ok r g run v cut _ (cut_cost S placed ok r g run v e) f
  unit_step r done g run u f (runs v e) = gain_step S placed ok r g run v e f

  -- ---- every call

  call_step : (r : Run) (c : Call) → Good S placed ok r → Reachable S placed ok r → Stepped S placed ok r (step_of r c)
  unfolding step_of PostKeeps UnitKeeps
  call_step r (Posts k) g run = post_step S placed ok r k g run (post_of r.state k) (post_keeps r.state k g.formed) (post_case r.state k)
  call_step r (Units done) g run = unit_step r done g run (unit_of r.state done) (unit_keeps r.state done g.formed) (unit_case r.state done)

  -- ---- the machine

  pub record Shows (r : Run) (m : Moment (base S placed ok)) : Type 0 where
    pub good : Good S placed ok r
    pub seen : m ≡ moment_of S placed ok r

  pub follow : (r : Run) (c : Call) (m : Moment (base S placed ok)) → Reached (base S placed ok) m → Shows r m → Following (base S placed ok) Shows m (step_of r c)
  follow r c m run shown =
      let next : Stepped S placed ok r (step_of r c) = call_step r c shown.good (subst (λ (q : Moment (base S placed ok)). Reached (base S placed ok) q) shown.seen run) in
      record {
        to = moment_of S placed ok (step_of r c);
        shown = record { good = next.good; seen = refl };
        next = record {
          reached = next.reachable;
          more = next.more;
          grown = next.grown ∙ ap (λ (q : Moment (base S placed ok)). q.posts ++ next.more) (sym shown.seen);
        };
      }

-- ---- the start

module _ (z : Start) (starts : Starts z) where
  start_is : start_for z.set z.owners z.places ≡ record { answer = Ok tt; state = fresh_for z.set (owners_for z.set.count z.owners) z.places }
  unfolding start_for
  start_is = rw (starts.valid_set, le-leb _ _ starts.few)

  pub begin_shows : Shows z.set starts.boxed.set starts.valid_set (begin_for z) (outset (base z.set starts.boxed.set starts.valid_set))
  unfolding paired begin_for StartGives accepted_of departures_of
  begin_shows = record {
    good = record { set_is = ap (λ (q : StartResult). q.state.set) start_is; formed = start_gives z starts.boxed; numbered = ap (λ (q : StartResult). q.state.count) (sym start_is); timed = begin_time z };
    seen = ap (λ (q : StartResult). moment_of z.set starts.boxed.set starts.valid_set (record { state = q.state; time = 0; names = []; events = [] })) (sym start_is);
  }

  unfoldable pub lawful : Lawful (base z.set starts.boxed.set starts.valid_set) (begin_for z) step_of
  lawful = record { Shows = Shows z.set starts.boxed.set starts.valid_set; begins = begin_shows; follows = follow z.set starts.boxed.set starts.valid_set }
