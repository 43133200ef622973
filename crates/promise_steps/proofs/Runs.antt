-- Every state that calls from a start can leave is well formed. Assumes nothing.
use Prim.Native.Nat.{ℕ, zero, suc, ◌≤◌}
use mathlib.Core.Bool.{Bool, true}
use mathlib.Core.List.{List, [], ◌∷◌}
use mathlib.Core.Path.{◌≡◌, refl, sym, subst}
use native.Mathlib.Omega.{arith}
use lib.ListN.{drop, replicate}
use Rattle.std.specs.List.{list_all}
use Rattle.laws.specs.Lists.{All, sum, count, scan}
use Rattle.laws.proofs.Sums.{by_test}
use Rattle.rules.specs.declared.Set.{Set}
use Rattle.rules.specs.Streams.{Placed, FourPlaces, no_stream, empty_set, stage_unused, tuple_unused, stream_unused, version_ok, valid}
use Rattle.rules.specs.States.{messages_ok, started_once, message_unused, most_pending}
use Rattle.rules.specs.Steps.{fresh, fresh_for, start_for, start_of, post_of, unit_of, call_of}
use Rattle.rules.specs.declared.Party.TheVariants.{Ours, Theirs}
use Rattle.rules.specs.Parties.{same, together, owner_unused, owners_for}
use Rattle.rules.proofs.Parties.{held_none, owners_length, owners_unused, start_alone}
use Rattle.rules.specs.declared.StartResult.{StartResult}
use Rattle.rules.proofs.Valid.{valid_set}
use borrow.Author.Tests.{leb-true}
use lib.Dec.{leb}
use Rattle.rules.specs.declared.Call.{Call}
use Rattle.rules.specs.declared.Call.TheVariants.{Posts, Units}
use Rattle.rules.specs.declared.PostResult.{PostResult}
use Rattle.rules.specs.declared.UnitResult.{UnitResult}
use Rattle.rules.specs.Runs.{Run, Start, Boxed, alone, after_post, after_unit, step_of, begin_for, run_from, run_for}
use Rattle.rules.proofs.Events.{step_state}
use Rattle.state_formed.proofs.WellFormed.{well_formed_back}
use Rattle.promise_steps.specs.Formed.{Formed, StartGives, PostKeeps, UnitKeeps, RunKeeps, TimeIsClock}
use Rattle.promise_steps.proofs.Cases.{PostCase, refuses, accepts, post_case, UnitCase, stops, idles, finishes, passes, cuts, runs, unit_case}
use Rattle.promise_steps.proofs.Waits.{waits_ok, waits_none}
use Rattle.promise_steps.proofs.Kept.{post_keeps, unit_keeps}

-- ---- the start

fresh_formed : (z : Start) → Boxed z → valid z.set ≡ true → together z.places ≤ 64 → list_all owner_unused (drop z.set.count z.owners) ≡ true
    → Formed (fresh_for z.set z.owners z.places)
unfolding messages_ok scan started_once message_unused count sum
fresh_formed z b ok few rest = record {
  formed = well_formed_back (fresh_for z.set z.owners z.places) (record {
    set = ok;
    few = omega arith;
    clock = omega arith;
    each = refl;
    once = refl;
    unused = refl;
    waits = waits_ok z.set (replicate 16 0) (waits_none z.set);
    together_fit = few;
    rest_ours = rest;
    ours_fit = omega (arith, held_none z.owners Ours);
    theirs_fit = omega (arith, held_none z.owners Theirs);
  });
  housed = record { set = b.set; places = refl; waits = refl; owners = b.owners };
}

pub all_same : {A : Type 0} (P : A → Type 0) (a : A) → P a → (n : ℕ) → All P (replicate n a)
all_same P a p zero = tt
all_same P a p (suc n) = (p, all_same P a p n)

empty_placed : Placed empty_set
empty_placed = record { sixteen = refl; four = all_same FourPlaces no_stream (record { stages = refl; tuples = refl }) 16 }

empty_valid : valid empty_set ≡ true
unfolding valid stream_unused stage_unused tuple_unused version_ok
empty_valid = refl

pub empty_formed : Formed (fresh empty_set)
unfolding owner_unused same
empty_formed = fresh_formed (alone empty_set) (record { set = empty_placed; owners = refl }) empty_valid (omega arith) refl

-- with the owners that a start gives it
given_formed : (z : Start) → Boxed z → valid z.set ≡ true → together z.places ≤ 64 → Formed (fresh_for z.set (owners_for z.set.count z.owners) z.places)
given_formed z b ok few =
    let n = (valid_set z.set ok).count in
    fresh_formed (record { set = z.set; owners = owners_for z.set.count z.owners; places = z.places })
    (record { set = b.set; owners = owners_length z.set.count z.owners b.owners n }) ok few (owners_unused z.set.count z.owners b.owners n)

pub start_gives : StartGives
unfolding StartGives start_for
start_gives z b = by_test (valid z.set)
    (λ e. by_test (leb (together z.places) most_pending)
    (λ g. rw (e, g) (given_formed z b e (leb-true _ _ g)))
    (λ g. rw (e, g) empty_formed))
    (λ e. rw e empty_formed)

-- of a set alone
pub alone_gives : (S : Set) → Placed S → Formed (start_of S).state
unfolding StartGives
alone_gives S placed = subst (λ (r : StartResult). Formed r.state) (start_alone S) (start_gives (alone S) (record { set = placed; owners = refl }))

-- ---- the calls

pub step_keeps : (r : Run) (c : Call) → Formed r.state → Formed (step_of r c).state
unfolding call_of PostKeeps UnitKeeps
step_keeps r (Posts k) f = subst Formed (sym (step_state r (Posts k))) (post_keeps r.state k f)
step_keeps r (Units done) f = subst Formed (sym (step_state r (Units done))) (unit_keeps r.state done f)

from_keeps : (r : Run) (cs : List Call) → Formed r.state → Formed (run_from r cs).state
unfolding run_from
from_keeps r [] f = f
from_keeps r (c ∷ cs) f = from_keeps (step_of r c) cs (step_keeps r c f)

pub run_keeps : RunKeeps
unfolding RunKeeps run_for begin_for StartGives
run_keeps z b calls = from_keeps (begin_for z) calls (start_gives z b)

-- ---- the time is the clock

post_time : (r : Run) (k : ℕ) → r.time ≡ r.state.clock → (q : PostResult) → PostCase r.state k q → (after_post r k q.state q.answer).time ≡ (after_post r k q.state q.answer).state.clock
post_time r k e q (refuses why) = e
post_time r k e q (accepts h room free) = e

unit_time : (r : Run) (done : Bool) → r.time ≡ r.state.clock → (u : UnitResult) → UnitCase r.state done u → (after_unit r u.state u.answer).time ≡ (after_unit r u.state u.answer).state.clock
unit_time r done e u (stops why) = e
unit_time r done e u (idles z h) = omega (arith, e)
unit_time r done e u (finishes v z) = omega (arith, e)
unit_time r done e u (passes v z) = omega (arith, e)
unit_time r done e u (cuts v z) = omega (arith, e)
unit_time r done e u (runs v z) = omega (arith, e)

pub step_time : (r : Run) (c : Call) → r.time ≡ r.state.clock → (step_of r c).time ≡ (step_of r c).state.clock
unfolding step_of
step_time r (Posts k) e = post_time r k e (post_of r.state k) (post_case r.state k)
step_time r (Units done) e = unit_time r done e (unit_of r.state done) (unit_case r.state done)

from_time : (r : Run) (cs : List Call) → r.time ≡ r.state.clock → (run_from r cs).time ≡ (run_from r cs).state.clock
unfolding run_from
from_time r [] e = e
from_time r (c ∷ cs) e = from_time (step_of r c) cs (step_time r c e)

pub begin_time : (z : Start) → (begin_for z).time ≡ (begin_for z).state.clock
unfolding begin_for start_for
begin_time z = by_test (valid z.set) (λ e. by_test (leb (together z.places) most_pending) (λ g. rw (e, g)) (λ g. rw (e, g))) (λ e. rw e)

pub time_is_clock : TimeIsClock
unfolding TimeIsClock run_for
time_is_clock z calls = from_time (begin_for z) calls (begin_time z)
