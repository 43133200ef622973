-- Demand 3 is not empty with stages, either: a set of version 2 is accepted, and in a run of it that keeps every limit a message passes on to the task of its second stage, waits there
-- for the late message that the task has started, and leaves its last stage in time.
-- Assumes nothing.
use Prim.Native.Nat.{ℕ, zero, suc, ◌+◌, ◌-◌, ◌/◌, ◌≤◌, ◌<◌}
use mathlib.Core.Bool.{Bool, true, false, cond}
use mathlib.Core.Path.{refl, subst, ◌∙◌}
use native.Mathlib.Omega.{arith}
use lib.Dec.{leb, le→leb}
use Rattle.laws.specs.Lists.{within, sum, count}
use Rattle.laws.proofs.Gates.{cond_yes}
use Rattle.rules.specs.declared.Verdict.TheVariants.{Accept}
use Rattle.rules.specs.Streams.{Placed, FourPlaces, no_stream, stream_at, events, limit}
use Rattle.rules.specs.Load.{VerdictOf}
use Rattle.rules.specs.Numbers.{accept}
use Rattle.rules.specs.Runs.{alone, Run, accepted, accepted_of, in_window, KeepsLimit, KeepsLimits, KeepsOpenLimits, AllLeave, Demand3}
use Rattle.rules.proofs.Yard.{Judges}
use Rattle.rules.proofs.Staged.{boom, boom_calls, boom_run, boom_run_lem, stagings_true}
use Rattle.promise_steps.proofs.Runs.{all_same}
use Rattle.rules.proofs.Parties.{run_alone, starts_alone}
use Rattle.promise_demand3.proofs.Promise.{accepted_valid, limits_open, demand_3}
use Rattle.promise_demand3.proofs.SetB.{accept_is, places}

verdict_boom : VerdictOf boom Accept
verdict_boom =
    let j : Judges boom accept = stagings_true.1.1.1.1.1.1.1.0 in
    subst (VerdictOf boom) (accept_is j.given j.in_words) j.is_verdict

placed_boom : Placed boom
placed_boom = record { sixteen = refl; four = (places refl refl, (places refl refl, all_same FourPlaces no_stream (places refl refl) 14)) }

-- each stream has one post, and every limit is at least 1
small : (b : Bool) → cond b 1 0 ≤ 1
small true = omega arith
small false = omega arith

one_post : (k x i : ℕ) → k < 2 → count (in_window k x i) (accepted boom_run) ≤ 1
unfolding count sum accepted_of
one_post zero x i h = omega (arith, small (within x 1 (x + i)))
one_post (suc zero) x i h = omega (arith, small (within x 0 (x + i)))
one_post (suc (suc k)) x i h = absurd (omega arith)

one_allowed : (k i : ℕ) → k < 2 → 1 ≤ limit (stream_at boom k) i
unfolding limit events sum
one_allowed zero i h = omega (arith, cond_yes (leb 0 i) ((i - 0) / 50 + 1) 0 (le→leb 0 i (omega arith)))
one_allowed (suc zero) i h = omega (arith, cond_yes (leb 0 i) ((i - 0) / 50 + 1) 0 (le→leb 0 i (omega arith)))
one_allowed (suc (suc k)) i h = absurd (omega arith)

keeps_boom : KeepsLimits boom (accepted boom_run)
unfolding KeepsLimit KeepsLimits
keeps_boom k h x i = omega (arith, one_post k x i h, one_allowed k i h)

-- what demand 3 says of it at clock 30, when both deadlines are reached
pub boom_in_time : AllLeave boom boom_run
unfolding Demand3
boom_in_time =
    subst (λ (r : Run). KeepsOpenLimits boom (accepted r) → AllLeave boom r)
    (run_alone boom boom_calls ∙ boom_run_lem) (demand_3 (alone boom) (starts_alone boom placed_boom (accepted_valid boom verdict_boom)) verdict_boom boom_calls) (limits_open boom (accepted boom_run) keeps_boom)
