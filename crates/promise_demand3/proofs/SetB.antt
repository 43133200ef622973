-- Demand 3 is not empty: document 01's trace of set B meets its conditions, and every stream of it has a door. In it the late message of stream 1 has started on task 0 when the urgent one of stream 0
-- comes to the same task; it runs on, which the blocking of task 0 covers, and the urgent one leaves at its very deadline.
-- Assumes nothing.
use Prim.Native.Nat.{ℕ, zero, suc}
use mathlib.Core.Path.{◌≡◌, refl, subst, ◌∙◌}
use native.Mathlib.Omega.{arith}
use lib.ListN.{length}
use Rattle.rules.specs.declared.Stream.{Stream}
use Rattle.rules.specs.declared.Verdict.{Verdict}
use Rattle.rules.specs.declared.Verdict.TheVariants.{Accept, Late, Overload, Refused}
use Rattle.rules.specs.Streams.{Placed, FourPlaces, no_stream}
use Rattle.rules.specs.Load.{VerdictOf}
use Rattle.rules.specs.Numbers.{verdict_says, accept}
use Rattle.rules.specs.Runs.{alone, EachHasDoor, AllLeave, AcceptIsEnough}
use Rattle.rules.proofs.Examples.{set_b, computed}
use Rattle.rules.proofs.Yard.{Judges, yard_true}
use Rattle.rules.proofs.Runs.{long_b, run_b, set_b_long}
use Rattle.promise_steps.proofs.Runs.{all_same}
use Rattle.promise_demand3.proofs.Promise.{accepted_valid, accept_is_enough}
use Rattle.rules.proofs.Parties.{run_alone, starts_alone}

-- set B is accepted, by the yard's table
pub accept_is : (v : Verdict) → verdict_says v ≡ accept → v ≡ Accept
accept_is Accept e = refl
accept_is (Late i w) e = absurd (let z : ◌≡◌ {A = ℕ} 0 1 = cc in omega arith)
accept_is Overload e = absurd (let z : ◌≡◌ {A = ℕ} 0 1 = cc in omega arith)
accept_is (Refused why) e = absurd (let z : ◌≡◌ {A = ℕ} 0 1 = cc in omega arith)

verdict_b : VerdictOf set_b Accept
verdict_b = let j : Judges set_b accept = yard_true.1.1.0 in subst (VerdictOf set_b) (accept_is j.given j.in_words) j.is_verdict

pub places : {s : Stream} → length s.stages ≡ 4 → length s.tuples ≡ 4 → FourPlaces s
places a b = record { stages = a; tuples = b }

placed_b : Placed set_b
placed_b = record { sixteen = refl; four = (places refl refl, (places refl refl, (places refl refl, all_same FourPlaces no_stream (places refl refl) 13))) }

-- each of its streams has a door: nothing is asked of the calls
doors_b : EachHasDoor set_b
unfolding EachHasDoor computed
doors_b zero h = refl
doors_b (suc zero) h = refl
doors_b (suc (suc zero)) h = refl
doors_b (suc (suc (suc k))) h = absurd (omega arith)

-- what demand 3 says of it at clock 20, when all three deadlines are reached
pub set_b_in_time : AllLeave set_b (run_b 20)
unfolding AcceptIsEnough
set_b_in_time = subst (AllLeave set_b) (run_alone set_b long_b ∙ set_b_long) (accept_is_enough (alone set_b) (starts_alone set_b placed_b (accepted_valid set_b verdict_b)) verdict_b doors_b long_b)
