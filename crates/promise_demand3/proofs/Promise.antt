-- Demand 3, and what follows from it. Assumes nothing.
use Prim.Native.Nat.{ℕ, zero, suc, ◌+◌, ◌-◌, ◌≤◌, ◌<◌}
use mathlib.Core.Bool.{Bool, true, false, cond, false≢true}
use mathlib.Core.List.{List, [], ◌∷◌, ◌++◌, Memᴰ, append-nil, append_assoc}
use mathlib.Core.Path.{◌≡◌, refl, sym, ap, subst, ◌∙◌}
use native.Mathlib.Omega.{arith}
use borrow.Author.Tests.{lt-ltb}
use lib.ListN.{length, get_or}
use lib.Dec.{T, ltb, eqb, le→leb, ltb→lt}
use lib.IntN.{pos, negsuc}
use lib.Signed.{◌≤ℤ◌, le_z_yes}
use Rattle.std.specs.List.{list_any}
use Rattle.laws.specs.Lists.{sum, count}
use Rattle.laws.proofs.Sums.{by_test}
use Rattle.laws.proofs.Gates.{ifle, ifeq, Each, mem_get_d}
use Rattle.rules.specs.declared.Set.{Set}
use Rattle.rules.specs.declared.Stream.{Stream}
use Rattle.rules.specs.declared.Message.{Message}
use Rattle.rules.specs.declared.State.{State}
use Rattle.rules.specs.declared.UnitResult.{UnitResult}
use Rattle.rules.specs.declared.Verdict.TheVariants.{Accept}
use Rattle.rules.specs.Streams.{Placed, streams_of, stream_at, valid}
use Rattle.rules.specs.Doors.{has_door}
use Rattle.rules.specs.States.{no_message, pending}
use Rattle.rules.specs.Steps.{place_of, laxity_of, unit_of}
use Rattle.rules.specs.Load.{demand, VerdictIf, VerdictOf}
use Rattle.rules.specs.declared.Call.{Call}
use Rattle.rules.specs.Runs.{Accepted, Departure, Run, accepted, departures, step_of, Start, Starts, begin_for, run_from, run_for, KeepsLimits, KeepsOpenLimits, EachHasDoor, AllLeave, Demand3, AcceptIsEnough, DoorKeeps, overdue, missed_now, missed_from}
use Rattle.promise_deadlines.specs.Model.{Keeps, Fits, Left}
use Rattle.promise_deadlines.specs.Machine.{Moment, outset, Reached, NoneDue, AllLeft, runs, Following}
use Rattle.promise_deadlines.proofs.Identity.{once, named, gone}
use Rattle.promise_deadlines.proofs.Machines.{moment, later, never_due as never_due_at, all_left}
use Rattle.promise_demand3.specs.Kind.{paired, pending_of}
use Rattle.promise_demand3.specs.Statements.{NeverDue, NeverMissed, NeverMissedBehindDoors, NotLate, NoLateAnswer, EachOnce, left_as, waits_as}
use Rattle.promise_doors.proofs.Doors.{door_keeps}
use Rattle.promise_steps.proofs.Cases.{Serving, chosen_of, UnitCase, stops, idles, finishes, passes, cuts, runs as stays, unit_case}
use Rattle.promise_demand3.proofs.Pairing.{name, pair_in, Has}
use Rattle.promise_demand3.proofs.Base.{base, base_fits, base_keeps}
use Rattle.promise_demand3.proofs.Moments.{Good, all_numbered, moment_of}
use Rattle.promise_demand3.proofs.Serving.{words, chosen_is}
use Rattle.promise_demand3.proofs.Following.{lawful}

-- ---- an accepted set is valid, and demand fits in every length

verdict_valid : (b : Bool) (ss : List Stream) → VerdictIf b ss Accept → b ≡ true
verdict_valid true ss v = refl
verdict_valid false ss v = absurd (let z : ◌≡◌ {A = ℕ} 0 1 = cc in omega arith)

verdict_fits : (b : Bool) (ss : List Stream) → VerdictIf b ss Accept → (i : ℕ) → demand ss i ≤ i
verdict_fits true ss v = v.judged.fits
verdict_fits false ss v = absurd (let z : ◌≡◌ {A = ℕ} 0 1 = cc in omega arith)

pub accepted_valid : (S : Set) → VerdictOf S Accept → valid S ≡ true
unfolding VerdictOf
accepted_valid S v = verdict_valid (valid S) (streams_of S) v

accepted_fits : (S : Set) → VerdictOf S Accept → (i : ℕ) → demand (streams_of S) i ≤ i
unfolding VerdictOf
accepted_fits S v = verdict_fits (valid S) (streams_of S) v

-- ---- runs of calls

runs_from : (r : Run) (cs : List Call) → runs step_of r cs ≡ run_from r cs
unfolding runs run_from
runs_from r [] = refl
runs_from r (c ∷ cs) = runs_from (step_of r c) cs

from_append : (r : Run) (cs ds : List Call) → run_from r (cs ++ ds) ≡ run_from (run_from r cs) ds
unfolding run_from
from_append r [] ds = refl
from_append r (c ∷ cs) ds = from_append (step_of r c) cs ds

module _ (z : Start) (starts : Starts z) where
  -- the moment that the deadline argument has after these calls is that of the run
  abbrev reaches : (calls : List Call) → Following (base z.set starts.boxed.set starts.valid_set) (lawful z starts).Shows (outset (base z.set starts.boxed.set starts.valid_set)) (runs step_of (begin_for z) calls)
  reaches calls = moment (base z.set starts.boxed.set starts.valid_set) (begin_for z) step_of (lawful z starts) calls

  seen : (calls : List Call) → (reaches calls).to ≡ moment_of z.set starts.boxed.set starts.valid_set (run_for z calls)
  unfolding run_for lawful
  seen calls = (reaches calls).shown.seen ∙ ap (moment_of z.set starts.boxed.set starts.valid_set) (runs_from (begin_for z) calls)

  kept : (calls : List Call) → Good z.set starts.boxed.set starts.valid_set (run_for z calls)
  unfolding run_for lawful
  kept calls = subst (Good z.set starts.boxed.set starts.valid_set) (runs_from (begin_for z) calls) (reaches calls).shown.good

  reached : (calls : List Call) → Reached (base z.set starts.boxed.set starts.valid_set) (moment_of z.set starts.boxed.set starts.valid_set (run_for z calls))
  reached calls = subst (λ (q : Moment (base z.set starts.boxed.set starts.valid_set)). Reached (base z.set starts.boxed.set starts.valid_set) q) (seen calls) (reaches calls).next.reached

  -- the same after more calls
  abbrev further : (before more : List Call) → Following (base z.set starts.boxed.set starts.valid_set) (lawful z starts).Shows (reaches before).to (runs step_of (runs step_of (begin_for z) before) more)
  further before more = later (base z.set starts.boxed.set starts.valid_set) (begin_for z) step_of (lawful z starts) before more

  seen_further : (before more : List Call) → (further before more).to ≡ moment_of z.set starts.boxed.set starts.valid_set (run_for z (before ++ more))
  unfolding run_for lawful
  seen_further before more =
      (further before more).shown.seen
      ∙ ap (moment_of z.set starts.boxed.set starts.valid_set) (ap (λ (r : Run). runs step_of r more) (runs_from (begin_for z) before) ∙ runs_from (run_from (begin_for z) before) more ∙ sym (from_append (begin_for z) before more))

  -- demand 3 of the run, in the words of the deadline argument
  run_left : Fits (base z.set starts.boxed.set starts.valid_set) → (calls : List Call) → Keeps (base z.set starts.boxed.set starts.valid_set) (accepted (run_for z calls)) → AllLeft (base z.set starts.boxed.set starts.valid_set) (moment_of z.set starts.boxed.set starts.valid_set (run_for z calls))
  run_left fits calls = subst (λ (q : Moment (base z.set starts.boxed.set starts.valid_set)). Keeps (base z.set starts.boxed.set starts.valid_set) q.posts → AllLeft (base z.set starts.boxed.set starts.valid_set) q) (seen calls)
      (all_left (base z.set starts.boxed.set starts.valid_set) (begin_for z) step_of (lawful z starts) fits calls)

  run_none_due : Fits (base z.set starts.boxed.set starts.valid_set) → (before more : List Call) → Keeps (base z.set starts.boxed.set starts.valid_set) (accepted (run_for z (before ++ more))) → NoneDue (base z.set starts.boxed.set starts.valid_set) (moment_of z.set starts.boxed.set starts.valid_set (run_for z before))
  run_none_due fits before more keeps = subst (λ (q : Moment (base z.set starts.boxed.set starts.valid_set)). NoneDue (base z.set starts.boxed.set starts.valid_set) q) (seen before)
      (never_due_at (base z.set starts.boxed.set starts.valid_set) (begin_for z) step_of (lawful z starts) fits before more (subst (λ (q : Moment (base z.set starts.boxed.set starts.valid_set)). Keeps (base z.set starts.boxed.set starts.valid_set) q.posts) (sym (seen_further before more)) keeps))

  -- and of its messages without their numbers
  not_due : Fits (base z.set starts.boxed.set starts.valid_set) → (before more : List Call) → Keeps (base z.set starts.boxed.set starts.valid_set) (accepted (run_for z (before ++ more))) → Each (λ m. (run_for z before).state.clock < m.deadline) (pending (run_for z before).state)
  not_due fits before more keeps m i =
      let h : Has (pending_of (run_for z before)) m = pair_in (run_for z before).names (pending (run_for z before).state) (all_numbered z.set starts.boxed.set starts.valid_set (run_for z before) (kept before)) i in
      omega (arith, run_none_due fits before more keeps (name h.number m) h.here, (kept before).timed)

-- ---- DEMAND 3. A late message already started by a task that an urgent one also needs is covered by the blocking that demand counts:
-- `account_blocked` of promise_deadlines/proofs/Account.antt charges its units to the task.

-- the streams with a door keep their limits by themselves
all_keep : (z : Start) → Starts z → (calls : List Call) → KeepsOpenLimits z.set (accepted (run_for z calls)) → KeepsLimits z.set (accepted (run_for z calls))
unfolding KeepsOpenLimits KeepsLimits DoorKeeps
all_keep z starts calls keeps k h = by_test (has_door (stream_at z.set k)) (λ d. door_keeps z starts calls k h d) (λ d. keeps k h d)

-- a run that keeps every limit keeps those of the streams without a door
pub limits_open : (S : Set) (ps : List Accepted) → KeepsLimits S ps → KeepsOpenLimits S ps
unfolding KeepsOpenLimits KeepsLimits
limits_open S ps keeps k h d = keeps k h

pub demand_3 : Demand3
unfolding Demand3 AllLeave
demand_3 z starts v calls keeps p i reached = (
  out.departure,
  out.departure_in,
  record {
    same = out.named ∙ out.of.named;
    stream = out.told.stream ∙ out.of.to;
    cost = out.told.cost;
    time = omega (arith, out.in_time, out.of.until);
  },
)
  where
    out : Left (base z.set starts.boxed.set starts.valid_set) (departures (run_for z calls)) p
    out = run_left z starts (base_fits z.set starts.boxed.set starts.valid_set (accepted_fits z.set v)) calls (base_keeps z.set starts.boxed.set starts.valid_set (accepted (run_for z calls)) (all_keep z starts calls keeps)) p i reached

-- "the yard's acceptance": where every stream has a door, it speaks of all calls
no_condition : (S : Set) (ps : List Accepted) → EachHasDoor S → KeepsOpenLimits S ps
unfolding EachHasDoor KeepsOpenLimits
no_condition S ps doors k h d = absurd (false≢true (sym d ∙ doors k h))

pub accept_is_enough : AcceptIsEnough
unfolding AcceptIsEnough Demand3
accept_is_enough z starts v doors calls = demand_3 z starts v calls (no_condition z.set (accepted (run_for z calls)) doors)

-- ---- what follows

pub never_due : NeverDue
unfolding NeverDue
never_due z starts v before more keeps =
    not_due z starts (base_fits z.set starts.boxed.set starts.valid_set (accepted_fits z.set v)) before more (base_keeps z.set starts.boxed.set starts.valid_set (accepted (run_for z (before ++ more))) (all_keep z starts (before ++ more) keeps))

-- a run's moments, one after the other

step_last : (z : Start) (calls : List Call) (c : Call) → run_for z (calls ++ (c ∷ [])) ≡ step_of (run_for z calls) c
unfolding run_for run_from
step_last z calls c = from_append (begin_for z) calls (c ∷ [])

none_overdue : (clock : ℕ) (l : List Message) → Each (λ m. clock < m.deadline) l → list_any (overdue clock) l ≡ false
none_overdue clock [] h = refl
none_overdue clock (m ∷ l) h = rw (lt-ltb clock m.deadline (h m (Memᴰ.head refl))) (none_overdue clock l (λ x i. h x (Memᴰ.tail i)))

not_missed : (z : Start) → Starts z → VerdictOf z.set Accept → (before more : List Call) → KeepsOpenLimits z.set (accepted (run_for z (before ++ more))) → missed_from (run_for z before) more ≡ false
unfolding missed_from missed_now NeverDue
not_missed z starts v before [] keeps = none_overdue (run_for z before).state.clock (pending (run_for z before).state) (never_due z starts v before [] keeps)
not_missed z starts v before (c ∷ more) keeps =
    rw (none_overdue (run_for z before).state.clock (pending (run_for z before).state) (never_due z starts v before (c ∷ more) keeps))
    (subst (λ (r : Run). missed_from r more ≡ false) (step_last z before c) (not_missed z starts v (before ++ (c ∷ [])) more (rw append_assoc keeps)))

pub never_missed : NeverMissed
unfolding NeverMissed run_for run_from
never_missed z starts v calls keeps = not_missed z starts v [] calls keeps

pub never_missed_behind_doors : NeverMissedBehindDoors
unfolding NeverMissedBehindDoors NeverMissed
never_missed_behind_doors z starts v doors calls = never_missed z starts v calls (no_condition z.set (accepted (run_for z calls)) doors)

-- the laxity is what is left until the deadline, where that is not past
laxity_left : (deadline clock : ℕ) → clock ≤ deadline → pos 0 ≤ℤ laxity_of deadline clock
unfolding laxity_of
laxity_left d zero h = le_z_yes (le→leb 0 (d + 0) (omega arith))
laxity_left d (suc c) h = go (ltb d (suc c)) (ltb→lt d (suc c))
  where
    go : (b : Bool) → (T b → d < suc c) → pos 0 ≤ℤ cond b (negsuc (suc c - suc d)) (pos (d - suc c))
    go true f = absurd (omega (arith, f tt))
    go false f = le_z_yes (le→leb 0 (d - suc c) (omega arith))

not_late : (s : State) (done : Bool) → (Serving s → s.clock + 1 ≤ (chosen_of s).deadline) → (u : UnitResult) → UnitCase s done u → NotLate u.answer
not_late s done h u (stops why) = tt
not_late s done h u (idles e c) = tt
not_late s done h u (finishes v e) = laxity_left (chosen_of s).deadline (s.clock + 1) (h v)
not_late s done h u (passes v e) = tt
not_late s done h u (cuts v e) = laxity_left (chosen_of s).deadline (s.clock + 1) (h v)
not_late s done h u (stays v e) = tt

pub no_late_answer : NoLateAnswer
unfolding NoLateAnswer NeverDue
no_late_answer z starts v calls keeps done = not_late r.state done early (unit_of r.state done) (unit_case r.state done)
  where
    r : Run
    r = run_for z calls

    keeps_still : KeepsOpenLimits z.set (accepted (run_for z (calls ++ [])))
    keeps_still = rw append-nil keeps

    early : Serving r.state → r.state.clock + 1 ≤ (chosen_of r.state).deadline
    early w = omega (
      arith,
      never_due z starts v calls [] keeps_still
          (get_or (pending r.state) (place_of r.state) no_message)
          (mem_get_d (pending r.state) (place_of r.state) no_message (words z.set starts.boxed.set starts.valid_set r (kept z starts calls) (reached z starts calls) w).inside),
      ap (λ (m : Message). m.deadline) (chosen_is z.set starts.boxed.set starts.valid_set r (kept z starts calls) (reached z starts calls) w),
    )

-- ---- each number once

waiting : (S : Set) (placed : Placed S) (ok : valid S ≡ true) (n : ℕ) (ns : List ℕ) (ms : List Message) → length ns ≡ length ms → sum (named (base S placed ok) n) (paired ns ms) ≡ count (waits_as n) ns
unfolding paired count sum named ifeq
waiting S placed ok n [] ms e = refl
waiting S placed ok n (k ∷ ns) [] e = absurd (omega arith)
waiting S placed ok n (k ∷ ns) (m ∷ ms) e = ap (λ (q : ℕ). cond (eqb k n) 1 0 + q) (waiting S placed ok n ns ms (omega arith))

leaving : (S : Set) (placed : Placed S) (ok : valid S ≡ true) (n : ℕ) (ds : List Departure) → sum (gone (base S placed ok) n) ds ≡ count (left_as n) ds
unfolding count gone ifeq
leaving S placed ok n ds = refl

pub each_once : EachOnce
unfolding EachOnce ifle
each_once z starts calls n = omega (
  arith,
  once (base z.set starts.boxed.set starts.valid_set) (reached z starts calls) n,
  waiting z.set starts.boxed.set starts.valid_set n (run_for z calls).names (pending (run_for z calls).state) (all_numbered z.set starts.boxed.set starts.valid_set (run_for z calls) (kept z starts calls)),
  leaving z.set starts.boxed.set starts.valid_set n (departures (run_for z calls)),
)
