-- What a unit does: what it is to do, what is answered, and how a message leaves or stays.
-- Assumes nothing.
use Prim.Native.Nat.{ℕ, ◌+◌, ◌-◌, ◌≤◌, ◌<◌}
use mathlib.Core.Bool.{Bool, true, false, false≢true}
use mathlib.Core.List.{List}
use mathlib.Core.Path.{◌≡◌, refl, ap, sym, ◌∙◌}
use native.Mathlib.Omega.{arith}
use borrow.Author.Tests.{lt-ltb, le-ltb, eq-eqb, ne_eqb}
use lib.Dec.{eqb}
use lib.ListN.{length, set, length-set}
use lib.Seq.{get_or-set_other}
use Rattle.laws.proofs.Parts.{remove_step, remove_rest}
use Rattle.laws.specs.Lists.{remove}
use Rattle.rules.specs.declared.State.{State}
use Rattle.rules.specs.declared.Refusal.TheVariants.{LastClock, NothingPending}
use Rattle.rules.specs.declared.UnitResult.{UnitResult}
use Rattle.std.specs.Prelude.{Ok, Err, Some, None}
use Rattle.rules.specs.declared.Outcome.{Outcome}
use Rattle.rules.specs.declared.Refusal.{Refusal}
use Rattle.rules.specs.declared.Outcome.TheVariants.{Idle}
use Rattle.rules.specs.Doors.{waits_later}
use Rattle.rules.specs.States.{no_message, with_waits, task_of, cost_of, last_clock, well_formed}
use Rattle.rules.specs.Steps.{message_at, place_of, ticked, stayed, departed, answered, at_last, served_of, empty_unit, unit_of}
use Rattle.state_formed.proofs.WellFormed.{well_formed_lem, in_range, unused_zero, stands, stage_place, message_stage}
use Rattle.state_choosing.specs.declared.Served.{Served}
use Rattle.state_choosing.specs.declared.Looked.{Looked}
use Rattle.state_choosing.specs.ToServe.{looked_of}
use Rattle.state_choosing.proofs.Choice.{place_in}
use Rattle.state_choosing.proofs.Looking.{looked_err, looked_ok, looked_none, looked_some}
use Rattle.scheduler.specs.Serving.{served_answer, departs, stepped_on}

-- ---- a message leaves, or stays

-- the state while messages move up behind the place i of the state `from`, and once they have
pub record Moving (from : State) (i : ℕ) (next : State) (k : ℕ) : Type 0 where
  pub set : next.set ≡ from.set
  pub clock : next.clock ≡ from.clock
  pub waits : next.waits ≡ from.waits
  pub owners : next.owners ≡ from.owners
  pub places : next.places ≡ from.places
  pub few : from.count ≤ 64
  pub here : k < from.count
  pub long : length next.messages ≡ 64
  pub moved : remove no_message k next.messages ≡ remove no_message i from.messages
  pub rest : (j : ℕ) → from.count ≤ j → message_at next j ≡ no_message

pub moving_go : (from : State) (i : ℕ) (next : State) (k : ℕ) → Moving from i next k → k < from.count - 1
    → Moving from i (record { set = next.set; clock = next.clock; count = next.count; messages = set next.messages k (message_at next (k + 1)); waits = next.waits; owners = next.owners; places = next.places }) (k + 1)
moving_go from i next k h q = record {
  set = h.set;
  clock = h.clock;
  waits = h.waits;
  owners = h.owners;
  places = h.places;
  few = h.few;
  here = omega arith;
  long = simp length-set h.long;
  moved = remove_step no_message k next.messages (omega (arith, h.long, h.few)) ∙ h.moved;
  rest = λ j g. get_or-set_other next.messages k j (message_at next (k + 1)) no_message (λ z. omega arith) ∙ h.rest j g;
}

-- only zeros stand behind the last one
pub moved_up : (from : State) (i : ℕ) (next : State) (k : ℕ) (a : Outcome) → Moving from i next k → from.count - 1 ≤ k
    → ◌≡◌ {A = UnitResult} (record { answer = Ok a; state = record { set = next.set; clock = next.clock; count = from.count - 1; messages = set next.messages (from.count - 1) no_message; waits = next.waits; owners = next.owners; places = next.places } })
    (record { answer = Ok a; state = record { set = from.set; clock = from.clock; count = from.count - 1; messages = remove no_message i from.messages; waits = from.waits; owners = from.owners; places = from.places } })
moved_up from i next k a h q =
    let e : k ≡ from.count - 1 = omega (arith, h.here) in
    let m : set next.messages (from.count - 1) no_message ≡ remove no_message i from.messages =
    rw (← e) (sym (remove_rest no_message k next.messages (λ j g. h.rest j (omega arith))) ∙ h.moved) in
    rw (h.set, h.clock, h.waits, h.owners, h.places, m)

module _ (s : State) (i task cost : ℕ) (done last : Bool) (e : task ≡ task_of s.set (message_at s i)) (e' : cost ≡ cost_of s.set (message_at s i)) (e'' : last ≡ at_last s.set (message_at s i))
    (a : Outcome) (q : a ≡ served_answer task (message_at s i) (s.clock + 1) done (eqb ((message_at s i).used + 1) cost) last) (ws : List ℕ) (later : ws ≡ waits_later s.set.streams s.waits) where
  leaves_if : (d z l : Bool) → done ≡ d → eqb ((message_at s i).used + 1) (cost_of s.set (message_at s i)) ≡ z → at_last s.set (message_at s i) ≡ l → departs d z l ≡ true
      → answered (departed s i) (Ok a) ≡ served_of s i done
  unfolding served_of served_answer
  leaves_if true z true f g k h = rw (q, e, e'', f, k)
  leaves_if true z false f g k h = absurd (false≢true h)
  leaves_if false true l f g k h = rw (q, e, e', f, g)
  leaves_if false false l f g k h = absurd (false≢true h)

  stays_if : (d z l : Bool) → done ≡ d → eqb ((message_at s i).used + 1) (cost_of s.set (message_at s i)) ≡ z → at_last s.set (message_at s i) ≡ l → departs d z l ≡ false
      → answered (stayed s i (stepped_on (message_at s i) done)) (Ok a) ≡ served_of s i done
  unfolding served_of served_answer stepped_on
  stays_if true z true f g k h = absurd (false≢true (sym h))
  stays_if true z false f g k h = rw (q, e, e'', f, k)
  stays_if false true l f g k h = absurd (false≢true (sym h))
  stays_if false false l f g k h = rw (q, e, e', f, g)

  pub leaves : departs done (eqb ((message_at s i).used + 1) cost) last ≡ true → answered (with_waits (departed s i) ws) (Ok a) ≡ served_of s i done
  leaves h = rw later (leaves_if done _ _ refl refl refl (rw (e', e'') at h))

  pub stays : departs done (eqb ((message_at s i).used + 1) cost) last ≡ false → answered (with_waits (stayed s i (stepped_on (message_at s i) done)) ws) (Ok a) ≡ served_of s i done
  stays h = rw later (stays_if done _ _ refl refl refl (rw (e', e'') at h))

-- what a unit of the message at i relies on
pub record Serving (s : State) (i t c : ℕ) (l : Bool) : Type 0 where
  pub here : i < s.count
  pub place : i < 64
  pub few : s.count ≤ 64
  pub rest : (j : ℕ) → s.count ≤ j → message_at s j ≡ no_message
  pub long : length s.messages ≡ 64
  pub used : (message_at s i).used < 65535
  pub stage : (message_at s i).stage < 4
  pub task : t ≡ task_of s.set (message_at s i)
  pub cost : c ≡ cost_of s.set (message_at s i)
  pub last : l ≡ at_last s.set (message_at s i)

-- whether it leaves, as the code tells it
pub leaves_done : (d z l r : Bool) → d ≡ true → r ≡ l → r ≡ departs d z l
leaves_done d z true r e f = rw (e, f)
leaves_done d z false r e f = rw (e, f)

pub leaves_spent : (d z l r : Bool) → d ≡ false → r ≡ z → r ≡ departs d z l
leaves_spent d z l r e f = rw (e, f)

-- ---- a unit that changes nothing, and one that only moves the clock

module _ (s : State) (done : Bool) where
  pub unit_12 : (f : Refusal) → Err f ≡ looked_of s → answered s (Err f) ≡ unit_of s done
  unfolding unit_of
  unit_12 f e = rw ((looked_err s f e).1, (looked_err s f e).0)

  module _ (r : Looked) (e : Ok r ≡ looked_of s) where
    formed : well_formed s ≡ true
    formed = (looked_ok s r e).0

    pub unit_3 : last_clock ≤ s.clock → answered s (Err LastClock) ≡ unit_of s done
    unfolding unit_of
    unit_3 h = rw (formed, le-ltb s.clock last_clock h)

    module _ (h : s.clock < last_clock) where
      pub unit_4 : r.served ≡ None → done ≡ true → answered s (Err NothingPending) ≡ unit_of s done
      unfolding unit_of empty_unit
      unit_4 q d = rw (formed, lt-ltb s.clock last_clock h, eq-eqb _ _ (looked_none s r e q), d)

      pub unit_idle : r.served ≡ None → done ≡ false → answered (with_waits (ticked s) r.later) (Ok Idle) ≡ unit_of s done
      unfolding unit_of empty_unit
      unit_idle q d = rw ((looked_ok s r e).2, formed, lt-ltb s.clock last_clock h, eq-eqb _ _ (looked_none s r e q), d)

      -- the message f is served
      module _ (f : Served) (q : r.served ≡ Some f) where
        place : f.place ≡ place_of s
        place = ap (λ (y : Served). y.place) (looked_some s r e f q).1

        pub unit_serves : served_of s f.place done ≡ unit_of s done
        unfolding unit_of
        unit_serves = rw (place, formed, lt-ltb s.clock last_clock h, ne_eqb _ _ (looked_some s r e f q).0)

        pub serving : length s.messages ≡ 64 → length s.set.streams ≡ 16 → Serving s f.place f.task f.cost f.last
        serving ms ss =
            let range = in_range s formed in
            let well = well_formed_lem s formed in
            let in_count : f.place < s.count = rw place (place_in s formed ms ss (looked_some s r e f q).0) in
            let told = (looked_some s r e f q).1 in
            record {
              here = in_count;
              place = omega (arith, well.few);
              few = well.few;
              rest = unused_zero s well;
              long = ms;
              used = omega (arith, (stands s range ms f.place in_count).1.used, (message_stage s range ms f.place in_count ss).cost.high);
              stage = stage_place s range ms f.place in_count ss;
              task = rw place (ap (λ (y : Served). y.task) told);
              cost = rw place (ap (λ (y : Served). y.cost) told);
              last = rw place (ap (λ (y : Served). y.last) told);
            }
