-- Start gives a well formed state, post and unit keep one, so every state that calls from a start can leave is well formed; and 12 is given exactly for one that is not.
-- Assumes nothing.
use Prim.Native.Nat.{ℕ, suc, ◌+◌, ◌-◌, ◌≤◌, ◌<◌}
use mathlib.Core.Bool.{Bool, true, false}
use mathlib.Core.List.{List, [], ◌∷◌, ◌++◌}
use mathlib.Core.Logic.{◌≢◌, ⊎_elim}
use mathlib.Core.Path.{◌≡◌, refl, sym, ap, subst, ◌∙◌}
use native.Mathlib.Numerals.{add-one}
use native.Mathlib.Omega.{arith}
use lib.ListN.{length, take, drop, length-set}
use lib.Seq.{split_at, drop-set-lt}
use Rattle.std.specs.List.{list_all}
use Rattle.laws.specs.Lists.{below, remove}
use Rattle.laws.proofs.Parts.{length_remove}
use Rattle.laws.proofs.Gates.{eq_or_ne, Each, PlacedAt, mem_at, all_drop, all_last, drop_remove}
use Rattle.rules.specs.declared.Message.{Message}
use Rattle.rules.specs.declared.State.{State}
use Rattle.rules.specs.declared.PostResult.{PostResult}
use Rattle.rules.specs.declared.UnitResult.{UnitResult}
use Rattle.rules.specs.Streams.{Placed}
use Rattle.rules.specs.States.{no_message, pending, party_of, held_by, stages_in, task_of, cost_of, message_unused, wait_ok, last_clock, Housed}
use Rattle.rules.specs.Doors.{shut, waits_later}
use Rattle.rules.specs.Steps.{door_at, wait_at, new_message, added, post_of, place_of, turn_of, ticked, gained, passed_on, stayed, departed, unit_of}
use Rattle.rules.proofs.Valid.{valid_set}
use Rattle.rules.proofs.Waits.{later_length}
use Rattle.rules.proofs.Parties.{same_is}
use Rattle.laws.proofs.Sums.{by_test}
use Rattle.rules.specs.declared.Party.{Party}
use Rattle.rules.specs.declared.Party.TheVariants.{Ours, Theirs}
use Rattle.rules.specs.Parties.{owns, places_of}
use Rattle.state_formed.proofs.Standing.{Standing}
use Rattle.state_formed.proofs.WellFormed.{WellFormed, well_formed_lem, well_formed_back, place_room}
use Rattle.state_choosing.specs.Words.{at, Served}
use Rattle.state_choosing.proofs.Choice.{choice, place_in}
use Rattle.promise_steps.specs.Formed.{Formed, PostKeeps, UnitKeeps}
use Rattle.promise_steps.proofs.Valid.{stream_valid, stage_cost_lem}
use Rattle.promise_steps.proofs.Cases.{PostCase, refuses, accepts, post_case, Serving, chosen_of, UnitCase, stops, idles, finishes, passes, cuts, runs, unit_case, pending_added, message_is, pending_stayed, pending_departed}
use Rattle.promise_steps.proofs.Pending.{one, held_added, held_stayed, held_departed}
use Rattle.promise_steps.proofs.Rows.{Rows, rows, rows_ok, rows_last, rows_later, Instead, rows_put, rows_leave, row_at}
use Rattle.promise_steps.proofs.Waits.{waits, waits_ok, waits_after, waits_later_lem}
use Rattle.promise_steps.proofs.Started.{Once, once, once_ok, once_last, once_unstarted, once_gain, once_leave}

module _ (s : State) (f : Formed s) where
  w : WellFormed s
  w = well_formed_lem s f.formed

  housed_as : (n : State) → n.set ≡ s.set → n.owners ≡ s.owners → length n.messages ≡ 64 → length n.waits ≡ 16 → Housed n
  housed_as n e o h g = record { set = subst Placed (sym e) f.housed.set; places = h; waits = g; owners = ap (λ (l : List Party). length l) o ∙ f.housed.owners }

  -- a unit leaves as many waits, which keep their rules
  still_sixteen : length (waits_later s.set.streams s.waits) ≡ 16
  still_sixteen = later_length s.set.streams s.waits ∙ f.housed.waits

  still_waits : list_all (wait_ok s.set (waits_later s.set.streams s.waits)) (below 16) ≡ true
  still_waits = waits_ok s.set _ (waits_later_lem s.set s.waits (waits s.set s.waits w.waits))

  -- what each party may have pending
  pub fit : (p : Party) → held_by s p ≤ places_of s.places p
  fit Ours = w.ours_fit
  fit Theirs = w.theirs_fit

  -- ---- a post

  new_stands : (k : ℕ) → k < s.set.count → (c : ℕ) → c ≤ s.clock → Standing s.set s.clock c (new_message s k)
  new_stands k h c q = record {
    stream = h;
    stage = (stream_valid s.set f.housed.set w.set k h).depth.low;
    used = stage_cost_lem s.set f.housed.set w.set k h 0 (stream_valid s.set f.housed.set w.set k h).depth.low;
    early = omega arith;
    late = omega arith;
    order = omega arith;
  }

  -- the new message is its owner's, who has a place for it
  post_fits : (k : ℕ) → s.count < 64 → held_by s (party_of s k) < places_of s.places (party_of s k) → (p : Party) → held_by (added s (new_message s k)) p ≤ places_of s.places p
  post_fits k room left p =
      let e : held_by (added s (new_message s k)) p ≡ held_by s p + one (owns s.owners p) k = held_added (owns s.owners p) s f.housed.places k room in
      by_test (owns s.owners p k)
      (λ t.
      let q : party_of s k ≡ p = same_is (party_of s k) p t in
      let z : one (owns s.owners p) k ≡ 1 = rw t in
      let l : held_by s p < places_of s.places p = subst (λ (x : Party). held_by s x < places_of s.places x) q left in
      omega (arith, e, z, l))
      (λ t. let z : one (owns s.owners p) k ≡ 0 = rw t in omega (arith, e, z, fit p))

  post_formed : (k : ℕ) → k < s.set.count → held_by s (party_of s k) < places_of s.places (party_of s k) → shut (door_at s k) (wait_at s k) ≡ false → Formed (added s (new_message s k))
  post_formed k h left free = let room = place_room s w f.housed.places (party_of s k) left in record {
    formed = well_formed_back (added s (new_message s k)) (record {
      set = w.set;
      few = omega arith;
      clock = w.clock;
      each = rw (pending_added s f.housed.places (new_message s k) room) (rows_ok s.set s.clock (pending s ++ (new_message s k ∷ []))
          (rows_last s.set s.clock 0 (pending s) (new_message s k) (omega arith) (new_stands k h) (rows s.set s.clock (pending s) w.each)));
      once = rw (pending_added s f.housed.places (new_message s k) room) (once_ok s.set (pending s ++ (new_message s k ∷ []))
          (once_last s.set (pending s) (new_message s k) refl (once s.set (pending s) w.once)));
      unused = rw (add-one, drop-set-lt (suc s.count) s.messages s.count (new_message s k) (omega arith)) (all_drop message_unused s.count s.messages w.unused);
      waits = waits_ok s.set _ (waits_after s.set s.waits k f.housed.waits (omega (arith, (valid_set s.set w.set).count)) free (waits s.set s.waits w.waits));
      together_fit = w.together_fit;
      rest_ours = w.rest_ours;
      ours_fit = post_fits k room left Ours;
      theirs_fit = post_fits k room left Theirs;
    });
    housed = housed_as (added s (new_message s k)) refl refl (length-set s.messages s.count (new_message s k) ∙ f.housed.places) (length-set s.waits k _ ∙ f.housed.waits);
  }

  -- ---- an idle unit

  idle_formed : s.clock < last_clock → Formed (ticked s)
  idle_formed early = record {
    formed = well_formed_back (ticked s) (record {
      set = w.set;
      few = w.few;
      clock = omega arith;
      each = rows_ok s.set (s.clock + 1) (pending s) (rows_later s.set s.clock 0 (pending s) (rows s.set s.clock (pending s) w.each));
      once = w.once;
      unused = w.unused;
      waits = still_waits;
      together_fit = w.together_fit;
      rest_ours = w.rest_ours;
      ours_fit = w.ours_fit;
      theirs_fit = w.theirs_fit;
    });
    housed = housed_as (ticked s) refl refl f.housed.places still_sixteen;
  }

  -- ---- a unit that serves the chosen message

  module _ (v : Serving s) where
    words : Served (turn_of s) s.set (pending s) (place_of s)
    words = choice s f.formed f.housed.places f.housed.set.sixteen v.some

    low : place_of s < s.count
    low = place_in s f.formed f.housed.places f.housed.set.sixteen v.some

    x : Message
    x = at (pending s) (place_of s)

    front : List Message
    front = take (place_of s) (pending s)

    rear : List Message
    rear = drop (suc (place_of s)) (pending s)

    split : pending s ≡ front ++ (x ∷ rear)
    unfolding front rear x
    split = split_at (pending s) (place_of s) no_message words.inside

    rows_now : Rows s.set (s.clock + 1) 0 (front ++ (x ∷ rear))
    rows_now = subst (λ (l : List Message). Rows s.set (s.clock + 1) 0 l) split (rows_later s.set s.clock 0 (pending s) (rows s.set s.clock (pending s) w.each))

    once_now : Once s.set (front ++ (x ∷ rear))
    once_now = subst (λ (l : List Message). Once s.set l) split (once s.set (pending s) w.once)

    -- where the chosen message has not started, no message of its task has
    none_started : x.used ≡ 0 → Each (λ y. task_of s.set y ≡ task_of s.set x → y.used ≡ 0) (front ++ (x ∷ rear))
    unfolding x
    none_started e = subst (λ (l : List Message). Each (λ y. task_of s.set y ≡ task_of s.set x → y.used ≡ 0) l) split (λ y i q. unstarted y q (mem_at (pending s) no_message i))
      where
        unstarted : (y : Message) → task_of s.set y ≡ task_of s.set x → PlacedAt (pending s) no_message y → y.used ≡ 0
        unstarted y q p = ⊎_elim
            (λ (z : y.used ≡ 0). z)
            (λ (z : y.used ≢ 0). absurd (omega (
              arith,
              words.started p.place p.inside (ap (task_of s.set) p.there ∙ q) (omega (arith, ap (λ (m : Message). m.used) p.there)),
            )))
            (eq_or_ne y.used 0)

    chosen_is : chosen_of s ≡ x
    unfolding x
    chosen_is = message_is s f.housed.places (place_of s) low

    x_stands : (c : ℕ) × Standing s.set (s.clock + 1) c x
    x_stands = row_at s.set (s.clock + 1) 0 front x rear rows_now

    -- a message that stays is the same party's, and one that leaves is one less of its party's
    stay_fits : (n : Message) → n.stream ≡ x.stream → (p : Party) → held_by (stayed s (place_of s) n) p ≤ places_of s.places p
    stay_fits n e p = omega (arith, fit p, held_stayed (owns s.owners p) s f.housed.places (place_of s) w.few low n (e ∙ ap (λ (m : Message). m.stream) (sym chosen_is)))

    leave_fits : (p : Party) → held_by (departed s (place_of s)) p ≤ places_of s.places p
    leave_fits p = omega (arith, fit p, held_departed (owns s.owners p) s f.housed.places (place_of s) w.few low)

    -- what stays in its place, of the same stream and deadline
    stay_formed : (n : Message) → Instead s.set x n → Once s.set (front ++ (n ∷ rear)) → Formed (stayed s (place_of s) n)
    unfolding front rear
    stay_formed n h o = record {
      formed = well_formed_back (stayed s (place_of s) n) (record {
        set = w.set;
        few = w.few;
        clock = omega (arith, v.early);
        each = rw (pending_stayed s f.housed.places (place_of s) n w.few low) (rows_ok s.set (s.clock + 1) (front ++ (n ∷ rear))
            (rows_put s.set (s.clock + 1) 0 front x n rear h rows_now));
        once = rw (pending_stayed s f.housed.places (place_of s) n w.few low) (once_ok s.set (front ++ (n ∷ rear)) o);
        unused = rw (drop-set-lt s.count s.messages (place_of s) n low) w.unused;
        waits = still_waits;
        together_fit = w.together_fit;
        rest_ours = w.rest_ours;
        ours_fit = stay_fits n h.stream Ours;
        theirs_fit = stay_fits n h.stream Theirs;
      });
      housed = housed_as (stayed s (place_of s) n) refl refl (length-set s.messages (place_of s) n ∙ f.housed.places) still_sixteen;
    }

    -- with a unit more, and less than its cost used
    gain_formed : (chosen_of s).used + 1 ≢ cost_of s.set (chosen_of s) → Formed (stayed s (place_of s) (gained (chosen_of s)))
    gain_formed short = rw chosen_is
        (stay_formed (gained x)
        (record { stream = refl; deadline = refl; stage = x_stands.1.stage; used = let q : x.used + 1 ≢ cost_of s.set x = rw chosen_is at short in omega (arith, x_stands.1.used) })
        (once_gain s.set front x rear none_started once_now))

    -- in its next stage, with no unit used
    next_stage_lem : x.stage + 1 ≢ stages_in s.set x → x.stage + 1 < stages_in s.set x
    next_stage_lem e = omega (arith, x_stands.1.stage)

    pass_formed : (chosen_of s).stage + 1 ≢ stages_in s.set (chosen_of s) → Formed (stayed s (place_of s) (passed_on (chosen_of s)))
    pass_formed more = rw chosen_is
        (stay_formed (passed_on x)
        (record {
          stream = refl;
          deadline = refl;
          stage = next_stage_lem (rw chosen_is at more);
          used = stage_cost_lem s.set f.housed.set w.set x.stream x_stands.1.stream (x.stage + 1) (next_stage_lem (rw chosen_is at more));
        })
        (once_unstarted s.set front x (passed_on x) rear refl once_now))

    unused_left : list_all message_unused (drop (s.count - 1) (remove no_message (place_of s) s.messages)) ≡ true
    unfolding message_unused
    unused_left =
        ap (list_all message_unused) (drop_remove no_message (place_of s) (s.count - 1) s.messages (omega (arith, low)) (omega (arith, low, w.few, f.housed.places)))
        ∙ ap (λ (n : ℕ). list_all message_unused (drop n s.messages ++ (no_message ∷ []))) (let e : suc (s.count - 1) ≡ s.count = omega (arith, low) in e)
        ∙ all_last message_unused (drop s.count s.messages) no_message w.unused refl

    leave_formed : Formed (departed s (place_of s))
    unfolding front rear
    leave_formed = record {
      formed = well_formed_back (departed s (place_of s)) (record {
        set = w.set;
        few = omega (arith, w.few);
        clock = omega (arith, v.early);
        each = rw (pending_departed s f.housed.places (place_of s) w.few low) (rows_ok s.set (s.clock + 1) (front ++ rear) (rows_leave s.set (s.clock + 1) 0 front x rear rows_now));
        once = rw (pending_departed s f.housed.places (place_of s) w.few low) (once_ok s.set (front ++ rear) (once_leave s.set front x rear once_now));
        unused = unused_left;
        waits = still_waits;
        together_fit = w.together_fit;
        rest_ours = w.rest_ours;
        ours_fit = leave_fits Ours;
        theirs_fit = leave_fits Theirs;
      });
      housed = housed_as (departed s (place_of s)) refl refl (length_remove no_message (place_of s) s.messages ∙ f.housed.places) still_sixteen;
    }

-- ---- the steps

post_by : (s : State) (k : ℕ) → Formed s → (p : PostResult) → PostCase s k p → Formed p.state
post_by s k f p (refuses why) = f
post_by s k f p (accepts h room free) = post_formed s f k h room free

pub post_keeps : PostKeeps
unfolding PostKeeps
post_keeps s k f = post_by s k f (post_of s k) (post_case s k)

unit_by_lem : (s : State) (done : Bool) → Formed s → (u : UnitResult) → UnitCase s done u → Formed u.state
unit_by_lem s done f u (stops why) = f
unit_by_lem s done f u (idles e early) = idle_formed s f early
unit_by_lem s done f u (finishes v e) = leave_formed s f v
unit_by_lem s done f u (passes v e) = pass_formed s f v e
unit_by_lem s done f u (cuts v e) = leave_formed s f v
unit_by_lem s done f u (runs v e) = gain_formed s f v e

pub unit_keeps : UnitKeeps
unfolding UnitKeeps
unit_keeps s done f = unit_by_lem s done f (unit_of s done) (unit_case s done)
