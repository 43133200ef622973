-- The door in every run: 15 is given exactly when the post would break its stream's limit, and the accepted posts of a stream with a door keep it.
-- Assumes nothing.
use Prim.Native.Nat.{ℕ, ◌+◌, ◌<◌}
use mathlib.Core.Bool.{Bool, true, false, false≢true}
use mathlib.Core.List.{List, [], ◌∷◌, ◌++◌}
use mathlib.Core.Logic.{⊎_elim, ◌≢◌, ◌↔◌}
use mathlib.Core.Path.{◌≡◌, refl, ap, sym, subst, ◌∙◌}
use native.Mathlib.Omega.{arith}
use lib.ListN.{length, get_or, set, get_or-replicate}
use lib.Seq.{get_or-set_same, get_or-set_other}
use Rattle.laws.proofs.Gates.{eq_or_ne}
use Rattle.laws.proofs.Sums.{all_at, by_test}
use Rattle.rules.specs.declared.Set.{Set}
use Rattle.rules.specs.declared.Call.{Call}
use Rattle.rules.specs.declared.Call.TheVariants.{Posts, Units}
use Rattle.rules.specs.declared.Door.{Door}
use Rattle.rules.specs.declared.Door.TheVariants.{Unguarded, Single, Spaced}
use Rattle.rules.specs.declared.StartResult.{StartResult}
use Rattle.std.specs.Prelude.{Ok}
use Rattle.rules.specs.declared.PostResult.{PostResult}
use Rattle.rules.specs.declared.UnitResult.{UnitResult}
use Rattle.rules.specs.Streams.{Placed, FourPlaces, no_stream, stream_at, limit, valid}
use Rattle.rules.specs.Doors.{door_of, guarded, has_door, shut, wait_after, waits_later}
use Rattle.rules.specs.Parties.{owners_for}
use borrow.Author.Tests.{le-leb}
use Rattle.rules.specs.Steps.{fresh_for, start_for, post_of, unit_of, door_at, wait_at}
use Rattle.rules.specs.Runs.{Accepted, Run, accepted, accepted_of, new_post, after_post, after_unit, step_of, Start, Starts, begin_for, run_from, run_for, KeepsLimit, ComesEarly, DoorExact, DoorKeeps}
use Rattle.rules.proofs.Events.{accepted_more, accepted_same}
use Rattle.rules.proofs.Valid.{valid_set}
use Rattle.rules.proofs.Waits.{ValidDoor, later_at, door_valid}
use Rattle.promise_steps.specs.Formed.{Formed, StartGives, PostKeeps, UnitKeeps}
use Rattle.promise_steps.specs.Refusals.{Fifteen, DoorShut}
use Rattle.promise_steps.proofs.Valid.{stream_valid}
use Rattle.promise_steps.proofs.Cases.{PostCase, refuses, accepts, post_case, UnitCase, stops, idles, finishes, passes, cuts, runs, unit_case}
use Rattle.promise_steps.proofs.Kept.{post_keeps, unit_keeps}
use Rattle.promise_steps.proofs.Refusals.{fifteen}
use Rattle.promise_steps.proofs.Runs.{start_gives}
use Rattle.promise_doors.proofs.Limits.{Allows, allows}
use Rattle.promise_doors.proofs.Held.{Seen, seen_start, seen_later, seen_other, seen_own, Over, Held, held_start, held_later, held_other, held_own, held_keeps, held_exact}

module _ (z : Start) (starts : Starts z) where
  abbrev S : Set
  S = z.set

  placed : Placed z.set
  placed = starts.boxed.set

  ok : valid z.set ≡ true
  ok = starts.valid_set

  -- ---- a stream of the set, by its number

  module _ (k : ℕ) (h : k < S.count) where
    k_in : k < 16
    k_in = omega (arith, (valid_set S ok).count)

    abbrev door : Door
    door = door_of (stream_at S k)

    fine : ValidDoor door
    fine = door_valid (stream_at S k) (stream_valid S placed ok k h)

    permits : (i : ℕ) → Allows door i (limit (stream_at S k) i)
    permits = allows (stream_at S k) (all_at FourPlaces S.streams k no_stream (omega (arith, k_in, placed.sixteen)) placed.four) (stream_valid S placed ok k h)

    -- what holds of its posts at a time, with a wait
    record Guards (now w : ℕ) (ps : List Accepted) : Type 0 where
      pub seen : Seen k now ps
      pub held : Held k door fine (limit (stream_at S k)) permits now w ps

  -- ---- of every stream, in a run

  record Guarding (r : Run) : Type 0 where
    pub set_is : r.state.set ≡ S
    pub formed : Formed r.state
    pub guards : (k : ℕ) (h : k < S.count) → Guards k h r.time (wait_at r.state k) (accepted r)

  -- ---- a post

  post_guards : (r : Run) (j : ℕ) → Guarding r → (p : PostResult) → Formed p.state → PostCase r.state j p → Guarding (after_post r j p.state p.answer)
  post_guards r j g p f (refuses why) = g
  post_guards r j g p f (accepts inside room free) = record {
    set_is = g.set_is;
    formed = f;
    guards = λ k h. rw (accepted_more r.events (new_post r j)) (⊎_elim
        (λ (q : j ≡ k). own k h q)
        (λ (q : j ≢ k). other k h q)
        (eq_or_ne j k));
  }
    where
      other : (k : ℕ) (h : k < S.count) → j ≢ k → Guards k h r.time (get_or (set r.state.waits j (wait_after (door_at r.state j) (wait_at r.state j))) k 0) (accepted r ++ (new_post r j ∷ []))
      other k h q =
          rw (get_or-set_other r.state.waits j k (wait_after (door_at r.state j) (wait_at r.state j)) 0 (λ z. q (sym z)))
          (record {
            seen = seen_other k r.time (accepted r) (length (accepted r)) j q (g.guards k h).seen;
            held = held_other k (limit (stream_at S k)) (door k h) (fine k h) (permits k h) r.time (wait_at r.state k) (accepted r) (length (accepted r)) j q (g.guards k h).held;
          })

      own : (k : ℕ) (h : k < S.count) → j ≡ k → Guards k h r.time (get_or (set r.state.waits j (wait_after (door_at r.state j) (wait_at r.state j))) k 0) (accepted r ++ (new_post r j ∷ []))
      own k h q =
          let shuts : shut (door k h) (wait_at r.state k) ≡ false = rw (q, g.set_is) at free in
          rw (q, get_or-set_same r.state.waits k (wait_after (door_at r.state k) (wait_at r.state k)) 0 (omega (arith, k_in k h, g.formed.housed.waits)), g.set_is)
          (record {
            seen = seen_own k r.time (accepted r) (length (accepted r)) (g.guards k h).seen;
            held = held_own k (limit (stream_at S k)) r.time (wait_at r.state k) (accepted r) (g.guards k h).seen (length (accepted r)) (door k h) (fine k h) (permits k h) shuts (g.guards k h).held;
          })

  -- ---- a unit that moves the clock

  moved : (r next : Run) → Guarding r → next.state.set ≡ r.state.set → Formed next.state → next.time ≡ r.time + 1
      → next.state.waits ≡ waits_later r.state.set.streams r.state.waits → accepted next ≡ accepted r → Guarding next
  moved r next g e f t w a = record {
    set_is = e ∙ g.set_is;
    formed = f;
    guards = λ k h. rw (t, w, a, g.set_is, later_at S.streams r.state.waits k) (record {
      seen = seen_later k r.time (accepted r) (g.guards k h).seen;
      held = held_later k (limit (stream_at S k)) (door k h) (fine k h) (permits k h) r.time (wait_at r.state k) (accepted r) (g.guards k h).held;
    });
  }

  unit_guards : (r : Run) (done : Bool) → Guarding r → (u : UnitResult) → Formed u.state → UnitCase r.state done u → Guarding (after_unit r u.state u.answer)
  unit_guards r done g u f (stops why) = g
  unit_guards r done g u f (idles e h) = moved r _ g refl f refl refl refl
  unit_guards r done g u f (finishes v e) = moved r _ g refl f refl refl (accepted_same r.events _)
  unit_guards r done g u f (passes v e) = moved r _ g refl f refl refl refl
  unit_guards r done g u f (cuts v e) = moved r _ g refl f refl refl (accepted_same r.events _)
  unit_guards r done g u f (runs v e) = moved r _ g refl f refl refl refl

  -- ---- a run

  call_guards : (r : Run) (c : Call) → Guarding r → Guarding (step_of r c)
  unfolding step_of PostKeeps UnitKeeps
  call_guards r (Posts k) g = post_guards r k g (post_of r.state k) (post_keeps r.state k g.formed) (post_case r.state k)
  call_guards r (Units done) g = unit_guards r done g (unit_of r.state done) (unit_keeps r.state done g.formed) (unit_case r.state done)

  from_guards : (r : Run) (cs : List Call) → Guarding r → Guarding (run_from r cs)
  unfolding run_from
  from_guards r [] g = g
  from_guards r (c ∷ cs) g = from_guards (step_of r c) cs (call_guards r c g)

  start_is : start_for z.set z.owners z.places ≡ record { answer = Ok tt; state = fresh_for z.set (owners_for z.set.count z.owners) z.places }
  unfolding start_for
  start_is = rw (starts.valid_set, le-leb _ _ starts.few)

  begin_guards : Guarding (begin_for z)
  unfolding begin_for StartGives accepted_of
  begin_guards = record {
    set_is = ap (λ (q : StartResult). q.state.set) start_is;
    formed = start_gives z starts.boxed;
    guards = λ k h. rw (start_is, get_or-replicate {A = ℕ} 16 k 0 0 (k_in k h)) (record {
      seen = seen_start k;
      held = held_start k (limit (stream_at S k)) (door k h) (fine k h) (permits k h);
    });
  }

  run_guards : (calls : List Call) → Guarding (run_for z calls)
  unfolding run_for
  run_guards calls = from_guards (begin_for z) calls begin_guards

-- ---- the promises

pub door_keeps : DoorKeeps
unfolding DoorKeeps KeepsLimit
door_keeps z starts calls k h d x i =
    let g = (run_guards z starts calls).guards k h in
    held_keeps k (limit (stream_at z.set k)) (door z starts k h) (fine z starts k h) (permits z starts k h) (run_for z calls).time (wait_at (run_for z calls).state k) (accepted (run_for z calls)) d g.held x i

-- no door, never shut
unguarded_open : (d : Door) (w : ℕ) → guarded d ≡ false → shut d w ≡ false
unfolding guarded shut
unguarded_open Unguarded w e = refl
unguarded_open Single w e = absurd (false≢true (sym e))
unguarded_open (Spaced z a) w e = absurd (false≢true (sym e))

module _ (z : Start) (starts : Starts z) (calls : List Call) (k : ℕ) where
  abbrev r : Run
  r = run_for z calls

  all_guarded : Guarding z starts r
  all_guarded = run_guards z starts calls

  -- the door of a run's state is that of the set
  set_door : door_at r.state k ≡ door_of (stream_at z.set k)
  set_door = ap (λ (x : Set). door_of (stream_at x k)) all_guarded.set_is

  exact : (h : k < z.set.count) → has_door (stream_at z.set k) ≡ true
      → (shut (door_of (stream_at z.set k)) (wait_at r.state k) ≡ true) ↔ Over k (limit (stream_at z.set k)) (accepted r ++ (new_post r k ∷ []))
  exact h d =
      let g = all_guarded.guards k h in
      held_exact k (limit (stream_at z.set k)) r.time (wait_at r.state k) (accepted r) g.seen (length (accepted r)) (door z starts k h) (fine z starts k h) (permits z starts k h) d g.held

  early : DoorShut r.state k → ComesEarly z.set k r
  early q =
      let h : k < z.set.count = subst (λ (x : Set). k < x.count) all_guarded.set_is q.in_set in
      let c : shut (door_of (stream_at z.set k)) (wait_at r.state k) ≡ true = ap (λ (d : Door). shut d (wait_at r.state k)) (sym set_door) ∙ q.is_shut in
      let d : has_door (stream_at z.set k) ≡ true = by_test (has_door (stream_at z.set k)) (λ y. y) (λ y. absurd (false≢true (sym (unguarded_open (door_of (stream_at z.set k)) (wait_at r.state k) y) ∙ c))) in
      let o : Over k (limit (stream_at z.set k)) (accepted r ++ (new_post r k ∷ [])) = (exact h d).0 c in
      record { in_set = h; door = d; breaks = record { from = o.from; span = o.span; over = o.over } }

  at_shut_door : ComesEarly z.set k r → DoorShut r.state k
  at_shut_door q = record {
    formed = all_guarded.formed.formed;
    in_set = subst (λ (x : Set). k < x.count) (sym all_guarded.set_is) q.in_set;
    is_shut = ap (λ (d : Door). shut d (wait_at r.state k)) set_door ∙ (exact q.in_set q.door).1 (record { from = q.breaks.from; span = q.breaks.span; over = q.breaks.over });
  }

pub door_exact : DoorExact
unfolding DoorExact Fifteen
door_exact z starts calls k =
    (λ e. early z starts calls k ((fifteen (run_for z calls).state k).0 e), λ q. (fifteen (run_for z calls).state k).1 (at_shut_door z starts calls k q))
