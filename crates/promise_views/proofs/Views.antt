-- The answers to a party's posts follow from what it sees of a run: in every run they are those that its ledger tells. Assumes nothing.
use Prim.Native.Nat.{ℕ, ◌+◌, ◌≤◌, ◌<◌}
use mathlib.Core.Bool.{Bool, true, false, cond, false≢true}
use mathlib.Core.List.{List, [], ◌∷◌, ◌++◌}
use mathlib.Core.Logic.{⊎_elim, ◌≢◌}
use mathlib.Core.Path.{◌≡◌, refl, ap, sym, subst, ◌∙◌}
use native.Mathlib.Omega.{arith}
use borrow.Author.Tests.{ne_eqb}
use lib.ListN.{length, length-append}
use Rattle.laws.specs.Lists.{sum, count}
use Rattle.laws.proofs.Gates.{le_or_lt, sum_last}
use Rattle.laws.proofs.Sums.{by_test}
use Rattle.rules.specs.declared.Message.{Message}
use Rattle.rules.specs.declared.Set.{Set}
use Rattle.rules.specs.declared.State.{State}
use Rattle.rules.specs.declared.Call.{Call}
use Rattle.rules.specs.declared.Call.TheVariants.{Posts, Units}
use Rattle.rules.specs.declared.PostResult.{PostResult}
use Rattle.rules.specs.declared.UnitResult.{UnitResult}
use Rattle.rules.specs.Streams.{stream_at, limit}
use Rattle.rules.specs.States.{pending, party_of, held_by}
use Rattle.rules.specs.declared.Party.{Party}
use Rattle.rules.specs.declared.Places.{Places}
use Rattle.rules.specs.declared.StartResult.{StartResult}
use Rattle.std.specs.Prelude.{Ok}
use Rattle.rules.specs.Parties.{owns, belongs, places_of, owners_for}
use Rattle.rules.proofs.Parties.{same_is}
use borrow.Author.Tests.{le-leb}
use Rattle.rules.specs.Doors.{shut}
use Rattle.rules.specs.Steps.{door_at, wait_at, new_message, fresh_for, start_for, post_of, unit_of, place_of, message_at, stayed, departed}
use Rattle.rules.specs.Numbers.{Says, refused, posted, post_says}
use Rattle.rules.specs.Runs.{Accepted, Run, accepted_of, accepted, in_window, new_post, ComesEarly, DoorExact, after_post, after_unit, step_of, Start, Starts, begin_for, run_from, run_for}
use Rattle.rules.proofs.Events.{accepted_more, accepted_same}
use Rattle.state_formed.proofs.WellFormed.{well_formed_lem, place_room}
use Rattle.promise_steps.specs.Formed.{Formed, RunKeeps, TimeIsClock}
use Rattle.promise_steps.specs.Refusals.{says_to_post, One, Two, Fifteen}
use Rattle.promise_steps.proofs.Cases.{PostCase, refuses, accepts, post_case, Serving, UnitCase, stops, idles, finishes, passes, cuts, runs, unit_case}
use Rattle.promise_steps.proofs.Refusals.{one, two, fifteen, post_accepted}
use Rattle.promise_steps.proofs.Runs.{run_keeps, time_is_clock}
use Rattle.promise_doors.proofs.Doors.{door_exact}
use Rattle.promise_views.specs.Views.{Kind, Sight, loses, loss_of, sight_of, view_from, view_of, reply_of, replies_from, replies_of, owned_by, Isolated}
use Rattle.promise_steps.proofs.Pending.{one as one_of, held, held_added, held_stayed, held_departed}
use Rattle.promise_views.proofs.Balance.{place_low}
use Rattle.promise_views.proofs.Ledger.{Known, known, known_in, Ledger, empty, noted, lost, TooSoon, Tells, unknown, early, full, taken, Told, told_same}

module _ (z : Start) (starts : Starts z) (p : Party) where
  abbrev mine : Kind
  mine = owned_by z p

  abbrev room : ℕ
  room = places_of z.places p

  -- ---- a run, and the ledger of what was seen of it

  record Explains (r : Run) (l : Ledger) : Type 0 where
    pub windows : (k x i : ℕ) → mine k ≡ true → count (in_window k x i) (accepted r) ≡ count (known_in k x i) l.posts
    pub rest : held mine r.state + l.left ≡ length l.posts

  -- ---- one call more

  run_last : (r : Run) (cs : List Call) (c : Call) → run_from r (cs ++ (c ∷ [])) ≡ step_of (run_from r cs) c
  unfolding run_from
  run_last r [] c = refl
  run_last r (d ∷ cs) c = run_last (step_of r d) cs c

  -- a run from the set's start
  record Reached (r : Run) : Type 0 where
    pub calls : List Call
    pub is : run_for z calls ≡ r

  reached_more : (r : Run) (c : Call) → Reached r → Reached (step_of r c)
  unfolding run_for
  reached_more r c h = record { calls = h.calls ++ (c ∷ []); is = run_last (begin_for z) h.calls c ∙ ap (λ (q : Run). step_of q c) h.is }

  -- ---- set, owners and places stay

  record Stays (r next : Run) : Type 0 where
    pub set : next.state.set ≡ r.state.set
    pub owners : next.state.owners ≡ r.state.owners
    pub places : next.state.places ≡ r.state.places

  post_stays : (r : Run) (k : ℕ) (q : PostResult) → PostCase r.state k q → Stays r (after_post r k q.state q.answer)
  post_stays r k q (refuses why) = record { set = refl; owners = refl; places = refl }
  post_stays r k q (accepts inside left clear) = record { set = refl; owners = refl; places = refl }

  unit_stays : (r : Run) (done : Bool) (u : UnitResult) → UnitCase r.state done u → Stays r (after_unit r u.state u.answer)
  unit_stays r done u (stops why) = record { set = refl; owners = refl; places = refl }
  unit_stays r done u (idles e h) = record { set = refl; owners = refl; places = refl }
  unit_stays r done u (finishes v e) = record { set = refl; owners = refl; places = refl }
  unit_stays r done u (passes v e) = record { set = refl; owners = refl; places = refl }
  unit_stays r done u (cuts v e) = record { set = refl; owners = refl; places = refl }
  unit_stays r done u (runs v e) = record { set = refl; owners = refl; places = refl }

  step_stays : (r : Run) (c : Call) → Stays r (step_of r c)
  unfolding step_of
  step_stays r (Posts k) = post_stays r k (post_of r.state k) (post_case r.state k)
  step_stays r (Units done) = unit_stays r done (unit_of r.state done) (unit_case r.state done)

  from_stays : (r : Run) (cs : List Call) → Stays r (run_from r cs)
  unfolding run_from
  from_stays r [] = record { set = refl; owners = refl; places = refl }
  from_stays r (c ∷ cs) =
      let a = from_stays (step_of r c) cs in
      let b = step_stays r c in
      record { set = a.set ∙ b.set; owners = a.owners ∙ b.owners; places = a.places ∙ b.places }

  start_is : start_for z.set z.owners z.places ≡ record { answer = Ok tt; state = fresh_for z.set (owners_for z.set.count z.owners) z.places }
  unfolding start_for
  start_is = rw (starts.valid_set, le-leb _ _ starts.few)

  -- ---- what holds of such a run

  module _ (r : Run) (h : Reached r) where
    formed : Formed r.state
    unfolding RunKeeps
    formed = subst (λ (q : Run). Formed q.state) h.is (run_keeps z starts.boxed h.calls)

    timed : r.time ≡ r.state.clock
    unfolding TimeIsClock
    timed = subst (λ (q : Run). q.time ≡ q.state.clock) h.is (time_is_clock z h.calls)

    stays_as : Stays (begin_for z) r
    unfolding run_for
    stays_as = subst (Stays (begin_for z)) h.is (from_stays (begin_for z) h.calls)

    set_is : r.state.set ≡ z.set
    unfolding begin_for
    set_is = stays_as.set ∙ ap (λ (q : StartResult). q.state.set) start_is

    owners_are : r.state.owners ≡ owners_for z.set.count z.owners
    unfolding begin_for
    owners_are = stays_as.owners ∙ ap (λ (q : StartResult). q.state.owners) start_is

    places_are : r.state.places ≡ z.places
    unfolding begin_for
    places_are = stays_as.places ∙ ap (λ (q : StartResult). q.state.places) start_is

    -- what the party has pending, and its places
    held_is : held mine r.state ≡ held_by r.state p
    held_is = ap (λ (os : List Party). count (belongs os p) (pending r.state)) (sym owners_are)

    room_is : room ≡ places_of r.state.places p
    room_is = ap (λ (x : Places). places_of x p) (sym places_are)

    -- the owner of a stream of the party
    its : (k : ℕ) → mine k ≡ true → party_of r.state k ≡ p
    its k g = same_is (party_of r.state k) p (ap (λ (os : List Party). owns os p k) owners_are ∙ g)

    few : r.state.count ≤ 64
    few = (well_formed_lem r.state formed.formed).few

    -- 15 exactly if the post would break its stream's limit
    breaks : (k : ℕ) → says_to_post r.state k ≡ refused 15 → ComesEarly z.set k r
    unfolding DoorExact
    breaks k = subst (λ (q : Run). says_to_post q.state k ≡ refused 15 → ComesEarly z.set k q) h.is (door_exact z starts h.calls k).0

    broken : (k : ℕ) → ComesEarly z.set k r → says_to_post r.state k ≡ refused 15
    unfolding DoorExact
    broken k = subst (λ (q : Run). ComesEarly z.set k q → says_to_post q.state k ≡ refused 15) h.is (door_exact z starts h.calls k).1

    -- ---- the ledger, one post more

    module _ (l : Ledger) (e : Explains r l) where
      -- a post of the kind: in the run and in the ledger
      windows_more : (k j x i : ℕ) → mine j ≡ true → count (in_window j x i) (accepted r ++ (new_post r k ∷ [])) ≡ count (known_in j x i) (l.posts ++ (known k r.time ∷ []))
      unfolding count
      windows_more k j x i g =
          sum_last (λ (p : Accepted). cond (in_window j x i p) 1 0) (accepted r) (new_post r k)
          ∙ ap (λ (n : ℕ). n + cond (known_in j x i (known k r.time)) 1 0) (e.windows j x i g)
          ∙ sym (sum_last (λ (p : Known). cond (known_in j x i p) 1 0) l.posts (known k r.time))

      -- a post of another kind
      windows_other : (k j x i : ℕ) → mine k ≡ false → mine j ≡ true → count (in_window j x i) (accepted r ++ (new_post r k ∷ [])) ≡ count (known_in j x i) l.posts
      unfolding count
      windows_other k j x i f g =
          sum_last (λ (p : Accepted). cond (in_window j x i p) 1 0) (accepted r) (new_post r k)
          ∙ omega (arith, e.windows j x i g, missed)
        where
          apart : k ≢ j
          apart q = false≢true (sym f ∙ ap mine q ∙ g)

          missed : ◌≡◌ {A = ℕ} (cond (in_window j x i (new_post r k)) 1 0) 0
          missed = rw (ne_eqb k j apart)

      -- would it break the limit?
      too_soon : (k : ℕ) → mine k ≡ true → ComesEarly z.set k r → TooSoon z.set room l k r.time
      too_soon k g q = record {
        door = q.door;
        from = q.breaks.from;
        span = q.breaks.span;
        over = subst (λ (n : ℕ). limit (stream_at z.set k) q.breaks.span < n) (windows_more k k q.breaks.from q.breaks.span g) q.breaks.over;
      }

      comes_early : (k : ℕ) → mine k ≡ true → k < z.set.count → TooSoon z.set room l k r.time → ComesEarly z.set k r
      comes_early k g i q = record {
        in_set = i;
        door = q.door;
        breaks = record {
          from = q.from;
          span = q.span;
          over = subst (λ (n : ℕ). limit (stream_at z.set k) q.span < n) (sym (windows_more k k q.from q.span g)) q.over;
        };
      }

      -- ---- a post

      post_refused_lem : (k n : ℕ) (o : PostResult) → PostCase r.state k o → post_says o.answer ≡ refused n → Explains (after_post r k o.state o.answer) l
      post_refused_lem k n o (refuses why) q = record { windows = e.windows; rest = e.rest }
      post_refused_lem k n o (accepts inside free clear) q = absurd (let z : ◌≡◌ {A = ℕ} 0 1 = cc in omega arith)

      post_taken : (k d : ℕ) → mine k ≡ true → (o : PostResult) → PostCase r.state k o → post_says o.answer ≡ posted k d → Explains (after_post r k o.state o.answer) (noted l k r.time)
      post_taken k d g o (refuses why) q = absurd (let z : ◌≡◌ {A = ℕ} 0 1 = cc in omega arith)
      post_taken k d g o (accepts inside free clear) q = record {
        windows = λ j x i c. ap (count (in_window j x i)) (accepted_more r.events (new_post r k)) ∙ windows_more k j x i c;
        rest = omega (
          arith,
          e.rest,
          held_added mine r.state formed.housed.places k (place_room r.state (well_formed_lem r.state formed.formed) formed.housed.places (party_of r.state k) free),
          let z : one_of mine k ≡ 1 = rw g in z,
          length-append l.posts (known k r.time ∷ []),
        );
      }

      post_other : (k : ℕ) → mine k ≡ false → (o : PostResult) → PostCase r.state k o → Explains (after_post r k o.state o.answer) l
      post_other k f o (refuses why) = record { windows = e.windows; rest = e.rest }
      post_other k f o (accepts inside free clear) = record {
        windows = λ j x i c. ap (count (in_window j x i)) (accepted_more r.events (new_post r k)) ∙ windows_other k j x i f c;
        rest = omega (arith, e.rest, held_added mine r.state formed.housed.places k (place_room r.state (well_formed_lem r.state formed.formed) formed.housed.places (party_of r.state k) free), let z : one_of mine k ≡ 0 = rw f in z);
      }

      -- what a post of the kind is answered, by the ledger
      record Answered (k : ℕ) : Type 0 where
        pub behind : Ledger
        pub tells : Tells z.set room l k r.time (says_to_post r.state k) behind
        pub explains : Explains (step_of r (Posts k)) behind

      -- refused with a number that the ledger tells
      told_refused : (k n : ℕ) → says_to_post r.state k ≡ refused n → Tells z.set room l k r.time (refused n) l → Answered k
      unfolding step_of
      told_refused k n q t = record {
        behind = l;
        tells = subst (λ (a : Says). Tells z.set room l k r.time a l) (sym q) t;
        explains = post_refused_lem k n (post_of r.state k) (post_case r.state k) q;
      }

      module _ (k : ℕ) (g : mine k ≡ true) (i : k < r.state.set.count) where
        inside : k < z.set.count
        inside = subst (λ (x : Set). k < x.count) set_is i

        at_door : shut (door_at r.state k) (wait_at r.state k) ≡ true → Answered k
        unfolding Fifteen
        at_door d =
            let q : says_to_post r.state k ≡ refused 15 = (fifteen r.state k).1 (record { formed = formed.formed; in_set = i; is_shut = d }) in
            told_refused k 15 q (early inside (too_soon k g (breaks k q)))

        module _ (d : shut (door_at r.state k) (wait_at r.state k) ≡ false) where
          in_time : TooSoon z.set room l k r.time → ⊥
          unfolding Fifteen
          in_time q = false≢true (sym d ∙ ((fifteen r.state k).0 (broken k (comes_early k g inside q))).is_shut)

          full_here : room ≤ held mine r.state → places_of r.state.places (party_of r.state k) ≤ held_by r.state (party_of r.state k)
          full_here f = rw (its k g) (omega (arith, f, held_is, room_is))

          free_here : held mine r.state < room → held_by r.state (party_of r.state k) < places_of r.state.places (party_of r.state k)
          free_here f = rw (its k g) (omega (arith, f, held_is, room_is))

          no_place : room ≤ held mine r.state → Answered k
          unfolding Two
          no_place f =
              told_refused k 2 ((two r.state k).1 (record { formed = formed.formed; in_set = i; is_open = d; full = full_here f })) (full inside in_time (omega (arith, e.rest)))

          a_place : held mine r.state < room → Answered k
          unfolding step_of
          a_place f =
              let q : says_to_post r.state k ≡ posted k (r.time + (stream_at z.set k).deadline) = ap (λ (o : PostResult). post_says o.answer) (post_accepted r.state k formed.formed i d (free_here f)) ∙ due in
              record {
                behind = noted l k r.time;
                tells = subst (λ (a : Says). Tells z.set room l k r.time a (noted l k r.time)) (sym q) (taken inside in_time (omega (arith, e.rest)));
                explains = post_taken k _ g (post_of r.state k) (post_case r.state k) q;
              }
            where
              due : posted k (new_message r.state k).deadline ≡ posted k (r.time + (stream_at z.set k).deadline)
              due = cc (timed, set_is)

      post_answered : (k : ℕ) → mine k ≡ true → Answered k
      unfolding One
      post_answered k g = ⊎_elim
          (λ (i : r.state.set.count ≤ k).
          told_refused k 1 ((one r.state k).1 (record { formed = formed.formed; beyond = i })) (unknown (subst (λ (x : Set). x.count ≤ k) set_is i)))
          (λ (i : k < r.state.set.count). by_test (shut (door_at r.state k) (wait_at r.state k))
          (λ d. at_door k g i d)
          (λ d. ⊎_elim (λ f. no_place k g i d f) (λ f. a_place k g i d f) (le_or_lt room (held mine r.state))))
          (le_or_lt r.state.set.count k)

      -- ---- a unit

      unit_same : (s : State) (n : ℕ) → held mine s ≡ held mine r.state → Explains (record { state = s; time = n; names = r.names; events = r.events }) l
      unit_same s n q = record { windows = e.windows; rest = omega (arith, e.rest, q) }

      module _ (v : Serving r.state) where
        low : place_of r.state < r.state.count
        low = place_low r.state formed v

        stays : (m : Message) → m.stream ≡ (message_at r.state (place_of r.state)).stream → held mine (stayed r.state (place_of r.state) m) ≡ held mine r.state
        stays m q = held_stayed mine r.state formed.housed.places (place_of r.state) few low m q

        abbrev gone : ℕ
        gone = (message_at r.state (place_of r.state)).stream

        fewer : held mine r.state ≡ held mine (departed r.state (place_of r.state)) + one_of mine gone
        fewer = held_departed mine r.state formed.housed.places (place_of r.state) few low

        -- a message leaves: it is seen if it is of the kind
        left : (next : Run) → next.state ≡ departed r.state (place_of r.state) → accepted next ≡ accepted r → (m : Ledger) → m.posts ≡ l.posts → m.left ≡ l.left + one_of mine gone → Explains next m
        left next s a m p q = record {
          windows = λ k x i g. ap (count (in_window k x i)) a ∙ e.windows k x i g ∙ ap (count (known_in k x i)) (sym p);
          rest = omega (arith, e.rest, fewer, q, ap (held mine) s, ap (λ (z : List Known). length z) p);
        }

        left_told : (next : Run) → next.state ≡ departed r.state (place_of r.state) → accepted next ≡ accepted r → (w : List Sight) (says : List Says)
            → ((m : Ledger) → Explains next m → Told z.set room w m says) → Told z.set room (cond (mine gone) (loses ∷ []) [] ++ w) l says
        unfolding Told
        left_told next s a w says go = by_test (mine gone)
            (λ y. rw y (go (lost l) (left next s a (lost l) refl (let z : one_of mine gone ≡ 1 = rw y in omega (arith, z)))))
            (λ y. rw y (go l (left next s a l refl (let z : one_of mine gone ≡ 0 = rw y in omega (arith, z)))))

      unit_told : (done : Bool) (u : UnitResult) → UnitCase r.state done u → (w : List Sight) (says : List Says)
          → ((m : Ledger) → Explains (after_unit r u.state u.answer) m → Told z.set room w m says) → Told z.set room (loss_of mine u.answer ++ w) l says
      unit_told done u (stops why) w says go = go l (unit_same _ _ refl)
      unit_told done u (idles z h) w says go = go l (unit_same _ _ refl)
      unit_told done u (finishes v z) w says go = left_told v _ refl (accepted_same r.events _) w says go
      unit_told done u (passes v z) w says go = go l (unit_same _ _ (stays v _ refl))
      unit_told done u (cuts v z) w says go = left_told v _ refl (accepted_same r.events _) w says go
      unit_told done u (runs v z) w says go = go l (unit_same _ _ (stays v _ refl))

  -- ---- a run

  told : (cs : List Call) (r : Run) (l : Ledger) → Reached r → Explains r l → Told z.set room (view_from mine r cs) l (replies_from mine r cs)
  unfolding Told view_from replies_from sight_of reply_of step_of
  told [] r l h e = refl
  told (Posts k ∷ cs) r l h e = by_test (mine k)
      (λ g. rw g (let a = post_answered r h l e k g in record {
        first = says_to_post r.state k;
        behind = a.behind;
        others = replies_from mine (step_of r (Posts k)) cs;
        are = refl;
        tells = a.tells;
        next = told cs (step_of r (Posts k)) a.behind (reached_more r (Posts k) h) a.explains;
      }))
      (λ g. rw g (told cs (step_of r (Posts k)) l (reached_more r (Posts k) h) (post_other r h l e k g (post_of r.state k) (post_case r.state k))))
  told (Units done ∷ cs) r l h e =
      unit_told r h l e done (unit_of r.state done) (unit_case r.state done) (view_from mine (step_of r (Units done)) cs) (replies_from mine (step_of r (Units done)) cs)
      (λ m q. told cs (step_of r (Units done)) m (reached_more r (Units done) h) q)

  begin_explains : Explains (begin_for z) empty
  unfolding begin_for accepted_of count sum
  begin_explains = rw start_is (record { windows = λ k x i g. refl; rest = refl })

  pub told_run : (calls : List Call) → Told z.set room (view_of mine z calls) empty (replies_of mine z calls)
  unfolding view_of replies_of run_for run_from
  told_run calls = told calls (begin_for z) empty (record { calls = []; is = refl }) begin_explains

  pub follow : (calls others : List Call) → view_of mine z calls ≡ view_of mine z others → replies_of mine z calls ≡ replies_of mine z others
  follow calls others q =
      told_same z.set room (view_of mine z others) empty (replies_of mine z calls) (replies_of mine z others)
      (subst (λ (w : List Sight). Told z.set room w empty (replies_of mine z calls)) q (told_run calls))
      (told_run others)

pub isolated : Isolated
unfolding Isolated
isolated z starts p calls others q = follow z starts p calls others q
