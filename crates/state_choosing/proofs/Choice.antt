-- The place of the choice is the one that document 01's words name.
-- Assumes nothing.
use Prim.Native.Nat.{ℕ, zero, suc, ◌≤◌, ◌<◌}
use mathlib.Core.Bool.{Bool, true, false, not, ◌&&◌, false≢true}
use mathlib.Core.Logic.{⊎_elim}
use mathlib.Core.List.{List, [], ◌∷◌}
use mathlib.Core.Path.{◌≡◌, refl, sym, ◌∙◌}
use native.Mathlib.Omega.{arith}
use native.Mathlib.Nat.{eq-or-lt_of_le}
use borrow.Author.Tests.{ltb-true, ltb-false, lt-ltb, le-ltb, eqb-true, eq-eqb}
use lib.Dec.{ltb, eqb}
use lib.ListN.{length}
use lib.Seq.{length-take-le, get_or-take}
use Rattle.laws.specs.Lists.{find}
use Rattle.laws.proofs.Sums.{and_parts, by_test}
use Rattle.laws.proofs.Parts.{find_passes, find_before, find_within, first_by_none, first_by_first}
use Rattle.laws.proofs.Gates.{le_or_lt}
use Rattle.rules.specs.declared.Set.{Set}
use Rattle.rules.specs.declared.Message.{Message}
use Rattle.rules.specs.declared.State.{State}
use Rattle.rules.specs.States.{no_message, pending, task_of, started_of, well_formed}
use Rattle.rules.specs.Steps.{never, task_deadline, ahead, running_task, turn_of, started_at, due_of, urgent_at, served_at, place_of, message_at}
use Rattle.rules.proofs.Ahead.{Before, NotBefore, ahead_yes, ahead_no, ahead_order}
use Rattle.state_formed.proofs.WellFormed.{well_formed_lem, in_range, stands, task_in, message_stream}
use Rattle.state_choosing.specs.Words.{at, DeadlineOf, Served}

-- ---- a task's deadline is the least of its messages'

module _ (x : Set) where
  pub deadline_le : (l : List Message) (t j : ℕ) → j < length l → task_of x (at l j) ≡ t → task_deadline x l t ≤ (at l j).deadline
  unfolding task_deadline
  deadline_le [] t j h e = absurd (let z : j < 0 = h in omega arith)
  deadline_le (m ∷ l) t zero h e =
      rw (eq-eqb (task_of x m) t e)
      (by_test (ltb m.deadline (task_deadline x l t)) (λ q. rw q (omega arith)) (λ q. rw q (ltb-false m.deadline (task_deadline x l t) q)))
  deadline_le (m ∷ l) t (suc j) h e =
      let i : task_deadline x l t ≤ (at l j).deadline = deadline_le l t j (omega arith) e in
      by_test (eqb (task_of x m) t && ltb m.deadline (task_deadline x l t))
      (λ q. rw q (omega (arith, ltb-true m.deadline (task_deadline x l t) (and_parts (eqb (task_of x m) t) (ltb m.deadline (task_deadline x l t)) q).1)))
      (λ q. rw q i)

  -- and it is that of one of them, if it has any
  pub deadline_met : (l : List Message) (t : ℕ) → task_deadline x l t < never → (j : ℕ) × (j < length l) × (task_of x (at l j) ≡ t) × ((at l j).deadline ≡ task_deadline x l t)
  unfolding task_deadline
  deadline_met [] t h = absurd (let z : never < never = h in omega arith)
  deadline_met (m ∷ l) t h =
      by_test (eqb (task_of x m) t && ltb m.deadline (task_deadline x l t))
      (λ q. (0, omega arith, eqb-true (task_of x m) t (and_parts (eqb (task_of x m) t) (ltb m.deadline (task_deadline x l t)) q).0, rw q refl))
      (λ q. let r = deadline_met l t (rw q at h) in (suc r.0, omega (arith, r.1), r.2, rw q r.3))

-- ---- the choice

module _ (turn : ℕ → ℕ) (x : Set) (l : List Message) (some : 0 < length l) (tasks : (j : ℕ) → j < length l → task_of x (at l j) < 16) (dues : (j : ℕ) → j < length l → (at l j).deadline < never) where
  none_ahead : (u : ℕ) → u < 16 → NotBefore (task_deadline x l u) (turn u) (task_deadline x l (running_task turn x l)) (turn (running_task turn x l))
  unfolding running_task
  none_ahead u h = ahead_no (task_deadline x l) turn u (running_task turn x l) (first_by_none (ahead (task_deadline x l) turn) (ahead_order (task_deadline x l) turn) 16 u h)

  run_least : (u : ℕ) → u < 16 → task_deadline x l (running_task turn x l) ≤ task_deadline x l u
  run_least u h = ⊎_elim
      (λ (z : task_deadline x l (running_task turn x l) < task_deadline x l u). omega arith)
      (λ (z : (task_deadline x l u ≡ task_deadline x l (running_task turn x l)) × (turn (running_task turn x l) ≤ turn u)). omega arith)
      (none_ahead u h)

  -- no task of the same deadline has an earlier turn
  run_turn : (u : ℕ) → u < 16 → task_deadline x l u ≡ task_deadline x l (running_task turn x l) → turn (running_task turn x l) ≤ turn u
  run_turn u h e = ⊎_elim
      (λ (z : task_deadline x l (running_task turn x l) < task_deadline x l u). absurd (omega arith))
      (λ (z : (task_deadline x l u ≡ task_deadline x l (running_task turn x l)) × (turn (running_task turn x l) ≤ turn u)). z.1)
      (none_ahead u h)

  -- a task of a lower number has a later deadline, or a later turn
  run_first : (u : ℕ) → u < running_task turn x l → Before (task_deadline x l (running_task turn x l)) (turn (running_task turn x l)) (task_deadline x l u) (turn u)
  unfolding running_task
  run_first u h = ahead_yes (task_deadline x l) turn (running_task turn x l) u (first_by_first (ahead (task_deadline x l) turn) (ahead_order (task_deadline x l) turn) 16 u h)

  run_met : (j : ℕ) × (j < length l) × (task_of x (at l j) ≡ running_task turn x l) × ((at l j).deadline ≡ task_deadline x l (running_task turn x l))
  run_met =
      deadline_met x l (running_task turn x l)
      (omega (arith, run_least (task_of x (at l 0)) (tasks 0 some), deadline_le x l (task_of x (at l 0)) 0 some refl, dues 0 some))

  pub run_own : DeadlineOf x l (running_task turn x l) (task_deadline x l (running_task turn x l))
  run_own = record { who = run_met.0; inside = run_met.1; his = run_met.2; that = run_met.3; least = λ j h e. deadline_le x l (running_task turn x l) j h e }

  -- no task's deadline is less
  named_le : (t w : ℕ) → DeadlineOf x l t w → task_deadline x l t ≤ w
  named_le t w h = omega (arith, deadline_le x l t h.who h.inside h.his, h.that)

  pub run_before : (t w : ℕ) → DeadlineOf x l t w → task_deadline x l (running_task turn x l) ≤ w
  run_before t w h = omega (arith, named_le t w h, run_least t (rw (← h.his) (tasks h.who h.inside)))

  -- a task's deadline is one number
  named_is : (t w : ℕ) → DeadlineOf x l t w → task_deadline x l t < never → task_deadline x l t ≡ w
  named_is t w h soon = let m = deadline_met x l t soon in omega (arith, named_le t w h, h.least m.0 m.1 m.2, m.3)

  named_soon : (t w : ℕ) → DeadlineOf x l t w → task_deadline x l t < never
  named_soon t w h = omega (arith, deadline_le x l t h.who h.inside h.his, dues h.who h.inside)

  run_turned : (t w : ℕ) → DeadlineOf x l t w → w ≡ task_deadline x l (running_task turn x l) → turn (running_task turn x l) ≤ turn t
  run_turned t w h e = run_turn t (rw (← h.his) (tasks h.who h.inside)) (named_is t w h (named_soon t w h) ∙ e)

  pub run_tie : (t w : ℕ) → DeadlineOf x l t w → w ≡ task_deadline x l (running_task turn x l) → turn (running_task turn x l) ≡ turn t → running_task turn x l ≤ t
  run_tie t w h e q = by_test (ltb t (running_task turn x l))
      (λ f. absurd (⊎_elim
      (λ (z : task_deadline x l (running_task turn x l) < task_deadline x l t). omega (arith, named_is t w h (named_soon t w h)))
      (λ (z : (task_deadline x l (running_task turn x l) ≡ task_deadline x l t) × (turn (running_task turn x l) < turn t)). omega arith)
      (run_first t (ltb-true t (running_task turn x l) f))))
      (λ f. ltb-false t (running_task turn x l) f)

  -- a message of the running task is served that is its started one, or its earliest of least deadline where none is started
  by_run : (k : ℕ) → k < length l → task_of x (at l k) ≡ running_task turn x l
      → ((j : ℕ) → j < length l → task_of x (at l j) ≡ running_task turn x l → 0 < (at l j).used → 0 < (at l k).used)
      → ((at l k).used ≡ 0 → (at l k).deadline ≡ task_deadline x l (running_task turn x l))
      → ((at l k).used ≡ 0 → (j : ℕ) → j < k → task_of x (at l j) ≡ running_task turn x l → task_deadline x l (running_task turn x l) < (at l j).deadline)
      → Served turn x l k
  by_run k h e s d p = record {
    inside = h;
    v = task_deadline x l (running_task turn x l);
    own = rw e run_own;
    first = run_before;
    turned = λ t w q r. rw e (run_turned t w q r);
    tie = λ t w q r. rw e (run_tie t w q r);
    started = λ j q r u. s j q (r ∙ e) u;
    due = d;
    earliest = λ u j q r. p u j q (r ∙ e);
  }

  begun : (m : Message) (t : ℕ) → started_of x t m ≡ true → (0 < m.used) × (task_of x m ≡ t)
  begun m t e = (ltb-true 0 m.used (and_parts (ltb 0 m.used) (eqb (task_of x m) t) e).0, eqb-true (task_of x m) t (and_parts (ltb 0 m.used) (eqb (task_of x m) t) e).1)

  not_begun : (m : Message) (t : ℕ) → started_of x t m ≡ false → task_of x m ≡ t → 0 < m.used → ⊥
  not_begun m t e q u = false≢true (sym e ∙ rw (lt-ltb 0 m.used u, eq-eqb (task_of x m) t q))

  by_started : started_at x l (running_task turn x l) < length l → Served turn x l (started_at x l (running_task turn x l))
  unfolding started_at
  by_started h =
      let k = find (started_of x (running_task turn x l)) l in
      let b = begun (at l k) (running_task turn x l) (find_passes (started_of x (running_task turn x l)) no_message l h) in
      by_run k h b.1 (λ j q r u. b.0) (λ u. absurd (omega (arith, b.0))) (λ u j q r. absurd (omega (arith, b.0)))

  pub is_due : (m : Message) (t v : ℕ) → due_of x t v m ≡ true → (m.deadline ≤ v) × (task_of x m ≡ t)
  is_due m t v e = (
    ltb-false v m.deadline (not_yes (ltb v m.deadline) (and_parts (not (ltb v m.deadline)) (eqb (task_of x m) t) e).0),
    eqb-true (task_of x m) t (and_parts (not (ltb v m.deadline)) (eqb (task_of x m) t) e).1,
  )
    where
      not_yes : (b : Bool) → not b ≡ true → b ≡ false
      not_yes true e = sym e
      not_yes false e = refl

  pub due_is : (m : Message) (t v : ℕ) → m.deadline ≤ v → task_of x m ≡ t → due_of x t v m ≡ true
  due_is m t v h q = rw (le-ltb v m.deadline h, eq-eqb (task_of x m) t q)

  by_due : length l ≤ started_at x l (running_task turn x l) → Served turn x l (urgent_at x l (running_task turn x l))
  unfolding started_at urgent_at
  by_due h =
      let t = running_task turn x l in
      let v = task_deadline x l t in
      let k = find (due_of x t v) l in
      let o : k < length l = find_within (due_of x t v) no_message l run_met.0 run_met.1 (due_is (at l run_met.0) t v (omega (arith, run_met.3)) run_met.2) in
      let d = is_due (at l k) t v (find_passes (due_of x t v) no_message l o) in
      by_run k o d.1
      (λ j q r u. absurd (not_begun (at l j) t (find_before (started_of x t) no_message l j (omega arith)) r u))
      (λ u. omega (arith, d.0, deadline_le x l t k o d.1))
      (λ u j q r. above (at l j).deadline v (λ z. false≢true (sym (find_before (due_of x t v) no_message l j q) ∙ due_is (at l j) t v z r)))
    where
      above : (a b : ℕ) → (a ≤ b → ⊥) → b < a
      above a b f = ⊎_elim (λ (z : a ≤ b). absurd (f z)) (λ (z : b < a). z) (le_or_lt a b)

  pub served : Served turn x l (served_at x l (running_task turn x l))
  unfolding served_at
  served =
      by_test (ltb (started_at x l (running_task turn x l)) (length l))
      (λ e. rw e (by_started (ltb-true (started_at x l (running_task turn x l)) (length l) e)))
      (λ e. rw e (by_due (ltb-false (started_at x l (running_task turn x l)) (length l) e)))

-- ---- of a state

module _ (s : State) (w : well_formed s ≡ true) (ms : length s.messages ≡ 64) (ss : length s.set.streams ≡ 16) where
  pub all_pending : length (pending s) ≡ s.count
  all_pending = length-take-le s.count s.messages (omega (arith, (well_formed_lem s w).few, ms))

  pub pending_at : (j : ℕ) → j < s.count → at (pending s) j ≡ message_at s j
  pending_at j q = get_or-take s.count s.messages j no_message q

  pub pending_task : (j : ℕ) → j < length (pending s) → task_of s.set (at (pending s) j) < 16
  pending_task j q =
      let c : j < s.count = omega (arith, all_pending) in
      rw (pending_at j c) (task_in s (in_range s w) ms j c ss)

  pub pending_due : (j : ℕ) → j < length (pending s) → (at (pending s) j).deadline < never
  pending_due j q =
      let c : j < s.count = omega (arith, all_pending) in
      let o = stands s (in_range s w) ms j c in
      rw (pending_at j c) (omega (arith, o.1.late, (well_formed_lem s w).clock, (message_stream s (in_range s w) ms j c ss).deadline.high))

  -- "choose is the paper's choice"
  pub choice : (s.count ≡ 0 → ⊥) → Served (turn_of s) s.set (pending s) (place_of s)
  unfolding place_of
  choice f = served (turn_of s) s.set (pending s) (some s.count f) pending_task pending_due
    where
      some : (n : ℕ) → (n ≡ 0 → ⊥) → 0 < length (pending s)
      some n g = ⊎_elim (λ (z : 0 ≡ s.count). absurd (f (sym z))) (λ (z : 0 < s.count). omega (arith, all_pending)) (eq-or-lt_of_le (omega arith))

  pub place_in : (s.count ≡ 0 → ⊥) → place_of s < s.count
  place_in f = omega (arith, (choice f).inside, all_pending)
