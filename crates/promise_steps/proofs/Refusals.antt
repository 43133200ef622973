-- When a call is refused, by the paper's numbers, and that a refused call changes nothing.
-- Assumes nothing.
use Prim.Native.Nat.{ℕ, suc, ◌+◌, ◌≤◌, ◌<◌}
use mathlib.Core.Bool.{Bool, true, false}
use mathlib.Core.Path.{◌≡◌, refl, ap, sym, ◌∙◌}
use native.Mathlib.Omega.{arith}
use borrow.Author.Tests.{lt-ltb, le-ltb, ltb-true, ltb-false, eqb-true, eqb-false, eq-eqb, ne_eqb}
use lib.Dec.{ltb, eqb}
use Rattle.laws.proofs.Sums.{by_test}
use Rattle.rules.specs.declared.State.{State}
use Rattle.rules.specs.declared.Call.{Call}
use Rattle.rules.specs.declared.Call.TheVariants.{Posts, Units}
use Rattle.std.specs.Prelude.{Ok}
use Rattle.rules.specs.States.{party_of, held_by, well_formed, stages_in, task_of, cost_of, last_clock}
use Rattle.rules.specs.Parties.{places_of}
use Rattle.rules.specs.Doors.{shut}
use Rattle.rules.specs.Steps.{door_at, wait_at, has_place, new_message, added, post_of, message_at, place_of, choose_of, laxity_of, served_of, empty_unit, unit_of, call_of}
use Rattle.rules.specs.Numbers.{Says, refused, refused_with_0, started, posted, none, runs, ran, passed, done as finishes, cut, idle, gives, tuples, accept, late, overload, read, fed, wrote, ended, recorded, opened, tested, tested_accept, tested_late, post_says, choose_says, unit_says, call_says}
use Rattle.promise_steps.specs.Refusals.{says_to_post, says_to_unit, Twelve, One, NotInSet, Fifteen, DoorShut, Two, AllPlacesTaken, Three, AtLastClock, Four, DoneWithNothing, RefusedSame}

-- the number of a refusal, 0 of any other answer: two that say the same have the same
unfoldable pub no_of : Says → ℕ
no_of (refused n) = n
no_of (refused_with_0 n) = n
no_of started = 0
no_of (posted k d) = 0
no_of none = 0
no_of (runs t k) = 0
no_of (ran t k) = 0
no_of (passed t k) = 0
no_of (finishes t k l) = 0
no_of (cut t k l) = 0
no_of idle = 0
no_of (gives n) = 0
no_of (tuples a b) = 0
no_of accept = 0
no_of (late i w) = 0
no_of overload = 0
no_of read = 0
no_of fed = 0
no_of (wrote n) = 0
no_of ended = 0
no_of (recorded n) = 0
no_of opened = 0
no_of (tested k i) = 0
no_of (tested_accept k) = 0
no_of (tested_late k i w) = 0

-- ---- post: "Order: post 12, 1, 2.", with 15 after 1

module _ (s : State) (k : ℕ) where
  post_ill : well_formed s ≡ false → says_to_post s k ≡ refused 12
  unfolding post_of
  post_ill e = rw e

  post_no_stream : well_formed s ≡ true → s.set.count ≤ k → says_to_post s k ≡ refused 1
  unfolding post_of
  post_no_stream e h = rw (e, le-ltb k s.set.count h)

  post_early : well_formed s ≡ true → k < s.set.count → shut (door_at s k) (wait_at s k) ≡ true → says_to_post s k ≡ refused 15
  unfolding post_of
  post_early e h d = rw (e, lt-ltb k s.set.count h, d)

  post_full : well_formed s ≡ true → k < s.set.count → shut (door_at s k) (wait_at s k) ≡ false → places_of s.places (party_of s k) ≤ held_by s (party_of s k) → says_to_post s k ≡ refused 2
  unfolding post_of
  post_full e h d g = rw (e, lt-ltb k s.set.count h, d, le-ltb _ _ g)

  -- any other is accepted, at the last clock too
  pub post_accepted : well_formed s ≡ true → k < s.set.count → shut (door_at s k) (wait_at s k) ≡ false → held_by s (party_of s k) < places_of s.places (party_of s k) → post_of s k ≡ record { answer = Ok (record { stream = k; deadline = (new_message s k).deadline }); state = added s (new_message s k) }
  unfolding post_of
  post_accepted e h d g = rw (e, lt-ltb k s.set.count h, d, lt-ltb _ _ g)

  -- the five cases, told by what is said
  module _ {A : Type 0} (n : ℕ) (e : no_of (says_to_post s k) ≡ n) where
    by_post : (well_formed s ≡ false → 12 ≡ n → A) → (NotInSet s k → 1 ≡ n → A) → (DoorShut s k → 15 ≡ n → A) → (AllPlacesTaken s k → 2 ≡ n → A) → (0 ≡ n → A) → A
    unfolding no_of
    by_post f g b h a =
        by_test (well_formed s)
        (λ w. by_test (ltb k s.set.count)
        (λ x. by_test (shut (door_at s k) (wait_at s k))
        (λ d. b (record { formed = w; in_set = ltb-true k s.set.count x; is_shut = d }) (sym (ap no_of (post_early w (ltb-true k s.set.count x) d)) ∙ e))
        (λ d. by_test (has_place s k)
        (λ y. a (sym (ap (λ r. no_of (post_says r.answer)) (post_accepted w (ltb-true k s.set.count x) d (ltb-true _ _ y))) ∙ e))
        (λ y. let q : AllPlacesTaken s k = record { formed = w; in_set = ltb-true k s.set.count x; is_open = d; full = ltb-false _ _ y } in
        h q (sym (ap no_of (post_full w q.in_set q.is_open q.full)) ∙ e))))
        (λ x. let q : NotInSet s k = record { formed = w; beyond = ltb-false k s.set.count x } in g q (sym (ap no_of (post_no_stream w q.beyond)) ∙ e)))
        (λ w. f w (sym (ap no_of (post_ill w)) ∙ e))

  post_12 : says_to_post s k ≡ refused 12 → well_formed s ≡ false
  unfolding no_of
  post_12 e = by_post 12 (ap no_of e) (λ w q. w) (λ w q. absurd (omega arith)) (λ w q. absurd (omega arith)) (λ w q. absurd (omega arith)) (λ q. absurd (omega arith))

  post_1 : says_to_post s k ≡ refused 1 → NotInSet s k
  unfolding no_of
  post_1 e = by_post 1 (ap no_of e) (λ w q. absurd (omega arith)) (λ w q. w) (λ w q. absurd (omega arith)) (λ w q. absurd (omega arith)) (λ q. absurd (omega arith))

  post_15 : says_to_post s k ≡ refused 15 → DoorShut s k
  unfolding no_of
  post_15 e = by_post 15 (ap no_of e) (λ w q. absurd (omega arith)) (λ w q. absurd (omega arith)) (λ w q. w) (λ w q. absurd (omega arith)) (λ q. absurd (omega arith))

  post_2 : says_to_post s k ≡ refused 2 → AllPlacesTaken s k
  unfolding no_of
  post_2 e = by_post 2 (ap no_of e) (λ w q. absurd (omega arith)) (λ w q. absurd (omega arith)) (λ w q. absurd (omega arith)) (λ w q. w) (λ q. absurd (omega arith))

  post_same : (number : ℕ) → says_to_post s k ≡ refused number → (post_of s k).state ≡ s
  unfolding post_of
  post_same number e =
      by_test (well_formed s)
      (λ w. by_test (ltb k s.set.count)
      (λ h. by_test (shut (door_at s k) (wait_at s k))
      (λ d. rw (w, h, d))
      (λ d. by_test (has_place s k)
      (λ g. let q : posted k (new_message s k).deadline ≡ refused number = rw (w, h, d, g) at e in absurd (let z : ◌≡◌ {A = ℕ} 0 1 = cc in omega arith))
      (λ g. rw (w, h, d, g))))
      (λ h. rw (w, h)))
      (λ w. rw w)

pub one : One
unfolding One
one s k = (post_1 s k, λ q. post_no_stream s k q.formed q.beyond)

pub fifteen : Fifteen
unfolding Fifteen
fifteen s k = (post_15 s k, λ q. post_early s k q.formed q.in_set q.is_shut)

pub two : Two
unfolding Two
two s k = (post_2 s k, λ q. post_full s k q.formed q.in_set q.is_open q.full)

-- ---- choose

module _ (s : State) where
  choose_ill : well_formed s ≡ false → choose_says (choose_of s) ≡ refused 12
  unfolding choose_of
  choose_ill e = rw e

  choose_12 : choose_says (choose_of s) ≡ refused 12 → well_formed s ≡ false
  unfolding choose_of no_of
  choose_12 e =
      by_test (well_formed s)
      (λ w. by_test (eqb s.count 0)
      (λ z. let q : 0 ≡ 12 = rw (w, z) at (ap no_of e) in absurd (omega arith))
      (λ z. let q : 0 ≡ 12 = rw (w, z) at (ap no_of e) in absurd (omega arith)))
      (λ w. w)

-- ---- unit: "Unit 12, 3, 4."

-- a unit that serves a message is never refused
served_says : (s : State) (i : ℕ) (done : Bool) → no_of (unit_says (served_of s i done).answer) ≡ 0
unfolding served_of no_of
served_says s i true = by_test (eqb ((message_at s i).stage + 1) (stages_in s.set (message_at s i))) (λ z. rw z) (λ z. rw z)
served_says s i false = by_test (eqb ((message_at s i).used + 1) (cost_of s.set (message_at s i))) (λ z. rw z) (λ z. rw z)

served_not : (s : State) (i : ℕ) (done : Bool) (number : ℕ) → unit_says (served_of s i done).answer ≡ refused number → ⊥
unfolding served_of
served_not s i true number e =
    by_test (eqb ((message_at s i).stage + 1) (stages_in s.set (message_at s i)))
    (λ z. let q : finishes (task_of s.set (message_at s i)) (message_at s i).stream (laxity_of (message_at s i).deadline (s.clock + 1)) ≡ refused number = rw z at e in let z : ◌≡◌ {A = ℕ} 0 1 = cc in omega arith)
    (λ z. let q : passed (task_of s.set (message_at s i)) (message_at s i).stream ≡ refused number = rw z at e in let z : ◌≡◌ {A = ℕ} 0 1 = cc in omega arith)
served_not s i false number e =
    by_test (eqb ((message_at s i).used + 1) (cost_of s.set (message_at s i)))
    (λ z. let q : cut (task_of s.set (message_at s i)) (message_at s i).stream (laxity_of (message_at s i).deadline (s.clock + 1)) ≡ refused number = rw z at e in let z : ◌≡◌ {A = ℕ} 0 1 = cc in omega arith)
    (λ z. let q : ran (task_of s.set (message_at s i)) (message_at s i).stream ≡ refused number = rw z at e in let z : ◌≡◌ {A = ℕ} 0 1 = cc in omega arith)

empty_same : (s : State) (done : Bool) (number : ℕ) → unit_says (empty_unit s done).answer ≡ refused number → (empty_unit s done).state ≡ s
unfolding empty_unit
empty_same s true number e = refl
empty_same s false number e = absurd (let z : ◌≡◌ {A = ℕ} 0 1 = cc in omega arith)

empty_no : (s : State) (done : Bool) (number : ℕ) → no_of (unit_says (empty_unit s done).answer) ≡ suc number → (done ≡ true) × (number ≡ 3)
unfolding empty_unit no_of
empty_no s true number e = (refl, omega arith)
empty_no s false number e = absurd (omega arith)

module _ (s : State) (done : Bool) where
  unit_ill : well_formed s ≡ false → says_to_unit s done ≡ refused 12
  unfolding unit_of
  unit_ill e = rw e

  unit_last : well_formed s ≡ true → last_clock ≤ s.clock → says_to_unit s done ≡ refused 3
  unfolding unit_of
  unit_last e h = rw (e, le-ltb s.clock last_clock h)

  pub unit_empty : well_formed s ≡ true → s.clock < last_clock → s.count ≡ 0 → unit_of s done ≡ empty_unit s done
  unfolding unit_of
  unit_empty e h z = rw (e, lt-ltb s.clock last_clock h, eq-eqb s.count 0 z)

  pub unit_served : well_formed s ≡ true → s.clock < last_clock → (s.count ≡ 0 → ⊥) → unit_of s done ≡ served_of s (place_of s) done
  unfolding unit_of
  unit_served e h z = rw (e, lt-ltb s.clock last_clock h, ne_eqb s.count 0 z)

  unit_done : DoneWithNothing s done → says_to_unit s done ≡ refused 4
  unfolding empty_unit
  unit_done q = rw (unit_empty q.formed q.early q.nothing, q.is_done)

  -- the cases, told by what is said
  module _ {A : Type 0} (n : ℕ) (e : no_of (says_to_unit s done) ≡ suc n) where
    by_unit : (well_formed s ≡ false → 12 ≡ suc n → A) → (AtLastClock s → 3 ≡ suc n → A) → (DoneWithNothing s done → 4 ≡ suc n → A) → A
    unfolding no_of
    by_unit f g h =
        by_test (well_formed s)
        (λ w. by_test (ltb s.clock last_clock)
        (λ x. by_test (eqb s.count 0)
        (λ z.
        let y = empty_no s done n (sym (ap (λ r. no_of (unit_says r.answer)) (unit_empty w (ltb-true s.clock last_clock x) (eqb-true s.count 0 z))) ∙ e) in
        h (record { formed = w; early = ltb-true s.clock last_clock x; nothing = eqb-true s.count 0 z; is_done = y.0 }) (omega (arith, y.1)))
        (λ z. absurd (omega (
          arith,
          e,
          ap (λ r. no_of (unit_says r.answer)) (unit_served w (ltb-true s.clock last_clock x) (eqb-false s.count 0 z)),
          served_says s (place_of s) done,
        ))))
        (λ x. let q : AtLastClock s = record { formed = w; last = ltb-false s.clock last_clock x } in g q (sym (ap no_of (unit_last w q.last)) ∙ e)))
        (λ w. f w (sym (ap no_of (unit_ill w)) ∙ e))

  unit_12 : says_to_unit s done ≡ refused 12 → well_formed s ≡ false
  unfolding no_of
  unit_12 e = by_unit 11 (ap no_of e) (λ w q. w) (λ w q. absurd (omega arith)) (λ w q. absurd (omega arith))

  unit_3 : says_to_unit s done ≡ refused 3 → AtLastClock s
  unfolding no_of
  unit_3 e = by_unit 2 (ap no_of e) (λ w q. absurd (omega arith)) (λ w q. w) (λ w q. absurd (omega arith))

  unit_4 : says_to_unit s done ≡ refused 4 → DoneWithNothing s done
  unfolding no_of
  unit_4 e = by_unit 3 (ap no_of e) (λ w q. absurd (omega arith)) (λ w q. absurd (omega arith)) (λ w q. w)

  unit_same : (number : ℕ) → says_to_unit s done ≡ refused number → (unit_of s done).state ≡ s
  unfolding unit_of
  unit_same number e =
      by_test (well_formed s)
      (λ w. by_test (ltb s.clock last_clock)
      (λ h. by_test (eqb s.count 0)
      (λ z. rw (w, h, z) (empty_same s done number (rw (w, h, z) at e)))
      (λ z. absurd (served_not s (place_of s) done number (rw (w, h, z) at e))))
      (λ h. rw (w, h)))
      (λ w. rw w)

pub three : Three
unfolding Three
three s done = (unit_3 s done, λ q. unit_last s done q.formed q.last)

pub four : Four
unfolding Four
four s done = (unit_4 s done, unit_done s done)

pub twelve : Twelve
unfolding Twelve
twelve s = record {
  post = λ k. (post_12 s k, post_ill s k);
  choose = (choose_12 s, choose_ill s);
  unit = λ done. (unit_12 s done, unit_ill s done);
}

pub refused_same : RefusedSame
unfolding RefusedSame call_of
refused_same s (Posts k) number e = post_same s k number e
refused_same s (Units done) number e = unit_same s done number e

-- ---- a call's refusals are those of document 01's table, and 15: none is a recording's, 13 or 14

abbrev pub NotOfRecordings : ℕ → Type 0
NotOfRecordings n = (n ≡ 13 → ⊥) × (n ≡ 14 → ⊥)

post_own : (s : State) (k : ℕ) → NotOfRecordings (no_of (says_to_post s k))
post_own s k =
    by_post s k (no_of (says_to_post s k)) refl
    (λ w q. (λ z. omega arith, λ z. omega arith))
    (λ w q. (λ z. omega arith, λ z. omega arith))
    (λ w q. (λ z. omega arith, λ z. omega arith))
    (λ w q. (λ z. omega arith, λ z. omega arith))
    (λ q. (λ z. omega arith, λ z. omega arith))

empty_low : (s : State) (done : Bool) → no_of (unit_says (empty_unit s done).answer) ≤ 12
unfolding empty_unit no_of
empty_low s true = omega arith
empty_low s false = omega arith

unit_low : (s : State) (done : Bool) → no_of (unit_says (unit_of s done).answer) ≤ 12
unfolding unit_of no_of
unit_low s done =
    by_test (well_formed s)
    (λ w. by_test (ltb s.clock last_clock)
    (λ i. by_test (eqb s.count 0) (λ z. rw (w, i, z) (empty_low s done)) (λ z. rw (w, i, z) (omega (arith, served_says s (place_of s) done))))
    (λ i. rw (w, i) (omega arith)))
    (λ w. rw w (omega arith))

pub call_own : (s : State) (c : Call) (number : ℕ) → call_says (call_of s c).answer ≡ refused number → NotOfRecordings number
unfolding call_of no_of
call_own s (Posts k) number e = rw (ap no_of e) at (post_own s k)
call_own s (Units done) number e =
    let n : number ≤ 12 = omega (arith, unit_low s done, ap no_of e) in
    (λ z. omega arith, λ z. omega arith)
