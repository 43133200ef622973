-- What document 01 says of the steps, as theorems: a started message is never put back, a place freed takes the next post, and the laxity.
-- Assumes nothing.
use Prim.Native.Nat.{ℕ, zero, suc, ◌+◌, ◌-◌, ◌≤◌, ◌<◌}
use mathlib.Core.Bool.{Bool, true, false}
use mathlib.Core.Path.{◌≡◌, refl, ap, sym, ◌∙◌}
use native.Mathlib.Omega.{arith}
use borrow.Author.Tests.{lt-ltb, le-ltb, ltb-true, ltb-false, eq-eqb}
use lib.Dec.{ltb}
use lib.IntN.{pos, negsuc}
use lib.ListN.{length}
use Rattle.laws.specs.Lists.{count}
use Rattle.laws.proofs.Sums.{by_test}
use Rattle.laws.proofs.Parts.{count_two}
use Rattle.rules.specs.declared.State.{State}
use Rattle.std.specs.Prelude.{Ok}
use Rattle.rules.specs.States.{no_message, pending, party_of, held_by, task_of, started_of}
use Rattle.rules.specs.Doors.{shut}
use Rattle.rules.specs.Steps.{door_at, wait_at, new_message, added, post_of, message_at, place_of, departed, laxity_of, unit_of}
use Rattle.state_formed.proofs.WellFormed.{well_formed_lem, in_range, task_in}
use Rattle.state_choosing.specs.Words.{at}
use Rattle.state_choosing.proofs.Choice.{choice, place_in, all_pending, pending_at}
use Rattle.promise_steps.proofs.Started.{once}
use Rattle.promise_steps.specs.Formed.{Formed, UnitKeeps}
use Rattle.promise_steps.proofs.Kept.{fit, unit_keeps}
use Rattle.promise_steps.proofs.Pending.{one as one_of, held_departed}
use Rattle.rules.proofs.Parties.{same_self}
use Rattle.rules.specs.Parties.{owns}
use Rattle.promise_steps.proofs.Refusals.{post_accepted}

-- "A started message put back when a more urgent one comes. It runs on": while a task has a started message, it serves no other
module _ (s : State) (h : Formed s) (some : s.count ≡ 0 → ⊥) (j : ℕ) (q : j < s.count) (same : task_of s.set (message_at s j) ≡ task_of s.set (message_at s (place_of s))) (begun : 0 < (message_at s j).used) where
  ms : length s.messages ≡ 64
  ms = h.housed.places

  ss : length s.set.streams ≡ 16
  ss = h.housed.set.sixteen

  k : ℕ
  k = place_of s

  k_in : place_of s < s.count
  k_in = place_in s h.formed ms ss some

  here : (i : ℕ) → i < s.count → at (pending s) i ≡ message_at s i
  here i r = pending_at s h.formed ms ss i r

  listed : (i : ℕ) → i < s.count → i < length (pending s)
  listed i r = omega (arith, all_pending s h.formed ms ss)

  k_begun : 0 < (message_at s (place_of s)).used
  k_begun =
      rw (here (place_of s) k_in) at
      ((choice s h.formed ms ss some).started j (listed j q) (rw (here j q, here (place_of s) k_in) same) (rw (here j q) begun))

  passes : (i : ℕ) → i < s.count → task_of s.set (message_at s i) ≡ task_of s.set (message_at s j) → 0 < (message_at s i).used → started_of s.set (task_of s.set (message_at s j)) (at (pending s) i) ≡ true
  passes i r e u = rw (here i r, lt-ltb 0 (message_at s i).used u, eq-eqb (task_of s.set (message_at s i)) (task_of s.set (message_at s j)) e)

  one : count (started_of s.set (task_of s.set (message_at s j))) (pending s) ≤ 1
  one = once s.set (pending s) (well_formed_lem s h.formed).once (task_of s.set (message_at s j)) (task_in s (in_range s h.formed) ms j q ss)

  apart : (a b : ℕ) → a < b → b < s.count → started_of s.set (task_of s.set (message_at s j)) (at (pending s) a) ≡ true → started_of s.set (task_of s.set (message_at s j)) (at (pending s) b) ≡ true → ⊥
  apart a b l r e f = omega (arith, one, count_two (started_of s.set (task_of s.set (message_at s j))) (pending s) no_message a b l (listed b r) e f)

  pub never_put_back : place_of s ≡ j
  never_put_back =
      by_test (ltb (place_of s) j)
      (λ e. absurd (apart (place_of s) j (ltb-true (place_of s) j e) q (passes (place_of s) k_in (sym same) k_begun) (passes j q refl begun)))
      (λ e. by_test (ltb j (place_of s))
      (λ f. absurd (apart j (place_of s) (ltb-true j (place_of s) f) k_in (passes j q refl begun) (passes (place_of s) k_in (sym same) k_begun)))
      (λ f. omega (arith, ltb-false (place_of s) j e, ltb-false j (place_of s) f)))

-- "A place freed by a leaving message takes the next post", one of the same party that does not come early
pub freed_place : (s : State) (done : Bool) (i k : ℕ) → Formed s → (unit_of s done).state ≡ departed s i → i < s.count → party_of s (message_at s i).stream ≡ party_of s k
    → k < s.set.count → shut (door_at (departed s i) k) (wait_at (departed s i) k) ≡ false
    → post_of (unit_of s done).state k ≡ record { answer = Ok (record { stream = k; deadline = (new_message (departed s i) k).deadline }); state = added (departed s i) (new_message (departed s i) k) }
unfolding UnitKeeps
freed_place s done i k h e c o q d =
    let p : Formed (unit_of s done).state = unit_keeps s done h in
    let w = well_formed_lem s h.formed in
    let one_less : held_by s (party_of s k) ≡ held_by (departed s i) (party_of s k) + one_of (owns s.owners (party_of s k)) (message_at s i).stream =
    held_departed (owns s.owners (party_of s k)) s h.housed.places i w.few c in
    let its : one_of (owns s.owners (party_of s k)) (message_at s i).stream ≡ 1 = rw (o, same_self (party_of s k)) in
    rw e (post_accepted (departed s i) k (rw e at p.formed) q d (omega (arith, one_less, its, fit s h (party_of s k))))

-- the laxity, exact above, at and below zero

pub laxity_in_time : (d c : ℕ) → c ≤ d → laxity_of d c ≡ pos (d - c)
unfolding laxity_of
laxity_in_time d zero h = ap pos (let e : d + 0 ≡ d - 0 = omega arith in e)
laxity_in_time d (suc c) h = rw (le-ltb d (suc c) h)

pub laxity_late : (d c : ℕ) → d < c → laxity_of d c ≡ negsuc (c - d - 1)
unfolding laxity_of
laxity_late d zero h = absurd (let z : d < 0 = h in omega arith)
laxity_late d (suc c) h = rw (lt-ltb d (suc c) h) (ap negsuc (let e : suc c - suc d ≡ suc c - d - 1 = omega arith in e))

pub laxity_zero : (d : ℕ) → laxity_of d d ≡ pos 0
laxity_zero d = laxity_in_time d d (omega arith) ∙ ap pos (let e : d - d ≡ 0 = omega arith in e)
