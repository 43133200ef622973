-- Laws about the two parties: whose a stream is, and how many messages each has.
-- Assumes nothing.
use Prim.Native.Nat.{ℕ, zero, suc, ◌+◌, ◌-◌, ◌≤◌}
use mathlib.Core.Bool.{true, cond, false≢true}
use mathlib.Core.List.{List, [], ◌∷◌, ◌++◌}
use mathlib.Core.Path.{◌≡◌, refl, ap, sym, ◌∙◌}
use native.Mathlib.Omega.{arith}
use lib.ListN.{length, take, drop, replicate, length-append, length-replicate}
use lib.Seq.{length-take-le, drop-append_seam}
use Rattle.std.specs.List.{list_all}
use Rattle.laws.specs.Lists.{sum, count}
use Rattle.laws.proofs.Gates.{sum_last}
use Rattle.laws.proofs.Sums.{by_test}
use Rattle.rules.specs.declared.Set.{Set}
use Rattle.rules.specs.declared.Message.{Message}
use Rattle.rules.specs.declared.Party.{Party}
use Rattle.rules.specs.declared.Party.TheVariants.{Ours, Theirs}
use Rattle.rules.specs.Parties.{same, ours, party_at, belongs, held_of, owner_unused, owners_for, all_ours, all_places}
use Rattle.rules.specs.declared.Call.{Call}
use Rattle.rules.specs.declared.StartResult.{StartResult}
use Rattle.rules.specs.Streams.{Placed, valid}
use Rattle.rules.specs.Steps.{start_of, start_for}
use Rattle.rules.specs.Runs.{Run, Starts, alone, start_at, begin_for, run_from, run_for, begin, run_of}
use Rattle.rules.proofs.Valid.{valid_set}

pub same_self : (p : Party) → same p p ≡ true
unfolding same
same_self Ours = refl
same_self Theirs = refl

pub same_is : (p q : Party) → same p q ≡ true → p ≡ q
unfolding same
same_is Ours Ours e = refl
same_is Ours Theirs e = absurd (false≢true e)
same_is Theirs Ours e = absurd (false≢true e)
same_is Theirs Theirs e = refl

-- each message is one party's
one_side : (p : Party) → ◌≡◌ {A = ℕ} (cond (same p Ours) 1 0 + cond (same p Theirs) 1 0) 1
unfolding same
one_side Ours = refl
one_side Theirs = refl

pub held_both : (owners : List Party) (ms : List Message) → held_of owners Ours ms + held_of owners Theirs ms ≡ length ms
unfolding count sum
held_both owners [] = refl
held_both owners (m ∷ ms) = omega (arith, held_both owners ms, one_side (party_at owners m.stream))

pub held_none : (owners : List Party) (p : Party) → held_of owners p [] ≡ 0
unfolding count sum
held_none owners p = refl

pub held_last : (owners : List Party) (p : Party) (ms : List Message) (m : Message) → held_of owners p (ms ++ (m ∷ [])) ≡ held_of owners p ms + cond (belongs owners p m) 1 0
unfolding count
held_last owners p ms m = sum_last (λ (x : Message). cond (belongs owners p x) 1 0) ms m

-- ---- the owners of a start

all_unused : (n : ℕ) → list_all owner_unused (replicate n ours) ≡ true
unfolding owner_unused same
all_unused zero = refl
all_unused (suc n) = all_unused n

module _ (n : ℕ) (owners : List Party) (long : length owners ≡ 16) (few : n ≤ 16) where
  pub owners_length : length (owners_for n owners) ≡ 16
  owners_length = omega (arith, length-append (take n owners) (replicate (16 - n) ours), length-take-le n owners (omega arith), length-replicate {A = Party} (16 - n) ours)

  pub owners_unused : list_all owner_unused (drop n (owners_for n owners)) ≡ true
  owners_unused =
      ap (λ (k : ℕ). list_all owner_unused (drop k (owners_for n owners))) (sym (length-take-le n owners (omega arith)))
      ∙ ap (list_all owner_unused) (drop-append_seam (take n owners) (replicate (16 - n) ours))
      ∙ all_unused (16 - n)

filled : (n k : ℕ) → n ≤ k → take n (replicate k ours) ++ replicate (k - n) ours ≡ replicate k ours
filled zero k h = ap (λ (j : ℕ). replicate j ours) (let e : k - 0 ≡ k = omega arith in e)
filled (suc n) zero h = absurd (omega arith)
filled (suc n) (suc k) h =
    ap (λ (l : List Party). ours ∷ l) (ap (λ (j : ℕ). take n (replicate k ours) ++ replicate j ours) (let e : suc k - suc n ≡ k - n = omega arith in e) ∙ filled n k (omega arith))

pub owners_alone : (n : ℕ) → n ≤ 16 → owners_for n all_ours ≡ all_ours
owners_alone n h = filled n 16 h

-- the start of a set alone is that with all streams ours and all places
pub start_alone : (x : Set) → start_for x all_ours all_places ≡ start_of x
unfolding start_for start_of
start_alone x = by_test (valid x)
    (λ e. rw (e, owners_alone x.count (valid_set x e).count))
    (λ e. rw e)

-- ---- a run of a set alone

pub begin_alone : (x : Set) → begin_for (alone x) ≡ begin x
unfolding begin_for begin
begin_alone x = ap (λ (r : StartResult). start_at r.state) (start_alone x)

pub run_alone : (x : Set) (calls : List Call) → run_for (alone x) calls ≡ run_of x calls
unfolding run_for run_of
run_alone x calls = ap (λ (r : Run). run_from r calls) (begin_alone x)

pub starts_alone : (x : Set) → Placed x → valid x ≡ true → Starts (alone x)
starts_alone x h e = record { boxed = record { set = h; owners = refl }; valid_set = e; few = omega arith }
