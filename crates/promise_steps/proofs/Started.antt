-- Each task has at most one message with a used unit: what a post, a departure and a used unit leave of it. Assumes nothing.
use Prim.Native.Nat.{ℕ, ◌+◌, ◌≤◌, ◌<◌}
use mathlib.Core.Bool.{Bool, true, false, cond, ◌&&◌}
use mathlib.Core.List.{List, [], ◌∷◌, ◌++◌}
use mathlib.Core.Logic.{◌≢◌, ⊎_elim}
use mathlib.Core.Path.{◌≡◌, refl, sym, ◌∙◌}
use native.Mathlib.Omega.{arith}
use borrow.Author.Tests.{leb-true, le-leb, lt-ltb, le-ltb, eq-eqb, ne_eqb}
use lib.Dec.{ltb, eqb}
use Rattle.std.specs.List.{list_all}
use Rattle.laws.specs.Lists.{below, sum, count}
use Rattle.laws.proofs.Sums.{sum_append}
use Rattle.laws.proofs.Parts.{below_all, below_at}
use Rattle.laws.proofs.Gates.{eq_or_ne, sum_last, sum_at, sum_zero, Each}
use Rattle.rules.specs.declared.Set.{Set}
use Rattle.rules.specs.declared.Message.{Message}
use Rattle.rules.specs.States.{task_of, started_of, started_once}
use Rattle.rules.specs.Steps.{gained}

module _ (x : Set) where
  -- 1 if m has started on the task t
  abbrev one : ℕ → Message → ℕ
  one t m = cond (started_of x t m) 1 0

  abbrev pub Once : List Message → Type 0
  Once l = (t : ℕ) → t < 16 → count (started_of x t) l ≤ 1

  pub once : (l : List Message) → list_all (started_once x l) (below 16) ≡ true → Once l
  unfolding started_once
  once l e t h = leb-true (count (started_of x t) l) 1 (below_at (started_once x l) 16 t e h)

  pub once_ok : (l : List Message) → Once l → list_all (started_once x l) (below 16) ≡ true
  unfolding started_once
  once_ok l o = below_all (started_once x l) 16 (λ t h. le-leb (count (started_of x t) l) 1 (o t h))

  small : (b : Bool) → cond b 1 0 ≤ 1
  small true = omega arith
  small false = omega arith

  unstarted : (t : ℕ) (m : Message) → m.used ≡ 0 → one t m ≡ 0
  unstarted t m e = rw (le-ltb 0 m.used (omega arith))

  started : (t : ℕ) (m : Message) → 0 < m.used → task_of x m ≡ t → one t m ≡ 1
  started t m h e = rw (lt-ltb 0 m.used h, eq-eqb (task_of x m) t e)

  other : (t : ℕ) (m : Message) → task_of x m ≢ t → one t m ≡ 0
  other t m f = no_and (ltb 0 m.used) (eqb (task_of x m) t) (ne_eqb (task_of x m) t f)
    where
      no_and : (a b : Bool) → b ≡ false → ◌≡◌ {A = ℕ} (cond (a && b) 1 0) 0
      no_and true b e = rw e
      no_and false b e = refl

  -- a new message has not started
  pub once_last : (l : List Message) (m : Message) → m.used ≡ 0 → Once l → Once (l ++ (m ∷ []))
  unfolding count
  once_last l m e o t h = omega (arith, o t h, sum_last (one t) l m, unstarted t m e)

  pub once_leave : (xs : List Message) (m : Message) (ys : List Message) → Once (xs ++ (m ∷ ys)) → Once (xs ++ ys)
  unfolding count
  once_leave xs m ys o t h = omega (arith, o t h, sum_at (one t) xs m ys, sum_append (one t) xs ys)

  -- a message passes on: what is in its place has no unit used
  pub once_unstarted : (xs : List Message) (m n : Message) (ys : List Message) → n.used ≡ 0 → Once (xs ++ (m ∷ ys)) → Once (xs ++ (n ∷ ys))
  unfolding count
  once_unstarted xs m n ys e o t h = omega (arith, o t h, sum_at (one t) xs m ys, sum_at (one t) xs n ys, unstarted t n e)

  -- a message gains a unit: it had started, or no message of its task had
  pub once_gain : (xs : List Message) (m : Message) (ys : List Message) → (m.used ≡ 0 → Each (λ y. task_of x y ≡ task_of x m → y.used ≡ 0) (xs ++ (m ∷ ys))) → Once (xs ++ (m ∷ ys)) → Once (xs ++ (gained m ∷ ys))
  unfolding count
  once_gain xs m ys none o t h = ⊎_elim
      (λ (q : task_of x m ≡ t). ⊎_elim
      (λ (e : m.used ≡ 0). omega (arith, new, old, small (started_of x t (gained m)), sum_zero (one t) (xs ++ (m ∷ ys)) (others q e)))
      (λ (e : m.used ≢ 0). omega (arith, new, old, small (started_of x t (gained m)), o t h, started t m (omega arith) q))
      (eq_or_ne m.used 0))
      (λ (q : task_of x m ≢ t). omega (arith, new, old, o t h, other t (gained m) q))
      (eq_or_ne (task_of x m) t)
    where
      new : sum (one t) (xs ++ (gained m ∷ ys)) ≡ sum (one t) xs + one t (gained m) + sum (one t) ys
      new = sum_at (one t) xs (gained m) ys

      old : sum (one t) (xs ++ (m ∷ ys)) ≡ sum (one t) xs + one t m + sum (one t) ys
      old = sum_at (one t) xs m ys

      others : task_of x m ≡ t → m.used ≡ 0 → Each (λ y. one t y ≡ 0) (xs ++ (m ∷ ys))
      others q e y i = ⊎_elim
          (λ (p : task_of x y ≡ t). unstarted t y (none e y i (p ∙ sym q)))
          (λ (p : task_of x y ≢ t). other t y p)
          (eq_or_ne (task_of x y) t)
