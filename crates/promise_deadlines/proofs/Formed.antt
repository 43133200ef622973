-- What is true at every moment of a run, whatever the load: messages keep their rules, none was posted in the future, each task has started at most one.
-- Assumes nothing.
use Prim.Native.Nat.{ℕ, suc, ◌+◌, ◌≤◌, ◌<◌}
use mathlib.Core.List.{List, [], ◌∷◌, ◌++◌}
use mathlib.Core.Logic.{◌≢◌, ⊎_elim}
use mathlib.Core.Path.{◌≡◌, sym, ap, ◌∙◌}
use native.Mathlib.Omega.{arith}
use Rattle.laws.specs.Lists.{sum}
use Rattle.laws.proofs.Sums.{sum_none}
use Rattle.laws.proofs.Gates.{eq_or_ne, ifle, ifle_yes, ifle_no, ifeq, ifeq_yes, ifeq_no, sum_one, sum_last, sum_mid, sum_at, sum_zero, Each, mem_here, each_nil, each_one, each_last, each_mid}
use Rattle.promise_deadlines.specs.Model.{Model, Choice, Stays, After, leaves, stays, Reaches, start, post, unit, idle}

module _ (𝓜 : Model) where
  open 𝓜 use {Msg, stream, task, deadline, hold, Fine, Post, Departure, span}

  -- ---- what a unit makes of the chosen message

  pub after_each : (P : Msg → Type 0) {t : ℕ} {x : Msg} {r : List Msg} {e : List Departure} → After 𝓜 t x r e → ((y : Msg) → Stays 𝓜 x y → P y) → Each P r
  after_each P (leaves _) f = each_nil P
  after_each P (stays {y = y} k) f = each_one P (f y k)

  -- a bound on the sum over what is left of it
  pub after_sum : (f : Msg → ℕ) (b : ℕ) {t : ℕ} {x : Msg} {r : List Msg} {e : List Departure} → After 𝓜 t x r e → ((y : Msg) → Stays 𝓜 x y → f y ≤ b) → sum f r ≤ b
  after_sum f b (leaves _) h = omega (arith, sum_none f)
  after_sum f b (stays {y = y} k) h = omega (arith, sum_one f y, h y k)

  -- ---- 1 if m has started on the task k

  unfoldable pub started : ℕ → Msg → ℕ
  started k m = ifeq (task m) k (ifle 1 (hold m) 1)

  started_none : (k : ℕ) (m : Msg) → hold m ≡ 0 → started k m ≡ 0
  unfolding started
  started_none k m e = ⊎_elim
      (λ (q : task m ≡ k). ifeq_yes (task m) k (ifle 1 (hold m) 1) q ∙ ifle_no 1 (hold m) 1 (omega arith))
      (λ (q : task m ≢ k). ifeq_no (task m) k (ifle 1 (hold m) 1) q)
      (eq_or_ne (task m) k)

  started_other : (k : ℕ) (m : Msg) → task m ≢ k → started k m ≡ 0
  unfolding started
  started_other k m q = ifeq_no (task m) k (ifle 1 (hold m) 1) q

  pub started_same : (k : ℕ) (m : Msg) → task m ≡ k → 0 < hold m → started k m ≡ 1
  unfolding started
  started_same k m q p = ifeq_yes (task m) k (ifle 1 (hold m) 1) q ∙ ifle_yes 1 (hold m) 1 p

  started_le : (k : ℕ) (m : Msg) → started k m ≤ 1
  started_le k m = ⊎_elim
      (λ (e : hold m ≡ 0). omega (arith, started_none k m e))
      (λ (e : hold m ≢ 0). ⊎_elim
      (λ (q : task m ≡ k). omega (arith, started_same k m q (omega arith)))
      (λ (q : task m ≢ k). omega (arith, started_other k m q))
      (eq_or_ne (task m) k))
      (eq_or_ne (hold m) 0)

  stays_started : (k : ℕ) (x y : Msg) → Stays 𝓜 x y → task x ≢ k → started k y ≤ 0
  stays_started k x y κ q = ⊎_elim
      (λ (e : hold y ≡ 0). omega (arith, started_none k y e))
      (λ (e : task y ≡ task x). omega (arith, started_other k y (λ (p : task y ≡ k). q (sym e ∙ p))))
      κ.same_task

  -- at most one message of each task has started: a message is started only where its task has none that is
  one_unit : {t : ℕ} (xs : List Msg) (x : Msg) (ys r : List Msg) (e : List Departure) → Choice 𝓜 (xs ++ (x ∷ ys)) x → After 𝓜 t x r e
      → (k : ℕ) → sum (started k) (xs ++ (x ∷ ys)) ≤ 1 → sum (started k) (xs ++ (r ++ ys)) ≤ 1
  one_unit xs x ys r e ch af k h = ⊎_elim
      (λ (q : task x ≡ k). ⊎_elim
      (λ (e : hold x ≡ 0). omega (arith, new, after_sum (started k) 1 af (λ y _. started_le k y), old, sum_zero (started k) (xs ++ (x ∷ ys)) (none q e)))
      (λ (e : hold x ≢ 0). omega (arith, new, old, h, after_sum (started k) 1 af (λ y _. started_le k y), started_same k x q (omega arith)))
      (eq_or_ne (hold x) 0))
      (λ (q : task x ≢ k). omega (arith, new, old, h, after_sum (started k) 0 af (λ y κ. stays_started k x y κ q)))
      (eq_or_ne (task x) k)
    where
      new : sum (started k) (xs ++ (r ++ ys)) ≡ sum (started k) xs + sum (started k) r + sum (started k) ys
      new = sum_mid (started k) xs r ys

      old : sum (started k) (xs ++ (x ∷ ys)) ≡ sum (started k) xs + started k x + sum (started k) ys
      old = sum_at (started k) xs x ys

      none : task x ≡ k → hold x ≡ 0 → Each (λ z. started k z ≡ 0) (xs ++ (x ∷ ys))
      none q e z i = ⊎_elim
          (λ (p : task z ≡ k). started_none k z (ch.none_started e z i (p ∙ sym q)))
          (λ (p : task z ≢ k). started_other k z p)
          (eq_or_ne (task z) k)

  -- ---- what every moment keeps

  -- m was not posted after the clock t
  abbrev pub Soon : ℕ → Msg → Type 0
  Soon t m = deadline m ≤ t + span (stream m)

  pub record Formed (t : ℕ) (l : List Msg) : Type 0 where
    pub fine : Each Fine l
    pub soon : Each (Soon t) l
    pub one : (k : ℕ) → sum (started k) l ≤ 1

  empty_formed : (t : ℕ) → Formed t []
  empty_formed t = record { fine = each_nil Fine; soon = each_nil (Soon t); one = λ k. omega (arith, sum_none (started k)) }

  pub formed : {t : ℕ} {l : List Msg} {h : List Post} {ds : List Departure} → Reaches 𝓜 t l h ds → Formed t l
  formed start = empty_formed 0
  formed (post {t = t} {l = l} run p m n) =
      let w : Formed t l = formed run in
      record {
        fine = each_last Fine l w.fine n.fine;
        soon = each_last (Soon t) l w.soon (omega (arith, n.message.until, n.now, ap span n.message.to));
        one = λ k. omega (arith, w.one k, sum_last (started k) l m, started_none k m n.unstarted);
      }
  formed (unit {t = t} xs x ys r e run ch af) =
      let w : Formed t (xs ++ (x ∷ ys)) = formed run in
      record {
        fine = each_mid Fine xs x ys r w.fine (after_each Fine af (λ y κ. κ.still_fine));
        soon = each_mid (Soon (suc t)) xs x ys r
            (λ m i. omega (arith, w.soon m i))
            (after_each (Soon (suc t)) af (λ y κ. omega (arith, w.soon x (mem_here xs x ys), κ.same_deadline, ap span κ.same_stream)));
        one = λ k. one_unit xs x ys r e ch af k (w.one k);
      }
  formed (idle {t = t} run) = empty_formed (suc t)
