-- The deadline argument: a run whose posts keep the event limits has no pending message at or past its deadline, if demand(I) is at most I for every I.
-- Assumes nothing.
use Prim.Native.Nat.{ℕ, suc, ◌+◌, ◌-◌, ◌*◌, ◌≤◌, ◌<◌}
use mathlib.Core.Bool.{cond}
use mathlib.Core.List.{List, [], ◌∷◌, ◌++◌}
use mathlib.Core.Logic.{◌≢◌, ⊎_elim}
use mathlib.Core.Path.{◌≡◌, refl, sym, ap, subst, ◌∙◌}
use native.Mathlib.Nat.{mul-le-mul_left}
use native.Mathlib.Omega.{arith}
use lib.Dec.{T, leb, eqb, le→leb}
use Rattle.laws.specs.Lists.{within, below, sum, count}
use Rattle.laws.proofs.Sums.{sum_none}
use Rattle.laws.proofs.Gates.{le_or_lt, eq_or_ne, both_pass, same_pass, cond_yes, ifle, ifle_yes, ifle_no, ifeq, ifeq_yes, ifeq_no, range_mono, range_bump, sum_last, sum_mid, sum_at, sum_scale, sum_zero, sum_member, Each, mem_here, each_nil, each_last, each_mid}
use Rattle.promise_deadlines.specs.Model.{Model, in_window, Keeps, due, blocked, demand, Fits, New, Choice, After, Reaches, start, post, unit, idle}
use Rattle.promise_deadlines.proofs.Formed.{after_each, after_sum, started, started_same, Soon, Formed, formed}

module _ (𝓜 : Model) where
  open 𝓜 use {Msg, stream, task, deadline, rest, hold, Post, post_stream, post_clock, Departure, streams, tasks, cost, span, limit, cap, Urgent, blocking_urgent, live, task_in, capped, urges}

  -- ---- the account for a time D: it is kept while the clock is at most D

  -- what m may still take, if it is due by D
  unfoldable pub work : ℕ → Msg → ℕ
  work D m = ifle (deadline m) D (rest m)

  -- what the task k owes to m, if m has started on it and is due after D
  unfoldable pub debt : ℕ → ℕ → Msg → ℕ
  debt D k m = ifeq (task m) k (ifle (suc D) (deadline m) (hold m))

  -- the cost of the posts to s since z that are due by D
  unfoldable pub supply : ℕ → ℕ → List Post → ℕ → ℕ
  supply D z h s = ifle (span s) (D - z) (cost s * count (in_window 𝓜 s z (D - z - span s)) h)

  -- if m is due by D, it was posted at z or later
  abbrev pub Young : ℕ → ℕ → Msg → Type 0
  Young D z m = deadline m ≤ D → z + span (stream m) ≤ deadline m

  -- if m is due after D and has started, it was posted before z
  abbrev pub Old : ℕ → ℕ → Msg → Type 0
  Old D z m = D < deadline m → 0 < hold m → deadline m < z + span (stream m)

  -- z: the clock after the last unit that was idle or whose task's deadline was after D. b k: the units since z of the task k for messages due after D
  pub record Account (D t : ℕ) (l : List Msg) (h : List Post) : Type 0 where
    pub z : ℕ
    pub b : ℕ → ℕ
    pub past : z ≤ t
    pub balance : t + sum (work D) l ≤ z + sum (supply D z h) (below streams) + sum b (below tasks)
    pub paid : (k : ℕ) → b k + sum (debt D k) l ≤ cap k (D - z)
    pub cause : (k : ℕ) → 0 < b k → Urgent k (D - z)
    pub young : Each (Young D z) l
    pub old : Each (Old D z) l

  work_in : (D : ℕ) (m : Msg) → deadline m ≤ D → work D m ≡ rest m
  unfolding work
  work_in D m h = ifle_yes (deadline m) D (rest m) h

  work_out : (D : ℕ) (m : Msg) → D < deadline m → work D m ≡ 0
  unfolding work
  work_out D m h = ifle_no (deadline m) D (rest m) h

  debt_le : (D k : ℕ) (m : Msg) → debt D k m ≤ hold m
  unfolding debt
  debt_le D k m = ⊎_elim
      (λ (q : task m ≡ k). ⊎_elim
      (λ (p : D < deadline m). omega (arith, ifeq_yes (task m) k (ifle (suc D) (deadline m) (hold m)) q, ifle_yes (suc D) (deadline m) (hold m) p))
      (λ (p : deadline m < suc D). omega (arith, ifeq_yes (task m) k (ifle (suc D) (deadline m) (hold m)) q, ifle_no (suc D) (deadline m) (hold m) p))
      (le_or_lt (suc D) (deadline m)))
      (λ (q : task m ≢ k). omega (arith, ifeq_no (task m) k (ifle (suc D) (deadline m) (hold m)) q))
      (eq_or_ne (task m) k)

  debt_in : (D k : ℕ) (m : Msg) → task m ≡ k → D < deadline m → debt D k m ≡ hold m
  unfolding debt
  debt_in D k m q p = ifeq_yes (task m) k (ifle (suc D) (deadline m) (hold m)) q ∙ ifle_yes (suc D) (deadline m) (hold m) p

  debt_other : (D k : ℕ) (m : Msg) → task m ≢ k → debt D k m ≡ 0
  unfolding debt
  debt_other D k m q = ifeq_no (task m) k (ifle (suc D) (deadline m) (hold m)) q

  debt_early : (D k : ℕ) (m : Msg) → deadline m ≤ D → debt D k m ≡ 0
  unfolding debt
  debt_early D k m p = ⊎_elim
      (λ (q : task m ≡ k). ifeq_yes (task m) k (ifle (suc D) (deadline m) (hold m)) q ∙ ifle_no (suc D) (deadline m) (hold m) (omega arith))
      (λ (q : task m ≢ k). debt_other D k m q)
      (eq_or_ne (task m) k)

  -- ---- the account begins anew: nothing pending is due by D

  fresh : (D t : ℕ) (l : List Msg) (h : List Post) → suc t ≤ D → Formed 𝓜 (suc t) l → Each (λ m. D < deadline m) l → Each (Soon 𝓜 t) l → Account D (suc t) l h
  fresh D t l h le w late soon = record {
    z = suc t;
    b = λ k. 0;
    past = omega arith;
    balance = omega (arith, sum_zero (work D) l (λ m i. work_out D m (late m i)));
    paid = λ k. omega (arith, w.one k, sum_scale (debt D k) (started 𝓜 k) (cap k (D - suc t)) l (each k), mul-le-mul_left (cap k (D - suc t)) (w.one k));
    cause = λ k p. absurd (omega arith);
    young = λ m i p. absurd (omega (arith, late m i));
    old = λ m i p q. omega (arith, soon m i);
  }
    where
      each : (k : ℕ) → Each (λ m. debt D k m ≤ cap k (D - suc t) * started 𝓜 k m) l
      each k m i = ⊎_elim
          (λ (e : hold m ≡ 0). omega (arith, debt_le D k m))
          (λ (e : hold m ≢ 0). ⊎_elim
          (λ (q : task m ≡ k). omega (
            arith,
            debt_le D k m,
            ap (λ (n : ℕ). cap k (D - suc t) * n) (started_same 𝓜 k m q (omega arith)),
            subst (λ (n : ℕ). hold m ≤ cap n (D - suc t)) q (capped m (w.fine m i) (D - suc t) (omega (arith, late m i, soon m i))),
          ))
          (λ (q : task m ≢ k). omega (arith, debt_other D k m q))
          (eq_or_ne (task m) k))
          (eq_or_ne (hold m) 0)

  -- ---- a post

  pub count_last : (s x i : ℕ) (h : List Post) (p : Post) → count (in_window 𝓜 s x i) (h ++ (p ∷ [])) ≡ count (in_window 𝓜 s x i) h + cond (in_window 𝓜 s x i p) 1 0
  unfolding count
  count_last s x i h p = sum_last (λ q. cond (in_window 𝓜 s x i q) 1 0) h p

  -- a post at a clock from x to x + i, both ends among them, is counted
  in_window_lem : (s x i : ℕ) (p : Post) → post_stream p ≡ s → x ≤ post_clock p → post_clock p ≤ x + i → T (in_window 𝓜 s x i p)
  unfolding in_window
  in_window_lem s x i p e a b =
      let from : T (leb x (post_clock p)) = le→leb x (post_clock p) a in
      let to : T (leb (post_clock p) (x + i)) = le→leb (post_clock p) (x + i) b in
      both_pass (eqb (post_stream p) s) (within x (post_clock p) (x + i)) (same_pass (post_stream p) s e) (both_pass (leb x (post_clock p)) (leb (post_clock p) (x + i)) from to)

  count_new : (s x i : ℕ) (h : List Post) (p : Post) → post_stream p ≡ s → x ≤ post_clock p → post_clock p ≤ x + i → count (in_window 𝓜 s x i) (h ++ (p ∷ [])) ≡ count (in_window 𝓜 s x i) h + 1
  count_new s x i h p e a b = omega (arith, count_last s x i h p, cond_yes (in_window 𝓜 s x i p) 1 0 (in_window_lem s x i p e a b))

  supply_mono : (D z : ℕ) (p : Post) (h : List Post) (s : ℕ) → supply D z h s ≤ supply D z (h ++ (p ∷ [])) s
  unfolding supply
  supply_mono D z p h s = ⊎_elim
      (λ (q : span s ≤ D - z). omega (
        arith,
        ifle_yes (span s) (D - z) (cost s * count (in_window 𝓜 s z (D - z - span s)) h) q,
        ifle_yes (span s) (D - z) (cost s * count (in_window 𝓜 s z (D - z - span s)) (h ++ (p ∷ []))) q,
        mul-le-mul_left (cost s) more,
      ))
      (λ (q : D - z < span s). omega (arith, ifle_no (span s) (D - z) (cost s * count (in_window 𝓜 s z (D - z - span s)) h) q))
      (le_or_lt (span s) (D - z))
    where
      more : count (in_window 𝓜 s z (D - z - span s)) h ≤ count (in_window 𝓜 s z (D - z - span s)) (h ++ (p ∷ []))
      more = omega (arith, count_last s z (D - z - span s) h p)

  supply_post : (D z s : ℕ) (h : List Post) (p : Post) → post_stream p ≡ s → z ≤ post_clock p → post_clock p + span s ≤ D → supply D z h s + cost s ≤ supply D z (h ++ (p ∷ [])) s
  unfolding supply
  supply_post D z s h p e a b = omega (
    arith,
    ifle_yes (span s) (D - z) (cost s * count (in_window 𝓜 s z (D - z - span s)) h) (omega arith),
    ifle_yes (span s) (D - z) (cost s * count (in_window 𝓜 s z (D - z - span s)) (h ++ (p ∷ []))) (omega arith),
    ap (λ (n : ℕ). cost s * n) (count_new s z (D - z - span s) h p e a (omega arith)),
  )

  account_post : (D t : ℕ) (l : List Msg) (h : List Post) (p : Post) (m : Msg) → New 𝓜 t h p m → Account D t l h → Account D t (l ++ (m ∷ [])) (h ++ (p ∷ []))
  account_post D t l h p m n a = record {
    z = a.z;
    b = a.b;
    past = a.past;
    balance = omega (arith, a.balance, sum_last (work D) l m, added);
    paid = λ k. omega (arith, a.paid k, sum_last (debt D k) l m, debt_le D k m, n.unstarted);
    cause = a.cause;
    young = each_last (Young D a.z) l a.young (λ q. omega (arith, a.past, n.message.until, n.now, ap span n.message.to));
    old = each_last (Old D a.z) l a.old (λ q r. absurd (omega (arith, n.unstarted)));
  }
    where
      added : sum (supply D a.z h) (below streams) + work D m ≤ sum (supply D a.z (h ++ (p ∷ []))) (below streams)
      added = ⊎_elim
          (λ (q : deadline m ≤ D). omega (
            arith,
            work_in D m q,
            n.whole,
            range_bump streams (post_stream p) (cost (post_stream p)) (supply D a.z h) (supply D a.z (h ++ (p ∷ []))) n.stream_in
                (supply_mono D a.z p h)
                (supply_post D a.z (post_stream p) h p refl (omega (arith, a.past, n.now)) (omega (arith, n.message.until))),
          ))
          (λ (q : D < deadline m). omega (arith, work_out D m q, range_mono streams (supply D a.z h) (supply D a.z (h ++ (p ∷ []))) (λ i _. supply_mono D a.z p h i)))
          (le_or_lt (deadline m) D)

  -- ---- a unit

  module _ (D t : ℕ) (h : List Post) (xs : List Msg) (x : Msg) (ys r : List Msg) (e : List Departure) (w : Formed 𝓜 t (xs ++ (x ∷ ys))) (af : After 𝓜 t x r e) where
    -- for a message that is due by D
    account_due : deadline x ≤ D → Account D t (xs ++ (x ∷ ys)) h → Account D (suc t) (xs ++ (r ++ ys)) h
    account_due in-time a = record {
      z = a.z;
      b = a.b;
      past = omega (arith, a.past);
      balance = omega (
        arith,
        a.balance,
        sum_mid (work D) xs r ys,
        sum_at (work D) xs x ys,
        work_in D x in-time,
        live x (w.fine x (mem_here xs x ys)),
        after_sum 𝓜 (work D) (rest x - 1) af (λ y κ. omega (arith, work_in D y (omega (arith, κ.same_deadline)), κ.less_rest)),
      );
      paid = λ k. omega (arith, a.paid k, sum_mid (debt D k) xs r ys, sum_at (debt D k) xs x ys, after_sum 𝓜 (debt D k) 0 af (λ y κ. omega (arith, debt_early D k y (omega (arith, κ.same_deadline)))));
      cause = a.cause;
      young = each_mid (Young D a.z) xs x ys r a.young (after_each 𝓜 (Young D a.z) af (λ y κ p. omega (arith, a.young x (mem_here xs x ys) in-time, κ.same_deadline, ap span κ.same_stream)));
      old = each_mid (Old D a.z) xs x ys r a.old (after_each 𝓜 (Old D a.z) af (λ y κ p q. absurd (omega (arith, κ.same_deadline))));
    }

    -- For a late message already started by a task that an urgent one also needs: x is due after D, its task has `first`, due by D.
    -- The unit is charged to the task's b, which `paid` holds below its largest c - 1 of streams with d above D - z: this is what the load check counts as blocking.
    account_blocked : (ch : Choice 𝓜 (xs ++ (x ∷ ys)) x) → D < deadline x → deadline ch.first ≤ D → Account D t (xs ++ (x ∷ ys)) h → Account D (suc t) (xs ++ (r ++ ys)) h
    account_blocked ch late urgent a = record {
      z = a.z;
      b = b';
      past = omega (arith, a.past);
      balance = omega (
        arith,
        a.balance,
        sum_mid (work D) xs r ys,
        sum_at (work D) xs x ys,
        work_out D x late,
        after_sum 𝓜 (work D) 0 af (λ y κ. omega (arith, work_out D y (omega (arith, κ.same_deadline)))),
        range_bump tasks (task x) 1 a.b b' (task_in x (w.fine x (mem_here xs x ys))) (λ k. omega arith) (omega (arith, ifeq_yes (task x) (task x) 1 refl)),
      );
      paid = λ k. omega (arith, a.paid k, sum_mid (debt D k) xs r ys, sum_at (debt D k) xs x ys, less k);
      cause = λ k p. ⊎_elim
          (λ (q : task x ≡ k). subst (λ (n : ℕ). Urgent n (D - a.z)) (ch.first_task ∙ q) (urges ch.first (w.fine ch.first ch.first_in) (D - a.z) (omega (arith, a.young ch.first ch.first_in urgent))))
          (λ (q : task x ≢ k). a.cause k (omega (arith, ifeq_no (task x) k 1 q)))
          (eq_or_ne (task x) k);
      young = each_mid (Young D a.z) xs x ys r a.young (after_each 𝓜 (Young D a.z) af (λ y κ p. absurd (omega (arith, κ.same_deadline))));
      old = each_mid (Old D a.z) xs x ys r a.old (after_each 𝓜 (Old D a.z) af (λ y κ p q. omega (arith, a.old x (mem_here xs x ys) late begun, κ.same_deadline, ap span κ.same_stream)));
    }
      where
        b' : ℕ → ℕ
        b' k = a.b k + ifeq (task x) k 1

        begun : 0 < hold x
        begun = ⊎_elim
            (λ (e : hold x ≡ 0). absurd (omega (arith, ch.least_own e ch.first ch.first_in ch.first_task)))
            (λ (e : hold x ≢ 0). omega arith)
            (eq_or_ne (hold x) 0)

        less : (k : ℕ) → sum (debt D k) r + ifeq (task x) k 1 ≤ debt D k x
        less k = ⊎_elim
            (λ (q : task x ≡ k). omega (arith, begun, ifeq_yes (task x) k 1 q, debt_in D k x q late, after_sum 𝓜 (debt D k) (hold x - 1) af (λ y κ. omega (arith, debt_le D k y, κ.less_hold begun))))
            (λ (q : task x ≢ k). omega (
              arith,
              ifeq_no (task x) k 1 q,
              after_sum 𝓜 (debt D k) 0 af (λ y κ. ⊎_elim
                  (λ (e : hold y ≡ 0). omega (arith, debt_le D k y))
                  (λ (e : task y ≡ task x). omega (arith, debt_other D k y (λ (p : task y ≡ k). q (sym e ∙ p))))
                  κ.same_task),
            ))
            (eq_or_ne (task x) k)

    -- for a task whose deadline is after D: the account begins anew
    account_late : (ch : Choice 𝓜 (xs ++ (x ∷ ys)) x) → D < deadline ch.first → suc t ≤ D → Formed 𝓜 (suc t) (xs ++ (r ++ ys)) → Account D (suc t) (xs ++ (r ++ ys)) h
    account_late ch p le w' = fresh D t (xs ++ (r ++ ys)) h le w'
        (each_mid (λ m. D < deadline m) xs x ys r (λ m i. omega (arith, ch.first_least m i)) (after_each 𝓜 (λ m. D < deadline m) af (λ y κ. omega (arith, κ.same_deadline, ch.first_least x (mem_here xs x ys)))))
        (each_mid (Soon 𝓜 t) xs x ys r w.soon (after_each 𝓜 (Soon 𝓜 t) af (λ y κ. omega (arith, κ.same_deadline, ap span κ.same_stream, w.soon x (mem_here xs x ys)))))

    account_unit : Choice 𝓜 (xs ++ (x ∷ ys)) x → suc t ≤ D → Formed 𝓜 (suc t) (xs ++ (r ++ ys)) → Account D t (xs ++ (x ∷ ys)) h → Account D (suc t) (xs ++ (r ++ ys)) h
    account_unit ch le w' a = ⊎_elim
        (λ (p : deadline ch.first ≤ D). ⊎_elim
        (λ (q : deadline x ≤ D). account_due q a)
        (λ (q : D < deadline x). account_blocked ch q p a)
        (le_or_lt (deadline x) D))
        (λ (p : D < deadline ch.first). account_late ch p le w')
        (le_or_lt (deadline ch.first) D)

  -- ---- the whole run

  pub account : (D : ℕ) {t : ℕ} {l : List Msg} {h : List Post} {ds : List Departure} → Reaches 𝓜 t l h ds → t ≤ D → Account D t l h
  account D start le = record {
    z = 0;
    b = λ k. 0;
    past = omega arith;
    balance = omega (arith, sum_none (work D));
    paid = λ k. omega (arith, sum_none (debt D k));
    cause = λ k p. absurd (omega arith);
    young = each_nil (Young D 0);
    old = each_nil (Old D 0);
  }
  account D (post {t = t} {l = l} {h = h} run p m n) le = account_post D t l h p m n (account D run le)
  account D (unit {t = t} {h = h} xs x ys r e run ch af) le =
      account_unit D t h xs x ys r e (formed 𝓜 run) af ch le (formed 𝓜 (unit xs x ys r e run ch af)) (account D run (omega arith))
  account D (idle {t = t} {h = h} run) le = fresh D t [] h le (formed 𝓜 (idle run)) (each_nil (λ m. D < deadline m)) (each_nil (Soon 𝓜 t))

  -- ---- at the time t, with D = t: what was supplied since z is at most the demand of the length t - z

  supply_due : (t z : ℕ) (h : List Post) → Keeps 𝓜 h → sum (supply t z h) (below streams) ≤ sum (due 𝓜 (t - z)) (below streams)
  unfolding supply due
  supply_due t z h keeps = range_mono streams (supply t z h) (due 𝓜 (t - z)) (λ s q. ⊎_elim
      (λ (p : span s ≤ t - z). omega (
        arith,
        ifle_yes (span s) (t - z) (cost s * count (in_window 𝓜 s z (t - z - span s)) h) p,
        cond_yes (leb (span s) (t - z)) (cost s * limit s (t - z - span s)) 0 (le→leb (span s) (t - z) p),
        mul-le-mul_left (cost s) (keeps s q z (t - z - span s)),
      ))
      (λ (p : t - z < span s). omega (arith, ifle_no (span s) (t - z) (cost s * count (in_window 𝓜 s z (t - z - span s)) h) p))
      (le_or_lt (span s) (t - z)))

  debts_blocked : {t : ℕ} {l : List Msg} {h : List Post} (a : Account t t l h) → sum a.b (below tasks) ≤ sum (blocked 𝓜 (t - a.z)) (below tasks)
  debts_blocked {t} a = range_mono tasks a.b (blocked 𝓜 (t - a.z)) (λ k _. ⊎_elim
      (λ (e : a.b k ≡ 0). omega arith)
      (λ (e : a.b k ≢ 0). omega (arith, a.paid k, blocking_urgent k (t - a.z) (a.cause k (omega arith))))
      (eq_or_ne (a.b k) 0))

  -- no message is pending at its deadline or after it
  pub on_time : Fits 𝓜 → {t : ℕ} {l : List Msg} {h : List Post} {ds : List Departure} → Reaches 𝓜 t l h ds → Keeps 𝓜 h → Each (λ m. t < deadline m) l
  unfolding demand
  on_time fits {t} {l} {h} run keeps m i = ⊎_elim
      (λ (late : deadline m ≤ t). absurd (omega (arith, a.balance, a.past, work_in t m late, sum_member (work t) i, live m ((formed 𝓜 run).fine m i), fits (t - a.z), supply_due t a.z h keeps, debts_blocked a)))
      (λ p. p)
      (le_or_lt (deadline m) t)
    where
      a : Account t t l h
      a = account t run (omega arith)
