-- Every accepted message is accounted for by its number: it is pending, or it has left, not after its deadline, and never both nor twice.
-- Assumes nothing.
use Prim.Native.Nat.{ℕ, suc, ◌+◌, ◌≤◌, ◌<◌}
use mathlib.Core.Bool.{cond}
use mathlib.Core.List.Memᴰ
use mathlib.Core.List.{List, [], ◌∷◌, ◌++◌, Memᴰ}
use mathlib.Core.Logic.{◌⊎◌, inl, inr, ◌≢◌, ⊎_elim}
use mathlib.Core.Path.{◌≡◌, refl, ap, subst, ◌∙◌}
use native.Mathlib.Omega.{arith}
use lib.ListN.{length, length-append}
use Rattle.laws.specs.Lists.{sum, count}
use Rattle.laws.proofs.Sums.{sum_none, sum_append}
use Rattle.laws.proofs.Gates.{le_or_lt, eq_or_ne, ifle, ifle_yes, ifle_no, ifeq, ifeq_yes, ifeq_no, sum_one, sum_last, sum_mid, sum_at, Each, mem_here, mem_mid, each_nil, each_last}
use Rattle.promise_deadlines.specs.Model.{Model, in_window, Keeps, Fits, Of, New, After, leaves, stays, Reaches, start, post, unit, idle, Pending, Left}
use Rattle.promise_deadlines.proofs.Account.{on_time}

module _ (𝓜 : Model) where
  open 𝓜 use {Msg, number, stream, deadline, Post, post_number, post_stream, post_clock, Departure, left_number, left_clock, span}

  -- limits that are kept by more posts are kept by the first of them
  pub keeps_before : (h more : List Post) → Keeps 𝓜 (h ++ more) → Keeps 𝓜 h
  unfolding count
  keeps_before h more keeps s i x d = omega (arith, keeps s i x d, sum_append (λ q. cond (in_window 𝓜 s x d q) 1 0) h more)

  -- ---- where the message of a post is

  abbrev pub Somewhere : List Msg → List Departure → Post → Type 0
  Somewhere l ds p = Pending 𝓜 l p ⊎ Left 𝓜 ds p

  still_left : (ds e : List Departure) (p : Post) → Left 𝓜 ds p → Left 𝓜 (ds ++ e) p
  still_left ds e p g = record {
    departure = g.departure;
    departure_in = Memᴰ.append_left e g.departure_in;
    who = g.who;
    of = g.of;
    named = g.named;
    told = g.told;
    in_time = g.in_time;
  }

  -- the chosen message leaves, named and not after its deadline, or stays in its place
  serve_chosen : (ds : List Departure) {t : ℕ} (xs : List Msg) (x : Msg) (ys r : List Msg) (e : List Departure) (p : Post) → After 𝓜 t x r e → t < deadline x → Of 𝓜 p x → Somewhere (xs ++ (r ++ ys)) (ds ++ e) p
  serve_chosen ds xs x ys r e p (leaves {d = d} v) early o = inr (record {
    departure = d;
    departure_in = Memᴰ.append_right ds (Memᴰ.head refl);
    who = x;
    of = o;
    named = v.named;
    told = v.told;
    in_time = omega (arith, v.timed);
  })
  serve_chosen ds xs x ys r e p (stays {y = y} κ) early o = inl (record {
    who = y;
    who_in = mem_here xs y ys;
    of = record { named = κ.same_number ∙ o.named; to = κ.same_stream ∙ o.to; until = κ.same_deadline ∙ o.until };
  })

  -- the others are where they were
  serve : (ds : List Departure) {t : ℕ} (xs : List Msg) (x : Msg) (ys r : List Msg) (e : List Departure) (p : Post) → After 𝓜 t x r e → t < deadline x
      → Somewhere (xs ++ (x ∷ ys)) ds p → Somewhere (xs ++ (r ++ ys)) (ds ++ e) p
  serve ds xs x ys r e p af early (inr g) = inr (still_left ds e p g)
  serve ds xs x ys r e p af early (inl w) = ⊎_elim
      (λ (q : w.who ≡ x). serve_chosen ds xs x ys r e p af early (subst (λ (m : Msg). Of 𝓜 p m) q w.of))
      (λ (i : Memᴰ w.who (xs ++ (r ++ ys))). inl (record { who = w.who; who_in = i; of = w.of }))
      (mem_mid xs x ys r w.who_in)

  keep_pending : (l : List Msg) (m : Msg) (ds : List Departure) (p : Post) → Somewhere l ds p → Somewhere (l ++ (m ∷ [])) ds p
  keep_pending l m ds p (inl w) = inl (record { who = w.who; who_in = Memᴰ.append_left (m ∷ []) w.who_in; of = w.of })
  keep_pending l m ds p (inr g) = inr g

  pub pending_or_left : Fits 𝓜 → {t : ℕ} {l : List Msg} {h : List Post} {ds : List Departure} → Reaches 𝓜 t l h ds → Keeps 𝓜 h → Each (Somewhere l ds) h
  pending_or_left fits start keeps = each_nil (Somewhere [] [])
  pending_or_left fits (post {l = l} {h = h} {ds = ds} run q m n) keeps =
      let below : Each (Somewhere l ds) h = pending_or_left fits run (keeps_before h (q ∷ []) keeps) in
      each_last (Somewhere (l ++ (m ∷ [])) ds) h (λ p i. keep_pending l m ds p (below p i)) (inl (record { who = m; who_in = mem_here l m []; of = n.message }))
  pending_or_left fits (unit {ds = ds} xs x ys r e run ch af) keeps =
      λ p i. serve ds xs x ys r e p af (on_time 𝓜 fits run keeps x (mem_here xs x ys)) (pending_or_left fits run keeps p i)
  pending_or_left fits (idle run) keeps = λ p i. pending_or_left fits run keeps p i

  -- DEMAND 3, over any kind of message: when the clock reaches the deadline of an accepted message, it has left
  pub left_in_time : Fits 𝓜 → {t : ℕ} {l : List Msg} {h : List Post} {ds : List Departure} → Reaches 𝓜 t l h ds → Keeps 𝓜 h
      → (p : Post) → Memᴰ p h → post_clock p + span (post_stream p) ≤ t → Left 𝓜 ds p
  left_in_time fits run keeps p i reached = ⊎_elim
      (λ (w : Pending 𝓜 _ p). absurd (omega (arith, on_time 𝓜 fits run keeps w.who w.who_in, w.of.until)))
      (λ (g : Left 𝓜 _ p). g)
      (pending_or_left fits run keeps p i)

  -- ---- each number that was given is once among the pending messages or the departures

  unfoldable pub named : ℕ → Msg → ℕ
  named n m = ifeq (number m) n 1

  unfoldable pub gone : ℕ → Departure → ℕ
  gone n d = ifeq (left_number d) n 1

  one_after : (n : ℕ) {t : ℕ} {x : Msg} {r : List Msg} {e : List Departure} → After 𝓜 t x r e → sum (named n) r + sum (gone n) e ≡ named n x
  unfolding named gone
  one_after n {x = x} (leaves {d = d} v) = omega (arith, sum_none (named n), sum_one (gone n) d, ap (λ (k : ℕ). ifeq k n 1) v.named)
  one_after n {x = x} (stays {y = y} κ) = omega (arith, sum_none (gone n), sum_one (named n) y, ap (λ (k : ℕ). ifeq k n 1) κ.same_number)

  -- one number more is given
  one_more : (n k : ℕ) → ifle (suc n) (suc k) 1 ≡ ifle (suc n) k 1 + ifeq k n 1
  one_more n k = ⊎_elim
      (λ (e : k ≡ n). omega (arith, ifeq_yes k n 1 e, ifle_no (suc n) k 1 (omega arith), ifle_yes (suc n) (suc k) 1 (omega arith)))
      (λ (e : k ≢ n). ⊎_elim
      (λ (p : suc n ≤ k). omega (arith, ifeq_no k n 1 e, ifle_yes (suc n) k 1 p, ifle_yes (suc n) (suc k) 1 (omega arith)))
      (λ (p : k < suc n). omega (arith, ifeq_no k n 1 e, ifle_no (suc n) k 1 p, ifle_no (suc n) (suc k) 1 (omega arith)))
      (le_or_lt (suc n) k))
      (eq_or_ne k n)

  longer : (h : List Post) (q : Post) → length (h ++ (q ∷ [])) ≡ suc (length h)
  longer h q = omega (arith, length-append h (q ∷ []))

  named_new : (n : ℕ) {t : ℕ} {h : List Post} {q : Post} {m : Msg} → New 𝓜 t h q m → named n m ≡ ifeq (length h) n 1
  unfolding named
  named_new n v = ap (λ (k : ℕ). ifeq k n 1) (v.message.named ∙ v.next)

  pub once : {t : ℕ} {l : List Msg} {h : List Post} {ds : List Departure} → Reaches 𝓜 t l h ds → (n : ℕ) → sum (named n) l + sum (gone n) ds ≡ ifle (suc n) (length h) 1
  once start n = omega (arith, sum_none (named n), sum_none (gone n), ifle_no (suc n) 0 1 (omega arith))
  once (post {l = l} {h = h} run q m v) n =
      omega (arith, once run n, sum_last (named n) l m, named_new n v, ap (λ (k : ℕ). ifle (suc n) k 1) (longer h q), one_more n (length h))
  once (unit {ds = ds} xs x ys r e run ch af) n =
      omega (arith, once run n, sum_mid (named n) xs r ys, sum_at (named n) xs x ys, sum_append (gone n) ds e, one_after n af)
  once (idle run) n = once run n

  -- no message departs twice
  pub departs_once : {t : ℕ} {l : List Msg} {h : List Post} {ds : List Departure} → Reaches 𝓜 t l h ds → (n : ℕ) → sum (gone n) ds ≤ 1
  departs_once {h = h} run n = ⊎_elim
      (λ (p : suc n ≤ length h). omega (arith, once run n, ifle_yes (suc n) (length h) 1 p))
      (λ (p : length h < suc n). omega (arith, once run n, ifle_no (suc n) (length h) 1 p))
      (le_or_lt (suc n) (length h))
