-- What the wait at a stream's door says of its accepted posts. With L the larger of offset and cycle, n + 1 posts at x or later leave at least
-- x + (n + 1) L units less the present time to wait, and where there is a wait, it comes from some post: for spaced posts the wait is that of the last one let in, or of
-- an earlier one with a cycle for each that came after it. Assumes nothing.
use Prim.Native.Nat.{ℕ, zero, suc, ◌+◌, ◌-◌, ◌*◌, ◌≤◌, ◌<◌}
use native.Mathlib.Nat.{suc-mul, mul-le-mul_left}
use native.Mathlib.Omega.{arith}
use mathlib.Core.Bool.{Bool, true, false, cond, ◌&&◌, false≢true}
use mathlib.Core.List.{List, [], ◌∷◌, ◌++◌}
use mathlib.Core.Logic.{◌⊎◌, inl, inr, ⊎_elim, ◌≢◌, ◌↔◌}
use mathlib.Core.Path.{◌≡◌, refl, sym, ◌∙◌}
use borrow.Author.Tests.{le-leb, lt-leb, eq-eqb, ne_eqb, ltb-true, ltb-false}
use lib.Dec.{leb, eqb}
use Rattle.laws.specs.Lists.{count}
use Rattle.laws.proofs.Gates.{le_or_lt, eq_or_ne, sum_last}
use Rattle.laws.proofs.Parts.{count_none}
use Rattle.laws.proofs.Sums.{by_test}
use Rattle.rules.specs.declared.Door.{Door}
use Rattle.rules.specs.declared.Door.TheVariants.{Unguarded, Single, Spaced}
use Rattle.rules.specs.Doors.{guarded, larger, shut, wait_after, wait_later}
use Rattle.rules.specs.Runs.{Accepted, in_window}
use Rattle.rules.proofs.Waits.{ValidDoor, larger_is}
use Rattle.promise_doors.proofs.Limits.{Spaces, Allows}

-- ---- counting posts

-- posted to the stream k at x or later
abbrev pub since : ℕ → ℕ → Accepted → Bool
since k x p = eqb p.stream k && leb x p.at

abbrev pub post : ℕ → ℕ → ℕ → Accepted
post n j now = record { number = n; stream = j; at = now }

count_last : (p : Accepted → Bool) (ps : List Accepted) (q : Accepted) → count p (ps ++ (q ∷ [])) ≡ count p ps + cond (p q) 1 0
unfolding count
count_last p ps q = sum_last (λ x. cond (p x) 1 0) ps q

module _ (k : ℕ) where
  -- no post is later than the present time
  pub record Seen (now : ℕ) (ps : List Accepted) : Type 0 where
    pub inside : (x i : ℕ) → now ≤ x + i → count (in_window k x i) ps ≡ count (since k x) ps
    pub none : (x : ℕ) → now < x → count (since k x) ps ≡ 0

  pub seen_start : Seen 0 []
  seen_start = record { inside = λ x i h. count_none (in_window k x i) ∙ sym (count_none (since k x)); none = λ x h. count_none (since k x) }

  pub seen_later : (now : ℕ) (ps : List Accepted) → Seen now ps → Seen (now + 1) ps
  seen_later now ps s = record { inside = λ x i h. s.inside x i (omega arith); none = λ x h. s.none x (omega arith) }

  -- ---- a post to another stream

  module _ (now : ℕ) (ps : List Accepted) (n j : ℕ) (f : j ≢ k) where
    pub other_in : (x i : ℕ) → count (in_window k x i) (ps ++ (post n j now ∷ [])) ≡ count (in_window k x i) ps
    other_in x i = omega (arith, count_last (in_window k x i) ps (post n j now), missed)
      where
        missed : ◌≡◌ {A = ℕ} (cond (in_window k x i (post n j now)) 1 0) 0
        missed = rw (ne_eqb j k f)

    pub other_since : (x : ℕ) → count (since k x) (ps ++ (post n j now ∷ [])) ≡ count (since k x) ps
    other_since x = omega (arith, count_last (since k x) ps (post n j now), missed)
      where
        missed : ◌≡◌ {A = ℕ} (cond (since k x (post n j now)) 1 0) 0
        missed = rw (ne_eqb j k f)

    pub seen_other : Seen now ps → Seen now (ps ++ (post n j now ∷ []))
    seen_other s = record {
      inside = λ x i h. omega (arith, s.inside x i h, other_in x i, other_since x);
      none = λ x h. omega (arith, s.none x h, other_since x);
    }

  -- ---- a post to this one, at the present time

  module _ (now : ℕ) (ps : List Accepted) (n : ℕ) where
    own_in : (x i : ℕ) → x ≤ now → now ≤ x + i → count (in_window k x i) (ps ++ (post n k now ∷ [])) ≡ count (in_window k x i) ps + 1
    own_in x i h g = omega (arith, count_last (in_window k x i) ps (post n k now), hit)
      where
        hit : ◌≡◌ {A = ℕ} (cond (in_window k x i (post n k now)) 1 0) 1
        hit = rw (eq-eqb k k refl, le-leb x now h, le-leb now (x + i) g)

    own_before : (x i : ℕ) → now < x → count (in_window k x i) (ps ++ (post n k now ∷ [])) ≡ count (in_window k x i) ps
    own_before x i h = omega (arith, count_last (in_window k x i) ps (post n k now), missed)
      where
        missed : ◌≡◌ {A = ℕ} (cond (in_window k x i (post n k now)) 1 0) 0
        missed = rw (eq-eqb k k refl, lt-leb x now h)

    own_behind : (x i : ℕ) → x ≤ now → x + i < now → count (in_window k x i) (ps ++ (post n k now ∷ [])) ≡ count (in_window k x i) ps
    own_behind x i h g = omega (arith, count_last (in_window k x i) ps (post n k now), missed)
      where
        missed : ◌≡◌ {A = ℕ} (cond (in_window k x i (post n k now)) 1 0) 0
        missed = rw (eq-eqb k k refl, le-leb x now h, lt-leb now (x + i) g)

    own_since : (x : ℕ) → x ≤ now → count (since k x) (ps ++ (post n k now ∷ [])) ≡ count (since k x) ps + 1
    own_since x h = omega (arith, count_last (since k x) ps (post n k now), hit)
      where
        hit : ◌≡◌ {A = ℕ} (cond (since k x (post n k now)) 1 0) 1
        hit = rw (eq-eqb k k refl, le-leb x now h)

    own_after : (x : ℕ) → now < x → count (since k x) (ps ++ (post n k now ∷ [])) ≡ count (since k x) ps
    own_after x h = omega (arith, count_last (since k x) ps (post n k now), missed)
      where
        missed : ◌≡◌ {A = ℕ} (cond (since k x (post n k now)) 1 0) 0
        missed = rw (eq-eqb k k refl, lt-leb x now h)

    pub seen_own : Seen now ps → Seen now (ps ++ (post n k now ∷ []))
    seen_own s = record {
      inside = λ x i h. ⊎_elim
          (λ (g : x ≤ now). omega (arith, s.inside x i h, own_in x i g h, own_since x g))
          (λ (g : now < x). omega (arith, s.inside x i h, own_before x i g, own_after x g))
          (le_or_lt x now);
      none = λ x h. omega (arith, s.none x h, own_after x h);
    }

  -- a window in which there are too many
  pub record Over (e : ℕ → ℕ) (ps : List Accepted) : Type 0 where
    pub from : ℕ
    pub span : ℕ
    pub over : e span < count (in_window k from span) ps

  abbrev pub Within : (ℕ → ℕ) → List Accepted → Type 0
  Within e ps = (x i : ℕ) → count (in_window k x i) ps ≤ e i

  not_over : (e : ℕ → ℕ) (ps : List Accepted) → Within e ps → Over e ps → ⊥
  not_over e ps w o = omega (arith, o.over, w o.from o.span)

  -- ---- once at 0

  module _ (e : ℕ → ℕ) (allows : (i : ℕ) → e i ≡ 1) where
    pub record Once (now w : ℕ) (ps : List Accepted) : Type 0 where
      pub few : (x i : ℕ) → count (in_window k x i) ps ≤ w
      pub small : w ≤ 1
      pub taken : (w ≡ 0) ⊎ ((n : ℕ) × (count (since k 0) ps ≡ suc n))

    once_keeps : (now w : ℕ) (ps : List Accepted) → Once now w ps → Within e ps
    once_keeps now w ps h x i = omega (arith, h.few x i, h.small, allows i)

    once_own : (now w n : ℕ) (ps : List Accepted) → Once now w ps → w ≡ 0 → Once now 1 (ps ++ (post n k now ∷ []))
    once_own now w n ps h q = record {
      few = λ x i. ⊎_elim
          (λ (g : x ≤ now). ⊎_elim
          (λ (l : now ≤ x + i). omega (arith, h.few x i, own_in now ps n x i g l))
          (λ (l : x + i < now). omega (arith, h.few x i, own_behind now ps n x i g l))
          (le_or_lt now (x + i)))
          (λ (g : now < x). omega (arith, h.few x i, own_before now ps n x i g))
          (le_or_lt x now);
      small = omega arith;
      taken = inr (count (since k 0) ps, omega (arith, own_since now ps n 0 (omega arith)));
    }

    once_over : (now w n : ℕ) (ps : List Accepted) → Seen now ps → Once now w ps → 0 < w → Over e (ps ++ (post n k now ∷ []))
    once_over now w n ps s h q = ⊎_elim
        (λ (g : w ≡ 0). absurd (omega arith))
        (λ (g : (m : ℕ) × (count (since k 0) ps ≡ suc m)). record {
          from = 0;
          span = now;
          over = omega (arith, g.1, allows now, s.inside 0 now (omega arith), own_in now ps n 0 now (omega arith) (omega arith));
        })
        h.taken

  -- ---- spaced by a cycle z from an offset a: L is the larger of the two

  module _ (z a L : ℕ) (large : L ≡ a + (z - a)) (some : 1 ≤ z) (e : ℕ → ℕ) (allows : (i : ℕ) → Spaces z a i (e i)) where
    -- the post from which the wait comes
    pub record Left (now w : ℕ) (ps : List Accepted) : Type 0 where
      pub from : ℕ
      pub behind : ℕ
      pub here : count (since k from) ps ≡ suc behind
      pub leaves : from + (L + behind * z) ≡ now + w

    pub record Spacing (now w : ℕ) (ps : List Accepted) : Type 0 where
      pub keeps : Within e ps
      pub above : (x n : ℕ) → count (since k x) ps ≡ suc n → x + (L + n * L) ≤ now + w
      pub left : (w ≡ 0) ⊎ Left now w ps

    spaced_later : (now w : ℕ) (ps : List Accepted) → Spacing now w ps → Spacing (now + 1) (w - 1) ps
    spaced_later now w ps h = record {
      keeps = h.keeps;
      above = λ x n q. omega (arith, h.above x n q);
      left = ⊎_elim
          (λ (q : w ≡ 0). inl (omega arith))
          (λ (q : Left now w ps). ⊎_elim
          (λ (y : w ≡ 0). inl (omega arith))
          (λ (y : w ≢ 0). inr (record { from = q.from; behind = q.behind; here = q.here; leaves = omega (arith, q.leaves) }))
          (eq_or_ne w 0))
          h.left;
    }

    module _ (now w : ℕ) (ps : List Accepted) (s : Seen now ps) (h : Spacing now w ps) where
      -- posts there are only up to now
      by_now : (x n : ℕ) → count (since k x) ps ≡ suc n → x ≤ now
      by_now x n q = ⊎_elim (λ (g : x ≤ now). g) (λ (g : now < x). absurd (omega (arith, s.none x g))) (le_or_lt x now)

      -- ---- the door is open

      module _ (n : ℕ) (free : w ≤ z - a) where
        abbrev next : List Accepted
        next = ps ++ (post n k now ∷ [])

        -- a window that has the new post in it is long enough for it
        fits : (x i : ℕ) → now ≤ x + i → (m : ℕ) → count (since k x) ps ≡ m → suc m ≤ e i
        fits x i g zero q = (allows i).one
        fits x i g (suc m) q = (allows i).more m (omega (arith, h.above x m q, mul-le-mul_left m (let y : z ≤ L = omega arith in y)))

        keeps_next : Within e next
        keeps_next x i = ⊎_elim
            (λ (g : x ≤ now). ⊎_elim
            (λ (l : now ≤ x + i). omega (arith, own_in now ps n x i g l, s.inside x i l, fits x i l (count (since k x) ps) refl))
            (λ (l : x + i < now). omega (arith, h.keeps x i, own_behind now ps n x i g l))
            (le_or_lt now (x + i)))
            (λ (g : now < x). omega (arith, h.keeps x i, own_before now ps n x i g))
            (le_or_lt x now)

        above_now : (x m : ℕ) → x ≤ now → count (since k x) ps ≡ m → x + (L + m * L) ≤ now + (w + L)
        above_now x zero g q = omega arith
        above_now x (suc m) g q = omega (arith, h.above x m q, suc-mul m L)

        above_next : (x m : ℕ) → count (since k x) next ≡ suc m → x + (L + m * L) ≤ now + (w + L)
        above_next x m q = ⊎_elim
            (λ (g : x ≤ now). above_now x m g (omega (arith, own_since now ps n x g)))
            (λ (g : now < x). absurd (omega (arith, own_after now ps n x g, s.none x g)))
            (le_or_lt x now)

        -- with nothing left to wait, no post is at the present time
        none_now : w ≡ 0 → (m : ℕ) → count (since k now) ps ≡ m → m ≡ 0
        none_now y zero q = refl
        none_now y (suc m) q = absurd (omega (arith, h.above now m q))

        left_next : Left now (w + L) next
        left_next = ⊎_elim
            (λ (y : w ≡ 0). record {
              from = now;
              behind = 0;
              here = omega (arith, own_since now ps n now (omega arith), none_now y (count (since k now) ps) refl);
              leaves = omega arith;
            })
            (λ (y : w ≢ 0). ⊎_elim
            (λ (q : w ≡ 0). absurd (y q))
            (λ (q : Left now w ps). record {
              from = q.from;
              behind = suc q.behind;
              here = omega (arith, own_since now ps n q.from (by_now q.from q.behind q.here), q.here);
              leaves = omega (arith, q.leaves, suc-mul q.behind z);
            })
            h.left)
            (eq_or_ne w 0)

        spaced_own : Spacing now (w + L) next
        spaced_own = record { keeps = keeps_next; above = above_next; left = inr left_next }

      -- ---- the door is shut

      spaced_over : (n : ℕ) → z - a < w → Over e (ps ++ (post n k now ∷ []))
      spaced_over n q = ⊎_elim
          (λ (y : w ≡ 0). absurd (omega arith))
          (λ (y : Left now w ps).
          let there : y.from ≤ now = by_now y.from y.behind y.here in
          record {
            from = y.from;
            span = now - y.from;
            over = omega (
              arith,
              own_in now ps n y.from (now - y.from) there (omega arith),
              s.inside y.from (now - y.from) (omega arith),
              y.here,
              (allows (now - y.from)).fewer y.behind (omega (arith, y.leaves)),
            );
          })
          h.left

  -- ---- any door

  abbrev pub Held : (d : Door) → ValidDoor d → (e : ℕ → ℕ) → ((i : ℕ) → Allows d i (e i)) → ℕ → ℕ → List Accepted → Type 0
  Held Unguarded v e allows now w ps = Unit {0}
  Held Single v e allows now w ps = Once e allows now w ps
  Held (Spaced z a) v e allows now w ps = Spacing z a (larger a z) (larger_is z a) v.0.low e allows now w ps

  module _ (e : ℕ → ℕ) where
    pub held_start : (d : Door) (v : ValidDoor d) (allows : (i : ℕ) → Allows d i (e i)) → Held d v e allows 0 0 []
    held_start Unguarded v allows = tt
    held_start Single v allows = record { few = λ x i. omega (arith, count_none (in_window k x i)); small = omega arith; taken = inl refl }
    held_start (Spaced z a) v allows = record {
      keeps = λ x i. omega (arith, count_none (in_window k x i));
      above = λ x n q. absurd (omega (arith, count_none (since k x)));
      left = inl refl;
    }

    pub held_later : (d : Door) (v : ValidDoor d) (allows : (i : ℕ) → Allows d i (e i)) (now w : ℕ) (ps : List Accepted)
        → Held d v e allows now w ps → Held d v e allows (now + 1) (wait_later d w) ps
    unfolding wait_later
    held_later Unguarded v allows now w ps h = tt
    held_later Single v allows now w ps h = record { few = h.few; small = h.small; taken = h.taken }
    held_later (Spaced z a) v allows now w ps h = spaced_later z a (larger a z) (larger_is z a) v.0.low e allows now w ps h

    pub held_other : (d : Door) (v : ValidDoor d) (allows : (i : ℕ) → Allows d i (e i)) (now w : ℕ) (ps : List Accepted) (n j : ℕ) → j ≢ k
        → Held d v e allows now w ps → Held d v e allows now w (ps ++ (post n j now ∷ []))
    held_other Unguarded v allows now w ps n j f h = tt
    held_other Single v allows now w ps n j f h = record {
      few = λ x i. omega (arith, other_in now ps n j f x i, h.few x i);
      small = h.small;
      taken = ⊎_elim (λ (q : w ≡ 0). inl q) (λ (q : (m : ℕ) × (count (since k 0) ps ≡ suc m)). inr (q.0, other_since now ps n j f 0 ∙ q.1)) h.taken;
    }
    held_other (Spaced z a) v allows now w ps n j f h = record {
      keeps = λ x i. omega (arith, other_in now ps n j f x i, h.keeps x i);
      above = λ x m q. h.above x m (sym (other_since now ps n j f x) ∙ q);
      left = ⊎_elim
          (λ (q : w ≡ 0). inl q)
          (λ (q : Left z a (larger a z) (larger_is z a) v.0.low e allows now w ps). inr (record {
            from = q.from;
            behind = q.behind;
            here = other_since now ps n j f q.from ∙ q.here;
            leaves = q.leaves;
          }))
          h.left;
    }

    module _ (now w : ℕ) (ps : List Accepted) (s : Seen now ps) (n : ℕ) where
      pub held_own : (d : Door) (v : ValidDoor d) (allows : (i : ℕ) → Allows d i (e i)) → shut d w ≡ false
          → Held d v e allows now w ps → Held d v e allows now (wait_after d w) (ps ++ (post n k now ∷ []))
      unfolding shut wait_after
      held_own Unguarded v allows q h = tt
      held_own Single v allows q h = once_own e allows now w n ps h (let y : w ≤ 0 = ltb-false 0 w q in omega arith)
      held_own (Spaced z a) v allows q h = spaced_own z a (larger a z) (larger_is z a) v.0.low e allows now w ps s h n (ltb-false (z - a) w q)

      over_shut : (d : Door) (v : ValidDoor d) (allows : (i : ℕ) → Allows d i (e i)) → guarded d ≡ true → Held d v e allows now w ps
          → shut d w ≡ true → Over e (ps ++ (post n k now ∷ []))
      unfolding shut guarded
      over_shut Unguarded v allows g h q = absurd (false≢true g)
      over_shut Single v allows g h q = once_over e allows now w n ps s h (ltb-true 0 w q)
      over_shut (Spaced z a) v allows g h q = spaced_over z a (larger a z) (larger_is z a) v.0.low e allows now w ps s h n (ltb-true (z - a) w q)

    pub held_keeps : (d : Door) (v : ValidDoor d) (allows : (i : ℕ) → Allows d i (e i)) (now w : ℕ) (ps : List Accepted) → guarded d ≡ true
        → Held d v e allows now w ps → Within e ps
    unfolding guarded
    held_keeps Unguarded v allows now w ps g h = absurd (false≢true g)
    held_keeps Single v allows now w ps g h = once_keeps e allows now w ps h
    held_keeps (Spaced z a) v allows now w ps g h = h.keeps

    -- a door is shut exactly if the post would be one too many in some window
    pub held_exact : (now w : ℕ) (ps : List Accepted) → Seen now ps → (n : ℕ) (d : Door) (v : ValidDoor d) (allows : (i : ℕ) → Allows d i (e i)) → guarded d ≡ true
        → Held d v e allows now w ps → (shut d w ≡ true) ↔ Over e (ps ++ (post n k now ∷ []))
    held_exact now w ps s n d v allows g h = (
      over_shut now w ps s n d v allows g h,
      λ o.
          by_test (shut d w)
          (λ q. q)
          (λ q. absurd (not_over e _ (held_keeps d v allows now (wait_after d w) _ g (held_own now w ps s n d v allows q h)) o)),
    )
