-- Parts of lists as loops pass over them: the places k to n, and what `all`, `scan`, `sum`, `find` and `first_by` are of what is left; tests that passed;
-- a place taken out of a list.
-- Assumes nothing.
use Prim.Native.Nat.{ℕ, zero, suc, ◌+◌, ◌-◌, ◌≤◌, ◌<◌}
use mathlib.Core.Bool.{Bool, true, false, cond, false≢true}
use mathlib.Core.Logic.{◌⊎◌, inl, inr, ⊎_elim}
use mathlib.Core.Path.{◌≡◌, refl, ap, sym, ◌∙◌}
use mathlib.Core.List.{List, [], ◌∷◌, ◌++◌, map}
use native.Mathlib.Omega.{arith}
use native.Mathlib.Numerals.{add-one}
use native.Mathlib.Nat.{eq-or-lt_of_le}
use borrow.Author.Tests.{eqb-true, eqb-false, leb-true, leb-false, le-leb, lt-leb}
use lib.Dec.{leb, eqb}
use lib.ListN.{length, get_or, take, drop, set, length-take, length-append, drop_of_length-le, length-map, get_or-eq_default}
use lib.Seq.{drop-cons, get_or-take, take_all, take-append-le}
use Rattle.std.specs.List.{list_all}
use Rattle.laws.specs.Lists.{every, below, sum, count, find, scan, remove, first_by}
use Rattle.laws.proofs.Sums.{and_parts, by_test}

-- ---- the places k to n of a list, shut, so that its arguments are found

unfoldable pub part : {A : Type 0} → ℕ → ℕ → List A → List A
part k n l = drop k (take n l)

module _ {A : Type 0} where
  pub part_cons : (l : List A) (n k : ℕ) (d : A) → k < n → k < length l → part k n l ≡ get_or l k d ∷ part (k + 1) n l
  unfolding part
  part_cons l n k d h g =
      let m : k < length (take n l) = simp length-take (omega arith) in
      rw (add-one, drop-cons (take n l) k d m, get_or-take n l k d h)

  -- past the end of the part or of the list there is nothing
  pub part_nil : (l : List A) (n k : ℕ) → (n ≤ k) ⊎ (length l ≤ k) → part k n l ≡ []
  unfolding part
  part_nil l n k (inl h) = drop_of_length-le (take n l) {i = k} (simp length-take (omega arith))
  part_nil l n k (inr h) = drop_of_length-le (take n l) {i = k} (simp length-take (omega arith))

  pub part_all : (l : List A) (n : ℕ) → part 0 n l ≡ take n l
  unfolding part
  part_all l n = refl

  -- what is left of the whole list
  pub part_rest : (l : List A) (n k : ℕ) → length l ≤ n → part k n l ≡ drop k l
  unfolding part
  part_rest l n k h = rw (take_all n l h)

  -- within the list the default does not matter
  pub get_d_any : (l : List A) (k : ℕ) (d e : A) → k < length l → get_or l k d ≡ get_or l k e
  get_d_any [] k d e h = absurd (let z : k < 0 = h in omega arith)
  get_d_any (x ∷ l) zero d e h = refl
  get_d_any (x ∷ l) (suc k) d e h = get_d_any l k d e (omega arith)

  pub past : (l : List A) (k : ℕ) (d : A) → length l ≤ k → d ≡ get_or l k d
  past l k d h = sym (get_or-eq_default l d {n = k} h)

-- what owning an array tells of its list
pub sized : {A B : Type 0} (f : A → B) (l : List A) (n : ℕ) → length (map f l) ≡ n → length l ≡ n
sized f l n e = sym (length-map l f) ∙ e

-- ---- a loop over the places, whose result is z: it goes on, it stops at an element, it comes to the end

module _ {A : Type 0} (p : A → Bool) where
  pub all_go : (l : List A) (n k : ℕ) (z : Bool) (d x : A) → list_all p (part k n l) ≡ z → x ≡ get_or l k d → p x ≡ true → k < n → k < length l → list_all p (part (k + 1) n l) ≡ z
  all_go l n k z d x inv e t h g = rw (part_cons l n k d h g, ← e, t) at inv

  pub all_no : (l : List A) (n k : ℕ) (z : Bool) (d x : A) → list_all p (part k n l) ≡ z → x ≡ get_or l k d → p x ≡ false → k < n → k < length l → false ≡ z
  all_no l n k z d x inv e t h g = rw (part_cons l n k d h g, ← e, t) at inv

  pub all_end : (l : List A) (n k : ℕ) (z : Bool) → list_all p (part k n l) ≡ z → (n ≤ k) ⊎ (length l ≤ k) → true ≡ z
  all_end l n k z inv h = rw (part_nil l n k h) at inv

module _ {A B : Type 0} (p : B → A → Bool) (f : A → B) where
  pub scan_go : (l : List A) (n k : ℕ) (b b' : B) (z : Bool) (d x : A) → scan p f b (part k n l) ≡ z → x ≡ get_or l k d → b' ≡ f x → p b x ≡ true → k < n → k < length l → scan p f b' (part (k + 1) n l) ≡ z
  unfolding scan
  scan_go l n k b b' z d x inv e e' t h g = rw e' (rw (part_cons l n k d h g, ← e, t) at inv)

  pub scan_no : (l : List A) (n k : ℕ) (b : B) (z : Bool) (d x : A) → scan p f b (part k n l) ≡ z → x ≡ get_or l k d → p b x ≡ false → k < n → k < length l → false ≡ z
  unfolding scan
  scan_no l n k b z d x inv e t h g = rw (part_cons l n k d h g, ← e, t) at inv

  pub scan_end : (l : List A) (n k : ℕ) (b : B) (z : Bool) → scan p f b (part k n l) ≡ z → (n ≤ k) ⊎ (length l ≤ k) → true ≡ z
  unfolding scan
  scan_end l n k b z inv h = rw (part_nil l n k h) at inv

-- the sum so far is a, the whole sum is z
module _ {A : Type 0} (f : A → ℕ) where
  pub sum_go : (l : List A) (n k a z : ℕ) (d x : A) → a + sum f (part k n l) ≡ z → x ≡ get_or l k d → k < n → k < length l → a + f x + sum f (part (k + 1) n l) ≡ z
  unfolding sum
  sum_go l n k a z d x inv e h g = rw e (omega (arith, ap (sum f) (part_cons l n k d h g)))

  pub sum_end : (l : List A) (n k a z : ℕ) → a + sum f (part k n l) ≡ z → (n ≤ k) ⊎ (length l ≤ k) → a ≡ z
  unfolding sum
  sum_end l n k a z inv h = omega (arith, ap (sum f) (part_nil l n k h))

-- the place of the first element that passes is z
module _ {A : Type 0} (p : A → Bool) where
  pub find_go : (l : List A) (n k z : ℕ) (d x : A) → k + find p (part k n l) ≡ z → x ≡ get_or l k d → p x ≡ false → k < n → k < length l → k + 1 + find p (part (k + 1) n l) ≡ z
  unfolding find
  find_go l n k z d x inv e t h g =
      let u : find p (part k n l) ≡ suc (find p (part (k + 1) n l)) = rw (part_cons l n k d h g, ← e, t) in
      omega arith

  pub find_is : (l : List A) (n k z : ℕ) (d x : A) → k + find p (part k n l) ≡ z → x ≡ get_or l k d → p x ≡ true → k < n → k < length l → k ≡ z
  unfolding find
  find_is l n k z d x inv e t h g =
      let u : find p (part k n l) ≡ 0 = rw (part_cons l n k d h g, ← e, t) in
      omega arith

  pub find_end : (l : List A) (n k z : ℕ) → k + find p (part k n l) ≡ z → (n ≤ k) ⊎ (length l ≤ k) → k ≡ z
  unfolding find
  find_end l n k z inv h =
      let u : find p (part k n l) ≡ 0 = rw (part_nil l n k h) in
      omega arith

-- ---- what passed tests say

-- the test at k, or true past the end
pub every_at_lem : (ts : List Bool) (k : ℕ) → every ts ≡ true → get_or ts k true ≡ true
every_at_lem [] k e = get_or-eq_default [] true {n = k} (omega arith)
every_at_lem (t ∷ []) zero e = e
every_at_lem (t ∷ []) (suc k) e = get_or-eq_default [] true {n = k} (omega arith)
every_at_lem (t ∷ (u ∷ ts)) zero e = (and_parts t (every (u ∷ ts)) e).0
every_at_lem (t ∷ (u ∷ ts)) (suc k) e = every_at_lem (u ∷ ts) k (and_parts t (every (u ∷ ts)) e).1

module _ {A : Type 0} (p : A → Bool) where
  pub all_at : (l : List A) (k : ℕ) (d : A) → list_all p l ≡ true → k < length l → p (get_or l k d) ≡ true
  all_at [] k d e h = absurd (let z : k < 0 = h in omega arith)
  all_at (x ∷ l) zero d e h = (and_parts (p x) (list_all p l) e).0
  all_at (x ∷ l) (suc k) d e h = all_at l k d (and_parts (p x) (list_all p l) e).1 (omega arith)

  -- at any place, where the default passes
  pub all_any : (l : List A) (k : ℕ) (d : A) → p d ≡ true → list_all p l ≡ true → p (get_or l k d) ≡ true
  all_any [] k d t e = rw (get_or-eq_default [] d {n = k} (omega arith)) t
  all_any (x ∷ l) zero d t e = (and_parts (p x) (list_all p l) e).0
  all_any (x ∷ l) (suc k) d t e = all_any l k d t (and_parts (p x) (list_all p l) e).1

  pub all_within : (l : List A) (n k : ℕ) (d : A) → list_all p (take n l) ≡ true → k < n → k < length l → p (get_or l k d) ≡ true
  all_within l n k d e h g = rw (get_or-take n l k d h) at (all_at (take n l) k d e (simp length-take (omega arith)))

-- a test that looks back is passed by each element at some value of what it looks at
pub scan_at : {A B : Type 0} (p : B → A → Bool) (f : A → B) (b : B) (l : List A) (k : ℕ) (d : A) → scan p f b l ≡ true → k < length l → (b' : B) × (p b' (get_or l k d) ≡ true)
unfolding scan
scan_at p f b [] k d e h = absurd (let z : k < 0 = h in omega arith)
scan_at p f b (x ∷ l) zero d e h = (b, (and_parts (p b x) (scan p f (f x) l) e).0)
scan_at p f b (x ∷ l) (suc k) d e h = scan_at p f (f x) l k d (and_parts (p b x) (scan p f (f x) l) e).1 (omega arith)

-- ---- a place is taken out of a list, and d comes in at the end

module _ {A : Type 0} (d : A) where
  -- the place after k is copied to k, and then taken out in its stead
  remove_suc : (k : ℕ) (l : List A) → suc k < length l → remove d (suc k) (set l k (get_or l (suc k) d)) ≡ remove d k l
  unfolding remove
  remove_suc k [] h = refl
  remove_suc zero (x ∷ []) h = absurd (let z : 1 < 1 = h in omega arith)
  remove_suc zero (x ∷ (y ∷ l)) h = refl
  remove_suc (suc k) (x ∷ l) h = ap (λ (xs : List A). x ∷ xs) (remove_suc k l (omega arith))

  pub remove_step : (k : ℕ) (l : List A) → k + 1 < length l → remove d (k + 1) (set l k (get_or l (k + 1) d)) ≡ remove d k l
  remove_step k l h = rw add-one (remove_suc k l (rw add-one at h))

  -- where there is only d behind k, d is put at k
  only_last : (l : List A) → ((j : ℕ) → get_or l j d ≡ d) → l ++ (d ∷ []) ≡ d ∷ l
  only_last [] h = refl
  only_last (x ∷ l) h = rw (only_last l (λ j. h (suc j)), h 0)

  pub remove_rest : (k : ℕ) (l : List A) → ((j : ℕ) → k < j → get_or l j d ≡ d) → remove d k l ≡ set l k d
  unfolding remove
  remove_rest k [] h = refl
  remove_rest zero (x ∷ l) h = only_last l (λ j. h (suc j) (omega arith))
  remove_rest (suc k) (x ∷ l) h = ap (λ (xs : List A). x ∷ xs) (remove_rest k l (λ j q. h (suc j) (omega arith)))

  pub length_remove : (i : ℕ) (l : List A) → length (remove d i l) ≡ length l
  unfolding remove
  length_remove i [] = refl
  length_remove zero (x ∷ l) = length-append l (d ∷ []) ∙ omega arith
  length_remove (suc i) (x ∷ l) = ap suc (length_remove i l)

  -- the order of the rest is kept
  pub take_remove : (i n : ℕ) (l : List A) → i ≤ n → n < length l → take n (remove d i l) ≡ take i l ++ drop (suc i) (take (suc n) l)
  unfolding remove
  take_remove i n [] h g = absurd (let z : n < 0 = g in omega arith)
  take_remove zero n (x ∷ l) h g = take-append-le n l (d ∷ []) (omega arith)
  take_remove (suc i) zero (x ∷ l) h g = absurd (omega arith)
  take_remove (suc i) (suc n) (x ∷ l) h g = ap (λ (xs : List A). x ∷ xs) (take_remove i n l (omega arith) (omega arith))

-- ---- the first number that no other goes before

pick_le : (b : Bool) (m n : ℕ) → m ≤ n → cond b n m ≤ suc n
pick_le true m n h = omega arith
pick_le false m n h = omega arith

pub first_by_le : (before : ℕ → ℕ → Bool) (n : ℕ) → first_by before n ≤ n
unfolding first_by
first_by_le before zero = omega arith
first_by_le before (suc n) = pick_le (before n (first_by before n)) (first_by before n) n (first_by_le before n)

-- only what is before what below n matters; the numbers asked about are at most n
pub first_by_same : (before after : ℕ → ℕ → Bool) (n : ℕ) → ((j k : ℕ) → j < n → k < n → before j k ≡ after j k) → first_by before n ≡ first_by after n
unfolding first_by
first_by_same before after zero h = refl
first_by_same before after (suc n) h =
    rw (first_by_same before after n (λ j k p q. h j k (omega arith) (omega arith)), h n (first_by after n) (omega arith) (omega (arith, first_by_le after n)))

-- ---- the numbers below n

module _ (p : ℕ → Bool) where
  pub below_all : (n : ℕ) → ((k : ℕ) → k < n → p k ≡ true) → list_all p (below n) ≡ true
  below_all zero h = refl
  below_all (suc n) h = rw (h n (omega arith), below_all n (λ k q. h k (omega arith)))

  pub below_at : (n k : ℕ) → list_all p (below n) ≡ true → k < n → p k ≡ true
  below_at zero k e h = absurd (let z : k < 0 = h in omega arith)
  below_at (suc n) k e h =
      by_test (eqb k n) (λ q. rw (eqb-true k n q) (and_parts (p n) (list_all p (below n)) e).0)
      (λ q. below_at n k (and_parts (p n) (list_all p (below n)) e).1 (below_less k n h (eqb-false k n q)))
    where
      below_less : (a b : ℕ) → a < suc b → (a ≡ b → ⊥) → a < b
      below_less a b l f = ⊎_elim (λ (x : a ≡ b). absurd (f x)) (λ (x : a < b). x) (eq-or-lt_of_le (omega arith))

  pub below_no : (n k : ℕ) → k < n → p k ≡ false → false ≡ list_all p (below n)
  below_no n k h e = by_test (list_all p (below n)) (λ t. absurd (false≢true (sym e ∙ below_at n k t h))) sym

-- ---- counts

module _ {A : Type 0} (p : A → Bool) where
  pub count_cons : (x : A) (l : List A) → count p (x ∷ l) ≡ cond (p x) 1 0 + count p l
  unfolding count sum
  count_cons x l = refl

  pub count_none : count p [] ≡ 0
  unfolding count sum
  count_none = refl

-- ---- a bound moved to the other side

pub leb_less : (d s c : ℕ) → leb (d - s) c ≡ leb d (c + s)
leb_less d s c =
    by_test (leb d (c + s)) (λ e. le-leb (d - s) c (omega (arith, leb-true d (c + s) e)) ∙ sym e)
    (λ e. lt-leb (d - s) c (omega (arith, leb-false d (c + s) e)) ∙ sym e)

-- ---- the first element that passes a test

module _ {A : Type 0} (p : A → Bool) (d : A) where
  pub find_le : (l : List A) → find p l ≤ length l
  unfolding find
  find_le [] = omega arith
  find_le (x ∷ l) = by_test (p x) (λ e. rw e (omega arith)) (λ e. rw e (omega (arith, find_le l)))

  -- it passes, if there is one
  pub find_passes : (l : List A) → find p l < length l → p (get_or l (find p l) d) ≡ true
  unfolding find
  find_passes [] h = absurd (let z : 0 < 0 = h in omega arith)
  find_passes (x ∷ l) h = by_test (p x) (λ e. rw e e) (λ e. rw e (find_passes l (less e)))
    where
      less : p x ≡ false → find p l < length l
      less e = let z : suc (find p l) < suc (length l) = rw e at h in omega arith

  -- none before it does
  pub find_before : (l : List A) (j : ℕ) → j < find p l → p (get_or l j d) ≡ false
  unfolding find
  find_before [] j h = absurd (let z : j < 0 = h in omega arith)
  find_before (x ∷ l) zero h = by_test (p x) (λ e. absurd (let z : 0 < 0 = rw e at h in omega arith)) (λ e. e)
  find_before (x ∷ l) (suc j) h =
      by_test (p x) (λ e. absurd (let z : suc j < 0 = rw e at h in omega arith)) (λ e. find_before l j (let z : suc j < suc (find p l) = rw e at h in omega arith))

  -- there is one, if one passes
  pub find_within : (l : List A) (j : ℕ) → j < length l → p (get_or l j d) ≡ true → find p l < length l
  unfolding find
  find_within [] j h e = absurd (let z : j < 0 = h in omega arith)
  find_within (x ∷ l) zero h e = rw e (omega arith)
  find_within (x ∷ l) (suc j) h e = by_test (p x) (λ q. rw q (omega arith)) (λ q. rw q (omega (arith, find_within l j (omega arith) e)))

-- ---- the first number that no other goes before: it is below n, none goes before it, and it goes before all before it

-- a strict order, but for ties
pub record Order (before : ℕ → ℕ → Bool) : Type 0 where
  pub irreflexive : (a : ℕ) → before a a ≡ false
  pub transitive : (a b c : ℕ) → before a b ≡ true → before b c ≡ true → before a c ≡ true
  pub between : (a b c : ℕ) → before a c ≡ true → before b c ≡ false → before a b ≡ true

pub first_by_lt : (before : ℕ → ℕ → Bool) (n : ℕ) → 0 < n → first_by before n < n
unfolding first_by
first_by_lt before zero h = absurd (let z : 0 < 0 = h in omega arith)
first_by_lt before (suc zero) h = by_test (before 0 0) (λ e. rw e (omega arith)) (λ e. rw e (omega arith))
first_by_lt before (suc (suc n)) h =
    by_test (before (suc n) (first_by before (suc n))) (λ e. rw e (omega arith)) (λ e. rw e (omega (arith, first_by_lt before (suc n) (omega arith))))

module _ (before : ℕ → ℕ → Bool) (o : Order before) where
  pub first_by_none : (n k : ℕ) → k < n → before k (first_by before n) ≡ false
  unfolding first_by
  first_by_none zero k h = absurd (let z : k < 0 = h in omega arith)
  first_by_none (suc n) k h =
      by_test (before n (first_by before n))
      (λ e. rw e (upto (λ x. not_both e (first_by_none n k x)) (o.irreflexive n)))
      (λ e. rw e (upto (λ x. first_by_none n k x) e))
    where
      upto : {c : ℕ} → (k < n → before k c ≡ false) → before n c ≡ false → before k c ≡ false
      upto f q = ⊎_elim (λ (x : k ≡ n). rw x q) (λ (x : k < n). f x) (eq-or-lt_of_le (omega arith))

      not_both : before n (first_by before n) ≡ true → before k (first_by before n) ≡ false → before k n ≡ false
      not_both e f = by_test (before k n) (λ g. absurd (false≢true (sym f ∙ o.transitive k n (first_by before n) g e))) (λ g. g)

  pub first_by_first : (n k : ℕ) → k < first_by before n → before (first_by before n) k ≡ true
  unfolding first_by
  first_by_first zero k h = absurd (let z : k < 0 = h in omega arith)
  first_by_first (suc n) k h =
      by_test (before n (first_by before n))
      (λ e. rw e (o.between n k (first_by before n) e (first_by_none n k (let z : k < n = rw e at h in z))))
      (λ e. rw e (first_by_first n k (let z : k < first_by before n = rw e at h in z)))

-- ---- how many pass

module _ {A : Type 0} (p : A → Bool) where
  pub count_some : (l : List A) (d : A) (j : ℕ) → j < length l → p (get_or l j d) ≡ true → 1 ≤ count p l
  count_some [] d j h e = absurd (let z : j < 0 = h in omega arith)
  count_some (x ∷ l) d zero h e = rw (count_cons p x l, e) (omega arith)
  count_some (x ∷ l) d (suc j) h e = omega (arith, count_cons p x l, count_some l d j (omega arith) e)

  -- two that pass are two
  pub count_two : (l : List A) (d : A) (j k : ℕ) → j < k → k < length l → p (get_or l j d) ≡ true → p (get_or l k d) ≡ true → 2 ≤ count p l
  count_two [] d j k h g e q = absurd (let z : k < 0 = g in omega arith)
  count_two (x ∷ l) d j zero h g e q = absurd (let z : j < 0 = h in omega arith)
  count_two (x ∷ l) d zero (suc k) h g e q = rw (count_cons p x l, e) (omega (arith, count_some l d k (omega arith) q))
  count_two (x ∷ l) d (suc j) (suc k) h g e q = omega (arith, count_cons p x l, count_two l d j k (omega arith) (omega arith) e q)
