-- Cases on numbers, numbers behind a test, sums over a range and over the members of a list, and what holds of each member.
-- Assumes nothing.
use Prim.Native.Nat.{ℕ, zero, suc, ◌+◌, ◌*◌, ◌≤◌, ◌<◌}
use mathlib.Core.Bool.{Bool, true, false, cond, ◌&&◌, ◌||◌}
use mathlib.Core.List.Memᴰ
use mathlib.Core.List.{List, [], ◌∷◌, ◌++◌, Memᴰ}
use mathlib.Core.Logic.{◌⊎◌, inl, inr, ◌≢◌, ⊎_elim}
use mathlib.Core.Path.{◌≡◌, refl, sym, ap, subst}
use native.Mathlib.Nat.{mul-add}
use native.Mathlib.Decide.{dec_le, ℕ_discrete}
use native.Mathlib.Omega.{arith}
use lib.ListN.{length, get_or, drop}
use lib.Seq.{drop-append-le}
use lib.Dec.{T, leb, eqb, le→leb, leb→le, eqb→eq, eqb_refl}
use Rattle.std.specs.List.{list_all, list_any}
use Rattle.laws.specs.Lists.{below, sum, top, remove}
use Rattle.laws.proofs.Sums.{and_parts, sum_append}

-- ---- cases

pub le_or_lt : (a b : ℕ) → (a ≤ b) ⊎ (b < a)
le_or_lt a b = go (dec_le a b)
  where
    go : Dec (a ≤ b) → (a ≤ b) ⊎ (b < a)
    go (yes h) = inl h
    go (no h) = inr (omega arith)

pub eq_or_ne : (a b : ℕ) → (a ≡ b) ⊎ (a ≢ b)
eq_or_ne a b = go (ℕ_discrete a b)
  where
    go : Dec (a ≡ b) → (a ≡ b) ⊎ (a ≢ b)
    go (yes h) = inl h
    go (no h) = inr h

-- ---- tests

pub both_pass : (a b : Bool) → T a → T b → T (a && b)
both_pass true b s t = t
both_pass false b s t = s

pub same_pass : (a b : ℕ) → a ≡ b → T (eqb a b)
same_pass a b e = subst (λ (k : ℕ). T (eqb a k)) e (eqb_refl a)

-- ---- a number behind a test

pub cond_yes : (b : Bool) (x y : ℕ) → T b → cond b x y ≡ x
cond_yes true x y t = refl
cond_yes false x y t = absurd t

pub cond_no : (b : Bool) (x y : ℕ) → (T b → ⊥) → cond b x y ≡ y
cond_no true x y f = absurd (f tt)
cond_no false x y f = refl

-- x if a ≤ b, else 0
unfoldable pub ifle : ℕ → ℕ → ℕ → ℕ
ifle a b x = cond (leb a b) x 0

pub ifle_yes : (a b x : ℕ) → a ≤ b → ifle a b x ≡ x
unfolding ifle
ifle_yes a b x h = cond_yes (leb a b) x 0 (le→leb a b h)

pub ifle_no : (a b x : ℕ) → b < a → ifle a b x ≡ 0
unfolding ifle
ifle_no a b x h = cond_no (leb a b) x 0 (λ t. let q : a ≤ b = leb→le a b t in omega arith)

-- x if a and b are the same, else 0
unfoldable pub ifeq : ℕ → ℕ → ℕ → ℕ
ifeq a b x = cond (eqb a b) x 0

pub ifeq_yes : (a b x : ℕ) → a ≡ b → ifeq a b x ≡ x
unfolding ifeq
ifeq_yes a b x h = cond_yes (eqb a b) x 0 (same_pass a b h)

pub ifeq_no : (a b x : ℕ) → a ≢ b → ifeq a b x ≡ 0
unfolding ifeq
ifeq_no a b x h = cond_no (eqb a b) x 0 (λ t. h (eqb→eq a b t))

-- ---- sums over the numbers below n

pub range_mono : (n : ℕ) (f g : ℕ → ℕ) → ((i : ℕ) → i < n → f i ≤ g i) → sum f (below n) ≤ sum g (below n)
unfolding sum
range_mono zero f g h = omega arith
range_mono (suc n) f g h = omega (arith, range_mono n f g (λ i l. h i (omega arith)), h n (omega arith))

-- one of the terms is greater by v
pub range_bump : (n k v : ℕ) (f g : ℕ → ℕ) → k < n → ((i : ℕ) → f i ≤ g i) → f k + v ≤ g k → sum f (below n) + v ≤ sum g (below n)
unfolding sum
range_bump zero k v f g l h e = omega arith
range_bump (suc n) k v f g l h e = go (eq_or_ne k n) (λ (s : k < n). range_bump n k v f g s h e)
  where
    go : (k ≡ n) ⊎ (k ≢ n) → (k < n → sum f (below n) + v ≤ sum g (below n)) → f n + sum f (below n) + v ≤ g n + sum g (below n)
    go (inl q) rest = omega (arith, range_mono n f g (λ i _. h i), subst (λ (i : ℕ). f i + v ≤ g i) q e)
    go (inr q) rest = omega (arith, rest (omega arith), h n)

pub range_first : (n : ℕ) (f : ℕ → ℕ) → sum f (below (suc n)) ≡ f 0 + sum (λ k. f (suc k)) (below n)
unfolding sum
range_first zero f = refl
range_first (suc n) f = omega (arith, range_first n f)

-- ---- sums over a list

module _ {A : Type 0} where
  pub sum_one : (f : A → ℕ) (x : A) → sum f (x ∷ []) ≡ f x
  unfolding sum
  sum_one f x = omega arith

  pub sum_last : (f : A → ℕ) (xs : List A) (x : A) → sum f (xs ++ (x ∷ [])) ≡ sum f xs + f x
  sum_last f xs x = omega (arith, sum_append f xs (x ∷ []), sum_one f x)

  -- one part of a list put for another
  pub sum_mid : (f : A → ℕ) (xs r ys : List A) → sum f (xs ++ (r ++ ys)) ≡ sum f xs + sum f r + sum f ys
  sum_mid f xs r ys = omega (arith, sum_append f xs (r ++ ys), sum_append f r ys)

  pub sum_at : (f : A → ℕ) (xs : List A) (x : A) (ys : List A) → sum f (xs ++ (x ∷ ys)) ≡ sum f xs + f x + sum f ys
  sum_at f xs x ys = omega (arith, sum_mid f xs (x ∷ []) ys, sum_one f x)

  pub sum_scale : (f g : A → ℕ) (k : ℕ) (l : List A) → ((m : A) → Memᴰ m l → f m ≤ k * g m) → sum f l ≤ k * sum g l
  unfolding sum
  sum_scale f g k [] h = omega arith
  sum_scale f g k (x ∷ xs) h =
      omega (arith, mul-add k (g x) (sum g xs), h x (Memᴰ.head refl), sum_scale f g k xs (λ m q. h m (Memᴰ.tail q)))

  pub sum_zero : (f : A → ℕ) (l : List A) → ((m : A) → Memᴰ m l → f m ≡ 0) → sum f l ≡ 0
  unfolding sum
  sum_zero f [] h = refl
  sum_zero f (x ∷ xs) h = omega (arith, h x (Memᴰ.head refl), sum_zero f xs (λ m q. h m (Memᴰ.tail q)))

  pub sum_member : (f : A → ℕ) {m : A} {l : List A} → Memᴰ m l → f m ≤ sum f l
  unfolding sum
  sum_member f (Memᴰ.head {xs = xs} e) = omega (arith, ap f e)
  sum_member f (Memᴰ.tail q) = omega (arith, sum_member f q)

  pub top_member : (f : A → ℕ) {m : A} {l : List A} → Memᴰ m l → f m ≤ top f l
  unfolding top
  top_member f (Memᴰ.head e) = omega (arith, ap f e)
  top_member f (Memᴰ.tail q) = omega (arith, top_member f q)

  pub any_member : (p : A → Bool) {m : A} {l : List A} → Memᴰ m l → T (p m) → T (list_any p l)
  any_member p {m = m} {l = []} x5 t = elim x5 [ ]
  any_member p {l = b ∷ xs} (Memᴰ.head e) t = go (p b) (list_any p xs) (subst (λ (x : A). T (p x)) e t)
    where
      go : (a b : Bool) → T a → T (a || b)
      go true b t = tt
      go false b t = absurd t
  any_member p {l = b ∷ xs} (Memᴰ.tail q) t = go (p b) (list_any p xs) (any_member p q t)
    where
      go : (a b : Bool) → T b → T (a || b)
      go true b t = tt
      go false b t = t

  -- a sum over a list is one over its places
  pub sum_places : (f : A → ℕ) (l : List A) (d : A) → sum f l ≡ sum (λ k. f (get_or l k d)) (below (length l))
  unfolding sum
  sum_places f [] d = refl
  sum_places f (x ∷ xs) d = omega (arith, sum_places f xs d, range_first (length xs) (λ k. f (get_or (x ∷ xs) k d)))

  -- ---- what holds of each member

  abbrev pub Each : (A → Type 0) → List A → Type 0
  Each P l = (m : A) → Memᴰ m l → P m

  pub mem_here : (xs : List A) (x : A) (ys : List A) → Memᴰ x (xs ++ (x ∷ ys))
  mem_here xs x ys = Memᴰ.append_right xs (Memᴰ.head refl)

  pub mem_get_d : (l : List A) (k : ℕ) (d : A) → k < length l → Memᴰ (get_or l k d) l
  mem_get_d [] k d h = absurd (omega arith)
  mem_get_d (x ∷ xs) zero d h = Memᴰ.head refl
  mem_get_d (x ∷ xs) (suc k) d h = Memᴰ.tail (mem_get_d xs k d (omega arith))

  -- the place of a member
  pub record PlacedAt (l : List A) (d m : A) : Type 0 where
    pub place : ℕ
    pub inside : place < length l
    pub there : get_or l place d ≡ m

  pub mem_at : (l : List A) (d : A) {m : A} → Memᴰ m l → PlacedAt l d m
  mem_at [] d {m = m} x' = elim x' [ ]
  mem_at (x ∷ l) d (Memᴰ.head e) = record { place = 0; inside = omega arith; there = sym e }
  mem_at (x ∷ l) d (Memᴰ.tail i) =
      let p : PlacedAt l d _ = mem_at l d i in
      record { place = suc p.place; inside = omega (arith, p.inside); there = p.there }

  pub each_nil : (P : A → Type 0) → Each P []
  each_nil P m q = absurd (Memᴰ.not-nil q)

  pub each_one : (P : A → Type 0) {x : A} → P x → Each P (x ∷ [])
  each_one P p m q = subst P (sym (Memᴰ.eq_of_singleton q)) p

  pub each_append : (P : A → Type 0) (xs : List A) {ys : List A} → Each P xs → Each P ys → Each P (xs ++ ys)
  each_append P xs p q m i = ⊎_elim (λ a. p m a) (λ a. q m a) (Memᴰ.append_cases xs i)

  pub each_last : (P : A → Type 0) (xs : List A) {x : A} → Each P xs → P x → Each P (xs ++ (x ∷ []))
  each_last P xs p q = each_append P xs p (each_one P q)

  -- one part of a list put for the element x
  pub each_mid : (P : A → Type 0) (xs : List A) (x : A) (ys r : List A) → Each P (xs ++ (x ∷ ys)) → Each P r → Each P (xs ++ (r ++ ys))
  each_mid P xs x ys r p q =
      each_append P xs (λ m i. p m (Memᴰ.append_left (x ∷ ys) i)) (each_append P r q (λ m i. p m (Memᴰ.append_right xs (Memᴰ.tail i))))

  -- a member of a list is x, or still there when another part is put for x
  pub mem_mid : (xs : List A) (x : A) (ys r : List A) {m : A} → Memᴰ m (xs ++ (x ∷ ys)) → (m ≡ x) ⊎ Memᴰ m (xs ++ (r ++ ys))
  mem_mid xs x ys r {m} i = ⊎_elim
      (λ (a : Memᴰ m xs). inr (Memᴰ.append_left (r ++ ys) a))
      (λ (a : Memᴰ m (x ∷ ys)). tail a)
      (Memᴰ.append_cases xs i)
    where
      tail : Memᴰ m (x ∷ ys) → (m ≡ x) ⊎ Memᴰ m (xs ++ (r ++ ys))
      tail (Memᴰ.head e) = inl e
      tail (Memᴰ.tail q) = inr (Memᴰ.append_right xs (Memᴰ.append_right r q))

-- ---- tests on parts of a list

module _ {A : Type 0} where
  -- all of a list pass, so do all after its first n, one less
  pub all_drop : (p : A → Bool) (n : ℕ) (l : List A) → list_all p (drop n l) ≡ true → list_all p (drop (suc n) l) ≡ true
  all_drop p n [] e = nothing n e
    where
      nothing : (n : ℕ) → list_all p (drop n []) ≡ true → list_all p (drop (suc n) []) ≡ true
      nothing zero e = e
      nothing (suc n) e = e
  all_drop p zero (x ∷ l) e = (and_parts (p x) (list_all p l) e).1
  all_drop p (suc n) (x ∷ l) e = all_drop p n l e

  pub all_last : (p : A → Bool) (l : List A) (x : A) → list_all p l ≡ true → p x ≡ true → list_all p (l ++ (x ∷ [])) ≡ true
  all_last p [] x e h = rw h
  all_last p (y ∷ l) x e h = rw ((and_parts (p y) (list_all p l) e).0, all_last p l x (and_parts (p y) (list_all p l) e).1 h)

  -- what stands behind the first n, when a place before them is taken out
  pub drop_remove : (d : A) (i n : ℕ) (l : List A) → i ≤ n → n < length l → drop n (remove d i l) ≡ drop (suc n) l ++ (d ∷ [])
  unfolding remove
  drop_remove d i n [] h g = absurd (let z : n < 0 = g in omega arith)
  drop_remove d zero n (x ∷ l) h g = drop-append-le n l (d ∷ []) (omega arith)
  drop_remove d (suc i) zero (x ∷ l) h g = absurd (omega arith)
  drop_remove d (suc i) (suc n) (x ∷ l) h g = drop_remove d i n l (omega arith) (omega arith)
