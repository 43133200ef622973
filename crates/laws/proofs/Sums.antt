-- Laws of sums, greatest values and tests over a list: of every element, of one more element of a front part, of the numbers below n.
-- Assumes nothing.
use Prim.Native.Nat.{ℕ, zero, suc, ◌+◌, ◌*◌, ◌≤◌, ◌<◌, max}
use native.Mathlib.Nat.{mul-add, mul-zero, zero-mul, suc-mul, le_of_eq, zero-add, add-zero}
use native.Mathlib.Numerals.{add-one}
use native.Mathlib.Omega.{arith}
use mathlib.Core.Path.{◌≡◌, refl, ap, ap₂, sym, subst, subst⁻¹, ◌∙◌}
use mathlib.Core.List.{List, [], ◌∷◌, ◌++◌}
use mathlib.Core.Bool.{Bool, true, false, cond, ◌&&◌, ◌||◌, or-false}
use lib.ListN.{length, take, get_or, length-take}
use lib.Seq.{take-suc, get_or-take}
use Rattle.std.specs.List.{list_all, list_any}
use Rattle.laws.specs.Lists.{every, below, sum, top, All}

-- ---- tests

pub false_true : {A : Type 0} → false ≡ true → A
false_true e = absurd (let z : ◌≡◌ {A = ℕ} 0 1 = cc in omega arith)

pub and_parts : (a b : Bool) → a && b ≡ true → (a ≡ true) × (b ≡ true)
and_parts true b e = (refl, e)
and_parts false b e = false_true e

pub and_no : (a b : Bool) → b ≡ false → a && b ≡ false
and_no true b e = e
and_no false b e = refl

or_parts : (a b : Bool) → a || b ≡ false → (a ≡ false) × (b ≡ false)
or_parts true b e = false_true (sym e)
or_parts false b e = (refl, e)

or_joined : (a b c : Bool) → (a || b) || c ≡ a || (b || c)
or_joined true b c = refl
or_joined false b c = refl

-- what is 0 or n is at most what n is at most
pub cond_le : (b : Bool) (n m : ℕ) → n ≤ m → cond b n 0 ≤ m
cond_le true n m h = h
cond_le false n m h = omega arith

pub cond_zero : (b : Bool) (n : ℕ) → n ≡ 0 → cond b n 0 ≡ 0
cond_zero true n e = e
cond_zero false n e = refl

-- a proof for either way a test goes
pub by_test : {A : Type 0} (b : Bool) → (b ≡ true → A) → (b ≡ false → A) → A
by_test true f g = f refl
by_test false f g = g refl

abbrev pub Holds : Bool → Type 0
Holds b = b ≡ true

pub every_all : (bs : List Bool) → every bs ≡ true → All Holds bs
every_all [] e = tt
every_all (b ∷ []) e = (e, tt)
every_all (b ∷ (c ∷ bs)) e = ((and_parts b (every (c ∷ bs)) e).0, every_all (c ∷ bs) (and_parts b (every (c ∷ bs)) e).1)

-- ---- over a list

module _ {A : Type 0} where
  -- a test of every element, and a property of every element
  pub all_all : (p : A → Bool) (P : A → Type 0) → ((x : A) → p x ≡ true → P x) → (xs : List A) → list_all p xs ≡ true → All P xs
  all_all p P f [] e = tt
  all_all p P f (x ∷ xs) e = (f x (and_parts (p x) (list_all p xs) e).0, all_all p P f xs (and_parts (p x) (list_all p xs) e).1)

  pub all_map : (P Q : A → Type 0) (xs : List A) → ((x : A) → P x → Q x) → All P xs → All Q xs
  all_map P Q [] f a = tt
  all_map P Q (x ∷ xs) f a = (f x a.0, all_map P Q xs f a.1)

  pub all_zip : (P Q R : A → Type 0) (xs : List A) → ((x : A) → P x → Q x → R x) → All P xs → All Q xs → All R xs
  all_zip P Q R [] f a b = tt
  all_zip P Q R (x ∷ xs) f a b = (f x a.0 b.0, all_zip P Q R xs f a.1 b.1)

  pub all_each : (P : A → Type 0) (xs : List A) → ((x : A) → P x) → All P xs
  all_each P [] f = tt
  all_each P (x ∷ xs) f = (f x, all_each P xs f)

  pub all_at : (P : A → Type 0) (xs : List A) (j : ℕ) (d : A) → j < length xs → All P xs → P (get_or xs j d)
  all_at P [] j d h a = absurd (omega arith)
  all_at P (x ∷ xs) zero d h a = a.0
  all_at P (x ∷ xs) (suc j) d h a = all_at P xs j d (omega arith) a.1

  -- the element at a place of a front part
  pub all_take_at : (P : A → Type 0) (xs : List A) (n j : ℕ) (d : A) → j < n → j < length xs → All P (take n xs) → P (get_or xs j d)
  all_take_at P xs n j d h k a =
      subst P (get_or-take n xs j d h) (all_at P (take n xs) j d (omega (arith, length-take n xs)) a)

  all_snoc : (P : A → Type 0) (xs : List A) (y : A) → All P xs → P y → All P (xs ++ (y ∷ []))
  all_snoc P [] y a p = (p, tt)
  all_snoc P (x ∷ xs) y a p = (a.0, all_snoc P xs y a.1 p)

  pub all_take_more : (P : A → Type 0) (xs : List A) (j : ℕ) (d : A) → j < length xs → All P (take j xs) → P (get_or xs j d) → All P (take (j + 1) xs)
  all_take_more P xs j d h a p =
      subst⁻¹ (All P) (ap (λ (n : ℕ). take n xs) (add-one j) ∙ take-suc xs j d h) (all_snoc P (take j xs) (get_or xs j d) a p)

  pub all_take_less : (P : A → Type 0) (xs : List A) (n j : ℕ) → j ≤ n → All P (take n xs) → All P (take j xs)
  all_take_less P xs n zero h a = tt
  all_take_less P [] n (suc j) h a = tt
  all_take_less P (x ∷ xs) zero (suc j) h a = absurd (omega arith)
  all_take_less P (x ∷ xs) (suc n) (suc j) h a = (a.0, all_take_less P xs n j (omega arith) a.1)

  -- ---- sums

  pub sum_append : (f : A → ℕ) (xs ys : List A) → sum f (xs ++ ys) ≡ sum f xs + sum f ys
  unfolding sum
  sum_append f [] ys = sym (zero-add (sum f ys))
  sum_append f (x ∷ xs) ys = omega (arith, sum_append f xs ys)

  -- one more element of a front part
  pub sum_take : (f : A → ℕ) (xs : List A) (j : ℕ) (d : A) → j < length xs → sum f (take (j + 1) xs) ≡ sum f (take j xs) + f (get_or xs j d)
  unfolding sum
  sum_take f xs j d h =
      ap (λ (n : ℕ). sum f (take n xs)) (add-one j) ∙ ap (sum f) (take-suc xs j d h) ∙ sum_append f (take j xs) (get_or xs j d ∷ [])
      ∙ ap (λ (n : ℕ). sum f (take j xs) + n) (add-zero (f (get_or xs j d)))

  pub sum_none : (f : A → ℕ) → sum f [] ≡ 0
  unfolding sum
  sum_none f = refl

  pub sum_split : (f g k : A → ℕ) (xs : List A) → All (λ x. f x ≡ g x + k x) xs → sum f xs ≡ sum g xs + sum k xs
  unfolding sum
  sum_split f g k [] a = refl
  sum_split f g k (x ∷ xs) a = omega (arith, a.0, sum_split f g k xs a.1)

  pub sum_zero : (f : A → ℕ) (xs : List A) → All (λ x. f x ≡ 0) xs → sum f xs ≡ 0
  unfolding sum
  sum_zero f [] a = refl
  sum_zero f (x ∷ xs) a = omega (arith, a.0, sum_zero f xs a.1)

  pub sum_eq : (f g : A → ℕ) (xs : List A) → All (λ x. f x ≡ g x) xs → sum f xs ≡ sum g xs
  unfolding sum
  sum_eq f g [] a = refl
  sum_eq f g (x ∷ xs) a = ap₂ ◌+◌ a.0 (sum_eq f g xs a.1)

  pub sum_mul : (c : ℕ) (f : A → ℕ) (xs : List A) → c * sum f xs ≡ sum (λ x. c * f x) xs
  unfolding sum
  sum_mul c f [] = mul-zero c
  sum_mul c f (x ∷ xs) = mul-add c (f x) (sum f xs) ∙ ap (λ (n : ℕ). c * f x + n) (sum_mul c f xs)

  pub sum_le : (f : A → ℕ) (m : ℕ) (xs : List A) → All (λ x. f x ≤ m) xs → sum f xs ≤ length xs * m
  unfolding sum
  sum_le f m [] h = le_of_eq (sym (zero-mul m))
  sum_le f m (x ∷ xs) h = omega (arith, h.0, sum_le f m xs h.1, suc-mul (length xs) m)

  -- ---- greatest values

  top_snoc : (f : A → ℕ) (xs : List A) (y : A) → top f (xs ++ (y ∷ [])) ≡ max (top f xs) (f y)
  unfolding top
  top_snoc f [] y = omega arith
  top_snoc f (x ∷ xs) y = omega (arith, top_snoc f xs y)

  pub top_take : (f : A → ℕ) (xs : List A) (j : ℕ) (d : A) → j < length xs → top f (take (j + 1) xs) ≡ max (top f (take j xs)) (f (get_or xs j d))
  top_take f xs j d h =
      ap (λ (n : ℕ). top f (take n xs)) (add-one j) ∙ ap (top f) (take-suc xs j d h) ∙ top_snoc f (take j xs) (get_or xs j d)

  pub top_none : (f : A → ℕ) → top f [] ≡ 0
  unfolding top
  top_none f = refl

  -- every element is at most the greatest, and the greatest is at most what every element is at most
  pub top_each : (f : A → ℕ) (m : ℕ) (xs : List A) → top f xs ≤ m → All (λ x. f x ≤ m) xs
  unfolding top
  top_each f m [] h = tt
  top_each f m (x ∷ xs) h = (omega arith, top_each f m xs (omega arith))

  pub top_le : (f : A → ℕ) (m : ℕ) (xs : List A) → All (λ x. f x ≤ m) xs → top f xs ≤ m
  unfolding top
  top_le f m [] h = omega arith
  top_le f m (x ∷ xs) h = omega (arith, h.0, top_le f m xs h.1)

  pub top_zero : (f : A → ℕ) (xs : List A) → All (λ x. f x ≡ 0) xs → top f xs ≡ 0
  unfolding top
  top_zero f [] a = refl
  top_zero f (x ∷ xs) a = omega (arith, a.0, top_zero f xs a.1)

  pub top_eq : (f g : A → ℕ) (xs : List A) → All (λ x. f x ≡ g x) xs → top f xs ≡ top g xs
  unfolding top
  top_eq f g [] a = refl
  top_eq f g (x ∷ xs) a = ap₂ max a.0 (top_eq f g xs a.1)

  -- ---- some element passes

  any_snoc : (f : A → Bool) (xs : List A) (y : A) → list_any f (xs ++ (y ∷ [])) ≡ list_any f xs || f y
  any_snoc f [] y = or-false (f y)
  any_snoc f (x ∷ xs) y = ap (λ (b : Bool). f x || b) (any_snoc f xs y) ∙ sym (or_joined (f x) (list_any f xs) (f y))

  pub any_take : (f : A → Bool) (xs : List A) (j : ℕ) (d : A) → j < length xs → list_any f (take (j + 1) xs) ≡ list_any f (take j xs) || f (get_or xs j d)
  any_take f xs j d h =
      ap (λ (n : ℕ). list_any f (take n xs)) (add-one j) ∙ ap (list_any f) (take-suc xs j d h) ∙ any_snoc f (take j xs) (get_or xs j d)

  pub any_none : (f : A → Bool) (xs : List A) → All (λ x. f x ≡ false) xs → list_any f xs ≡ false
  any_none f [] a = refl
  any_none f (x ∷ xs) a = rw a.0 (any_none f xs a.1)

  pub none_any : (f : A → Bool) (xs : List A) → list_any f xs ≡ false → All (λ x. f x ≡ false) xs
  none_any f [] e = tt
  none_any f (x ∷ xs) e = ((or_parts (f x) (list_any f xs) e).0, none_any f xs (or_parts (f x) (list_any f xs) e).1)

  pub any_eq : (f g : A → Bool) (xs : List A) → All (λ x. f x ≡ g x) xs → list_any f xs ≡ list_any g xs
  any_eq f g [] a = refl
  any_eq f g (x ∷ xs) a = ap₂ ◌||◌ a.0 (any_eq f g xs a.1)

-- ---- the numbers below n

pub sum_below : (f : ℕ → ℕ) (n : ℕ) → sum f (below (n + 1)) ≡ f n + sum f (below n)
unfolding sum
sum_below f n = ap (λ (m : ℕ). sum f (below m)) (add-one n)

pub all_below : (P : ℕ → Type 0) (n : ℕ) → ((k : ℕ) → k < n → P k) → All P (below n)
all_below P zero f = tt
all_below P (suc n) f = (f n (omega arith), all_below P n (λ k h. f k (omega arith)))

pub length_below : (n : ℕ) → length (below n) ≡ n
length_below zero = refl
length_below (suc n) = ap suc (length_below n)
