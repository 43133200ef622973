-- Words about lists and tests that the rules are written in. No cranes here.
-- Assumes nothing.
use Rattle.std.specs.Prelude.{ℕ, zero, suc, ◌+◌, max, Bool, true, cond, ◌&&◌, List, [], ◌∷◌, ◌++◌, leb}

-- all the tests of a list pass; the last stands alone, as in `a && (b && c)`
abbrev pub every : List Bool → Bool
every [] = true
every (t ∷ []) = t
every (t ∷ (u ∷ ts)) = t && every (u ∷ ts)

-- from a to b, both counted
abbrev pub within : ℕ → ℕ → ℕ → Bool
within a x b = leb a x && leb x b

-- the numbers below n, the last first
abbrev pub below : ℕ → List ℕ
below zero = []
below (suc n) = n ∷ below n

module _ {A : Type 0} where
  -- the sum of f over a list
  unfoldable pub sum : (A → ℕ) → List A → ℕ
  sum f [] = 0
  sum f (x ∷ xs) = f x + sum f xs

  -- the greatest f of a list, 0 where it is empty
  unfoldable pub top : (A → ℕ) → List A → ℕ
  top f [] = 0
  top f (x ∷ xs) = max (f x) (top f xs)

  -- how many elements pass the test
  unfoldable pub count : (A → Bool) → List A → ℕ
  count p l = sum (λ x. cond (p x) 1 0) l

  -- the place of the first element that passes the test, the length where none does
  unfoldable pub find : (A → Bool) → List A → ℕ
  find p [] = 0
  find p (x ∷ xs) = cond (p x) 0 (suc (find p xs))

  -- the list with the place i taken out and d put at its end: the order of the rest is kept
  unfoldable pub remove : A → ℕ → List A → List A
  remove d i [] = []
  remove d zero (x ∷ xs) = xs ++ (d ∷ [])
  remove d (suc i) (x ∷ xs) = x ∷ remove d i xs

  -- each element has the property
  abbrev pub All : (A → Type 0) → List A → Type 0
  All P [] = Unit {0}
  All P (x ∷ xs) = P x × All P xs

-- the lists that f makes of the elements, one behind the other
unfoldable pub flat : {A B : Type 0} → (A → List B) → List A → List B
flat f [] = []
flat f (x ∷ xs) = f x ++ flat f xs

-- every element passes the test p, which also sees what f read off the element before it, b at the first
module _ {A B : Type 0} (p : B → A → Bool) (f : A → B) where
  unfoldable pub scan : B → List A → Bool
  scan b [] = true
  scan b (x ∷ xs) = p b x && scan (f x) xs

-- the first number below n that no other goes before; 0 where n is 0
unfoldable pub first_by : (ℕ → ℕ → Bool) → ℕ → ℕ
first_by before zero = 0
first_by before (suc n) = cond (before n (first_by before n)) n (first_by before n)
