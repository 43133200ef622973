-- Greatest common divisors and least common multiples, said by divisibility.
-- Assumes nothing.
use Rattle.std.specs.Prelude.{ℕ, ◌*◌, ◌<◌, List, [], ◌∷◌}
use Rattle.std.specs.Int.{◌∣◌}

-- r divides both, and whatever divides the same multiple of both divides that multiple of r: at k = 1, every common divisor divides r
pub record IsGcd (a b r : ℕ) : Type 0 where
  pub left : r ∣ a
  pub right : r ∣ b
  pub greatest : (d k : ℕ) → d ∣ a * k → d ∣ b * k → d ∣ r * k

-- r is a positive multiple of both, and divides every other
pub record IsLcm (a b r : ℕ) : Type 0 where
  pub positive : 0 < r
  pub left : a ∣ r
  pub right : b ∣ r
  pub least : (m : ℕ) → a ∣ m → b ∣ m → r ∣ m

-- r is the least common multiple of h and of what P asks of a number
pub record LeastWith (h : ℕ) (P : ℕ → Type 0) (r : ℕ) : Type 0 where
  pub positive : 0 < r
  pub old : h ∣ r
  pub new : P r
  pub least : (m : ℕ) → h ∣ m → P m → r ∣ m

-- f applied from the front: what h becomes by the elements, one after the other
abbrev pub joined : {A : Type 0} → (ℕ → A → ℕ) → ℕ → List A → ℕ
joined f h [] = h
joined f h (x ∷ xs) = joined f (f h x) xs
