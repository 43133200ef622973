-- Greatest common divisors and least common multiples: Euclid's step, the least common multiple of two numbers, of what a list asks, and one that antt computes.
-- Assumes nothing.
use Prim.Native.Nat.{ℕ, zero, suc, ◌+◌, ◌*◌, ◌/◌, ◌%◌, ◌≤◌, ◌<◌, ◌∣◌}
use native.Mathlib.Nat.{le_refl, dvd_refl, dvd_trans, dvd-zero, dvd-mod_iff, dvd-add_iff_right, div-add-mod, add-mul, mul_assoc, mul_comm, mul-one, dvd-mul_left, dvd-mul_right, dvd-mul_right_of_dvd, mul-div_cancel', div-mul_cancel, dvd_of_mul-dvd-mul_right, mul-dvd-mul_right, pos_of_dvd_of_pos, mul-pos, mod-lt, le_of_dvd, lt_of_lt_of_le, dvd_antisymm}
use native.Mathlib.Omega.{arith}
use mathlib.Core.Path.{◌≡◌, ap, subst, sym, ◌∙◌}
use mathlib.Core.List.{List, [], ◌∷◌}
use lib.ListN.{length, take, get_or}
use Rattle.laws.specs.Lists.{All}
use Rattle.laws.specs.Multiples.{IsGcd, IsLcm, LeastWith, joined}
use Rattle.laws.proofs.Sums.{all_map, all_take_at, all_take_more, all_take_less}

-- ---- two numbers

pub gcd_base : (a : ℕ) → IsGcd a 0 a
gcd_base a = record { left = dvd_refl a; right = dvd-zero a; greatest = λ d k x y. x }

pub gcd_step : (a b r : ℕ) → IsGcd b (a % b) r → IsGcd a b r
gcd_step a b r g = record { left = (dvd-mod_iff r g.left).0 g.right; right = g.left; greatest = λ d k x y. g.greatest d k y (rest d k x y) }
  where
    whole : (k : ℕ) → b * k * (a / b) + a % b * k ≡ a * k
    whole k =
        ap (λ (n : ℕ). n + a % b * k) (mul_assoc b k (a / b) ∙ ap (λ (n : ℕ). b * n) (mul_comm k (a / b)) ∙ sym (mul_assoc b (a / b) k))
        ∙ sym (add-mul (b * (a / b)) (a % b) k) ∙ ap (λ (n : ℕ). n * k) (div-add-mod a b)

    rest : (d k : ℕ) → d ∣ a * k → d ∣ b * k → d ∣ a % b * k
    rest d k x y = (dvd-add_iff_right d (dvd-mul_right_of_dvd d y (a / b))).1 (subst (λ (n : ℕ). d ∣ n) (sym (whole k)) x)

pub gcd_positive : (a b r : ℕ) → 0 < b → IsGcd a b r → 0 < r
gcd_positive a b r p g = pos_of_dvd_of_pos g.right p

-- two numbers have one greatest common divisor
pub gcd_unique : (a b r s : ℕ) → IsGcd a b r → IsGcd a b s → r ≡ s
gcd_unique a b r s g h = dvd_antisymm (one g h) (one h g)
  where
    times_one : (d n : ℕ) → d ∣ n → d ∣ n * 1
    times_one d n x = subst (λ (m : ℕ). d ∣ m) (sym (mul-one n)) x

    one : {d e : ℕ} → IsGcd a b d → IsGcd a b e → d ∣ e
    one {d} {e} g h = subst (λ (m : ℕ). d ∣ m) (mul-one e) (h.greatest d 1 (times_one d a g.left) (times_one d b g.right))

pub lcm_of_gcd : (a b g : ℕ) → 0 < a → 0 < b → IsGcd a b g → IsLcm a b (a / g * b)
lcm_of_gcd a b g pa pb h =
    record { positive = mul-pos (part a h.left pa) pb; left = subst (λ (n : ℕ). a ∣ n) across (dvd-mul_right a (b / g)); right = dvd-mul_left b (a / g); least = least }
  where
    part : (n : ℕ) → g ∣ n → 0 < n → 0 < n / g
    part n d p = pos_of_dvd_of_pos (subst (λ (m : ℕ). n / g ∣ m) (div-mul_cancel g d) (dvd-mul_right (n / g) g)) p

    across : a * (b / g) ≡ a / g * b
    across = ap (λ (n : ℕ). n * (b / g)) (sym (div-mul_cancel g h.left)) ∙ mul_assoc (a / g) g (b / g) ∙ ap (λ (n : ℕ). a / g * n) (mul-div_cancel' g h.right)

    least : (m : ℕ) → a ∣ m → b ∣ m → a / g * b ∣ m
    least m x y =
        let e : b * (m / b) ≡ m = mul-div_cancel' b y in
        let k : ℕ = m / b in
        let u : a ∣ g * k = h.greatest a k (dvd-mul_right a k) (subst (λ (n : ℕ). a ∣ n) (sym e) x) in
        let v : a / g * g ∣ k * g = subst (λ (n : ℕ). n ∣ k * g) (sym (div-mul_cancel g h.left)) (subst (λ (n : ℕ). a ∣ n) (mul_comm g k) u) in
        let w : a / g ∣ k = dvd_of_mul-dvd-mul_right (a / g) (gcd_positive a b g pb h) v in
        subst (λ (n : ℕ). a / g * b ∣ n) (mul_comm k b ∙ e) (mul-dvd-mul_right (a / g) w b)

-- a greatest common divisor that antt computes
abbrev gcd_in : ℕ → ℕ → ℕ → ℕ
gcd_in zero a b = a
gcd_in (suc n) a zero = a
gcd_in (suc n) a (suc b) = gcd_in n (suc b) (a % suc b)

gcd_in_lem : (n a b : ℕ) → b ≤ n → IsGcd a b (gcd_in n a b)
gcd_in_lem zero a zero h = gcd_base a
gcd_in_lem zero a (suc b) h = absurd (omega arith)
gcd_in_lem (suc n) a zero h = gcd_base a
gcd_in_lem (suc n) a (suc b) h = gcd_step a (suc b) _ (gcd_in_lem n (suc b) (a % suc b) (omega (arith, mod-lt a {m = suc b} (omega arith))))

abbrev pub gcd_of : ℕ → ℕ → ℕ
gcd_of a b = gcd_in b a b

pub gcd_of_lem : (a b : ℕ) → IsGcd a b (gcd_of a b)
gcd_of_lem a b = gcd_in_lem b a b (le_refl b)

-- ---- what a list asks: C m x says that m is a multiple of what the element x names

module _ {A : Type 0} (C : ℕ → A → Type 0) where
  abbrev pub Of : List A → ℕ → Type 0
  Of xs m = All (C m) xs

  -- a multiple of a multiple is one
  abbrev pub Upward : Type 0
  Upward = (m n : ℕ) (x : A) → m ∣ n → C m x → C n x

  pub with_none : (h : ℕ) → 0 < h → LeastWith h (Of []) h
  with_none h p = record { positive = p; old = dvd_refl h; new = tt; least = λ m x y. x }

  pub with_more : Upward → (xs : List A) (j : ℕ) (d : A) → j < length xs → (h r s : ℕ)
      → LeastWith h (Of (take j xs)) r → LeastWith r (λ m. C m (get_or xs j d)) s → LeastWith h (Of (take (j + 1) xs)) s
  with_more up xs j d k h r s a b =
      record {
        positive = b.positive;
        old = dvd_trans h a.old b.old;
        new = all_take_more (C s) xs j d k (all_map (C r) (C s) (take j xs) (λ x c. up r s x b.old c) a.new) b.new;
        least = λ m x y. b.least m (a.least m x (all_take_less (C m) xs (j + 1) j (omega arith) y)) (all_take_at (C m) xs (j + 1) j d (omega arith) k y);
      }

  -- where one more element takes it above t, so is every common multiple of the whole
  pub with_above : (t : ℕ) (xs : List A) (n j : ℕ) (d : A) → j < n → j < length xs → (h r : ℕ) → LeastWith h (Of (take j xs)) r
      → ((m : ℕ) → 0 < m → r ∣ m → C m (get_or xs j d) → t < m) → (m : ℕ) → 0 < m → h ∣ m → Of (take n xs) m → t < m
  with_above t xs n j d k l h r a f m p x y =
      f m p (a.least m x (all_take_less (C m) xs n j (omega arith) y)) (all_take_at (C m) xs n j d k l y)

  -- the least common multiple of a list, one element after the other: f h x is that of h and x
  module _ (up : Upward) (G : A → Type 0) (f : ℕ → A → ℕ) (one : (h : ℕ) (x : A) → 0 < h → G x → LeastWith h (λ m. C m x) (f h x)) where
    pub with_joined : (xs : List A) (h : ℕ) → 0 < h → All G xs → LeastWith h (Of xs) (joined f h xs)
    with_joined [] h p g = record { positive = p; old = dvd_refl h; new = tt; least = λ m x y. x }
    with_joined (x ∷ xs) h p g =
        let a : LeastWith h (λ m. C m x) (f h x) = one h x p g.0 in
        let b : LeastWith (f h x) (Of xs) (joined f (f h x) xs) = with_joined xs (f h x) a.positive g.1 in
        record {
          positive = b.positive;
          old = dvd_trans h a.old b.old;
          new = (up (f h x) (joined f (f h x) xs) x b.old a.new, b.new);
          least = λ m u v. b.least m (a.least m u v.0) v.1;
        }

-- a least common multiple that divides every other is above t only where every other is
pub least_above : (t h : ℕ) (P : ℕ → Type 0) (r : ℕ) → LeastWith h P r → t < r → (m : ℕ) → 0 < m → h ∣ m → P m → t < m
least_above t h P r a big m p x y = lt_of_lt_of_le big (le_of_dvd p (a.least m x y))
