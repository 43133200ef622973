-- The digits of a number: read one after the other, they give the number back; and how many they are.
-- Assumes nothing.
use Prim.Native.Nat.{ℕ, zero, suc, ◌+◌, ◌-◌, ◌*◌, ◌/◌, ◌%◌, ◌^◌, ◌≤◌, ◌<◌}
use native.Mathlib.Omega.{arith}
use native.Mathlib.Nat.{pow-suc}
use mathlib.Core.Path.{◌≡◌, refl}
use mathlib.Core.Bool.{Bool, true, false, cond}
use mathlib.Core.List.{List, [], ◌∷◌, ◌++◌}
use lib.ListN.{length, length-append}
use lib.Dec.{ltb}
use borrow.Author.Tests.{ltb-true, ltb-false}
use Rattle.ascii.specs.Decimal.{digits_of, read_on}

read_last : (a : ℕ) (w : List ℕ) (b : ℕ) → read_on a (w ++ (b ∷ [])) ≡ read_on a w * 10 + (b - 48)
unfolding read_on
read_last a [] b = refl
read_last a (d ∷ w) b = read_last (a * 10 + (d - 48)) w b

-- a number of at most k digits is what its digits stand for
pub digits_back : (k n : ℕ) → n < 10 ^ k → read_on 0 (digits_of k n) ≡ n
unfolding digits_of read_on
digits_back zero n h = omega arith
digits_back (suc k) n h = go (ltb n 10) (digits_back k (n / 10)) (ltb-true n 10) (ltb-false n 10)
  where
    go : (t : Bool) → (n / 10 < 10 ^ k → read_on 0 (digits_of k (n / 10)) ≡ n / 10) → (t ≡ true → n < 10) → (t ≡ false → 10 ≤ n)
        → read_on 0 (cond t ((48 + n) ∷ []) (digits_of k (n / 10) ++ ((48 + n % 10) ∷ []))) ≡ n
    go true rec lo hi = let e : 0 * 10 + (48 + n - 48) ≡ n = omega arith in e
    go false rec lo hi =
        let rest : n / 10 < 10 ^ k = omega (arith, pow-suc 10 k) in
        rw (read_last 0 (digits_of k (n / 10)) (48 + n % 10), rec rest) (omega arith)

-- a number has at most as many digits as were asked for
pub digits_short : (k n : ℕ) → length (digits_of k n) ≤ k
unfolding digits_of
digits_short zero n = omega arith
digits_short (suc k) n = go (ltb n 10) (digits_short k (n / 10))
  where
    go : (t : Bool) → length (digits_of k (n / 10)) ≤ k → length (cond t ((48 + n) ∷ []) (digits_of k (n / 10) ++ ((48 + n % 10) ∷ []))) ≤ suc k
    go true h = omega arith
    go false h = omega (arith, length-append (digits_of k (n / 10)) ((48 + n % 10) ∷ []))
