-- How far a signed number of the machine is from zero.
-- Assumes nothing.
use Prim.Native.Nat.{ℕ}
use native.Mathlib.Omega.{arith}
use mathlib.Core.Path.{◌≡◌, refl, sym, ap, subst, ◌∙◌}
use mathlib.Core.Bool.{true, false}
use mathlib.Core.List.{◌∷◌}
use lib.IntN.{ℤ, pos, negsuc, nat_abs}
use lib.Signed.{lt_z}
use lib.Dec.{T}
use borrow.Author.Tests.{ltb-true}
use mir.Syntax.{w64}
use mir.Val.{SFits, to_z, of_z}
use mir.ValLaws.{to_z-of_z}
use Rattle.line.specs.declared.Line.{Line}
use Rattle.ascii.specs.Decimal.{decimal_of, signed_of}
use Rattle.line.specs.Line.{put_of, puts}
use Rattle.line.proofs.Puts.{first}

module _ (z : ℤ) (f : SFits w64 z) where
  here : to_z w64 (of_z w64 z) ≡ z
  here = to_z-of_z w64 z f

-- a signed number behind a space: with its minus, and without
module _ (l a : Line) (z : ℤ) (n : ℕ) (f : SFits w64 z) (e : a ≡ put_of l 32) (s : n ≡ nat_abs (to_z w64 (of_z w64 z))) where
  far : nat_abs z ≡ n
  far = sym (s ∙ ap nat_abs (here z f))

  pub minus : (b r : Line) → lt_z (to_z w64 (of_z w64 z)) (pos 0) ≡ true → b ≡ put_of a 45 → r ≡ puts b (decimal_of n)
      → r ≡ puts l (32 ∷ signed_of z)
  minus b r h p q = first l a r 32 (signed_of z) e (rw (← sign z (rw (here z f) at h), far) (first a b r 45 (decimal_of n) p q))
    where
      sign : (y : ℤ) → lt_z y (pos 0) ≡ true → 45 ∷ decimal_of (nat_abs y) ≡ signed_of y
      sign (pos m) k = absurd (omega (arith, ltb-true m 0 k))
      sign (negsuc m) k = refl

  pub plain : (r : Line) → lt_z (to_z w64 (of_z w64 z)) (pos 0) ≡ false → r ≡ puts a (decimal_of n) → r ≡ puts l (32 ∷ signed_of z)
  plain r h q = first l a r 32 (signed_of z) e (rw (← sign z (rw (here z f) at h), far) q)
    where
      sign : (y : ℤ) → lt_z y (pos 0) ≡ false → decimal_of (nat_abs y) ≡ signed_of y
      sign (pos m) k = refl
      sign (negsuc m) k = absurd (subst T k tt)
