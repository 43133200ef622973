-- The laxity as the machine subtracts it.
-- Assumes nothing.
use Prim.Native.Nat.{ℕ, zero, suc, ◌-◌, ◌^◌, ◌<◌}
use mathlib.Core.Path.{◌≡◌, ◌∙◌}
use mathlib.Core.Bool.{Bool, true, false, cond}
use native.Mathlib.Omega.{arith}
use lib.Dec.{ltb}
use lib.IntN.{ℤ, pos, negsuc, ◌-ℤ◌}
use lib.Signed.{mag}
use mir.Syntax.{w64}
use mir.Val.{SFits, to_z, of_z}
use mir.ValLaws.{to_z_pos, to_z-of_z}
use Rattle.rules.specs.Steps.{laxity_of}

either : (b : Bool) (x y n : ℕ) → x < n → y < n → mag (cond b (negsuc x) (pos y)) < n
either true x y n h g = h
either false x y n h g = g

pub laxity_fits : (d c : ℕ) → d < 2 ^ 32 → c < 2 ^ 32 → SFits w64 (laxity_of d c)
unfolding laxity_of
laxity_fits d zero h g = record { sfits = omega arith }
laxity_fits d (suc c) h g = record { sfits = either (ltb d (suc c)) (suc c - suc d) (d - suc c) (2 ^ 63) (omega arith) (omega arith) }

-- the machine's difference is that number
pub difference_fits : (d c : ℕ) → d < 2 ^ 32 → c < 2 ^ 32 → SFits w64 (to_z w64 d -ℤ to_z w64 c)
unfolding laxity_of
difference_fits d c h g = rw (to_z_pos w64 d (omega arith), to_z_pos w64 c (omega arith)) (laxity_fits d c h g)

pub difference : (d c : ℕ) → d < 2 ^ 32 → c < 2 ^ 32 → to_z w64 (of_z w64 (to_z w64 d -ℤ to_z w64 c)) ≡ laxity_of d c
unfolding laxity_of
difference d c h g = to_z-of_z w64 (to_z w64 d -ℤ to_z w64 c) (difference_fits d c h g) ∙ rw (to_z_pos w64 d (omega arith), to_z_pos w64 c (omega arith))

-- and it is the same after it was kept in an answer
pub kept : (d c : ℕ) (z : ℤ) → z ≡ laxity_of d c → d < 2 ^ 32 → c < 2 ^ 32 → to_z w64 (of_z w64 z) ≡ laxity_of d c
kept d c z e h g = rw e (to_z-of_z w64 (laxity_of d c) (laxity_fits d c h g))
