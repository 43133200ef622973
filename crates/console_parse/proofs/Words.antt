-- The word at the front of what is left of a line.
-- Assumes nothing.
use Prim.Native.Nat.{ℕ, ◌+◌, ◌≤◌}
use native.Mathlib.Omega.{arith}
use mathlib.Core.Path.{◌≡◌, refl, ap}
use mathlib.Core.Bool.{Bool, true, false, cond, not}
use mathlib.Core.List.{List, [], ◌∷◌}
use lib.ListN.{length, take, drop}
use lib.Dec.{eqb, ltb}
use borrow.Author.Tests.{ltb-false}
use Rattle.std.proofs.Common.{Option, Some}
use Rattle.std.specs.Option.{unwrap_or}
use Rattle.std.specs.List.{position, position_or_len}
use Rattle.laws.proofs.Sums.{by_test}
use Rattle.console_parse.specs.Bytes.{front, behind}

pub front_short : (l : List ℕ) → length (front l) ≤ length l
unfolding front
front_short [] = omega arith
front_short (b ∷ l) = go (eqb b 32) (front_short l)
  where
    go : (t : Bool) → length (front l) ≤ length l → length (cond t [] (b ∷ front l)) ≤ length (b ∷ l)
    go true e = omega arith
    go false e = omega arith

-- a number, and what is left behind it
abbrev pub some_pair : ℕ → List ℕ → Option (ℕ × List ℕ)
some_pair n l = Some (n, l)

-- the first word ends where the first space stands
front_to : (l : List ℕ) → position_or_len (λ b. eqb b 32) l ≡ length (front l)
unfolding front
front_to [] = refl
front_to (b ∷ l) = go (eqb b 32) (front_to l)
  where
    go : (t : Bool) → position_or_len (λ b. eqb b 32) l ≡ length (front l)
        → cond (not t) (1 + position_or_len (λ b. eqb b 32) l) 0 ≡ length (cond t [] (b ∷ front l))
    go true e = refl
    go false e = omega (arith, e)

pub front_at : (l : List ℕ) → unwrap_or (position (λ b. eqb b 32) l) (length l) ≡ length (front l)
front_at l = by_test (ltb (position_or_len (λ b. eqb b 32) l) (length l))
    (λ e. rw (e, front_to l))
    (λ e. rw e (omega (arith, front_to l, front_short l, ltb-false (position_or_len (λ b. eqb b 32) l) (length l) e)))

-- the word and what is left make up the line
pub front_take : (l : List ℕ) → take (length (front l)) l ≡ front l
unfolding front
front_take [] = refl
front_take (b ∷ l) = go (eqb b 32) (front_take l)
  where
    go : (t : Bool) → take (length (front l)) l ≡ front l → take (length (cond t [] (b ∷ front l))) (b ∷ l) ≡ cond t [] (b ∷ front l)
    go true e = refl
    go false e = ap (λ (w : List ℕ). b ∷ w) e

pub behind_drop : (l : List ℕ) → drop (length (front l)) l ≡ behind l
unfolding front behind
behind_drop [] = refl
behind_drop (b ∷ l) = go (eqb b 32) (behind_drop l)
  where
    go : (t : Bool) → drop (length (front l)) l ≡ behind l → drop (length (cond t [] (b ∷ front l))) (b ∷ l) ≡ cond t (b ∷ l) (behind l)
    go true e = refl
    go false e = e
