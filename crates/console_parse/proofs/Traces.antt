-- Steps of a trace, byte by byte.
-- Assumes nothing.
use Prim.Native.Nat.{ℕ, ◌+◌, ◌≤◌, ◌<◌}
use Prim.Native.Char.{code}
use native.Mathlib.Numerals.{add-one}
use mathlib.Core.Path.{◌≡◌, refl, ap, ap₂, ◌∙◌}
use mathlib.Core.Bool.{Bool, true, false, cond, not, ◌&&◌, ◌||◌}
use mathlib.Core.List.{List, [], ◌∷◌}
use lib.ListN.{length, get_or, drop, drop_of_length-le}
use lib.Seq.{drop-cons}
use lib.Dec.{eqb}
use borrow.Author.Tests.{eqb-true}
use Rattle.ascii.specs.Hex.{is_hex}
use Rattle.console_parse.specs.Bytes.{is_unit, is_steps}
use Rattle.console_parse.specs.Scan.{step_byte, steps_from}

-- a p with nothing behind it is no step
last_byte : (b : ℕ) → is_unit b ≡ (step_byte false b && not (eqb b (code "p")))
last_byte b = go (eqb b (code "p")) refl
  where
    go : (t : Bool) → eqb b (code "p") ≡ t → is_unit b ≡ ((t || is_unit b) && not t)
    go true e = ap is_unit (eqb-true b (code "p") e)
    go false e = and_true (is_unit b)
      where
        and_true : (u : Bool) → u ≡ (u && true)
        and_true true = refl
        and_true false = refl

pub steps_from_lem : (l : List ℕ) → is_steps l ≡ steps_from false l
unfolding is_steps steps_from
steps_from_lem [] = refl
steps_from_lem (b ∷ []) = last_byte b
steps_from_lem (b ∷ d ∷ l) =
    ap₂ (λ (x y : Bool). cond (eqb b (code "p")) (is_hex d && x) (is_unit b && y)) (steps_from_lem l) (steps_from_lem (d ∷ l))
    ∙ go (eqb b (code "p"))
  where
    go : (t : Bool) → cond t (is_hex d && steps_from false l) (is_unit b && steps_from false (d ∷ l)) ≡ ((t || is_unit b) && steps_from t (d ∷ l))
    go true = refl
    go false = refl

-- a turn of the loop, and its ways out
module _ (w : List ℕ) (waiting : Bool) (i : ℕ) where
  pub steps_on : i < length w → step_byte waiting (get_or w i 0) ≡ true
      → steps_from (not waiting && eqb (get_or w i 0) (code "p")) (drop (i + 1) w) ≡ steps_from waiting (drop i w)
  unfolding steps_from
  steps_on h e = rw (drop-cons w i 0 h, e, add-one i)

  pub steps_off : i < length w → step_byte waiting (get_or w i 0) ≡ false → steps_from waiting (drop i w) ≡ false
  unfolding steps_from
  steps_off h e = rw (drop-cons w i 0 h, e)

  pub steps_end : length w ≤ i → steps_from waiting (drop i w) ≡ not waiting
  unfolding steps_from
  steps_end h = rw (drop_of_length-le w h)
