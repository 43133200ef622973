-- The words of an answer, with what stands before and behind them, are its line.
-- Assumes nothing.
use Prim.Native.Nat.{ℕ, ◌≤◌}
use native.Mathlib.Omega.{arith}
use mathlib.Core.Path.{◌≡◌, ap, ◌∙◌}
use mathlib.Core.List.{List, [], ◌∷◌, ◌++◌}
use lib.ListN.{length}
use lib.IntN.{ℤ}
use mir.Syntax.{w64}
use mir.Val.{SFits, to_z, of_z}
use mir.ValLaws.{to_z-of_z}
use Rattle.rules.specs.Numbers.{Says}
use Rattle.line.specs.declared.Line.{Line}
use Rattle.ascii.specs.Decimal.{decimal_of, signed_of, spaced}
use Rattle.line.specs.Line.{line_room, holding, put_of, puts}
use Rattle.line.proofs.Puts.{then, first, last, holds}
use Rattle.answer_words.specs.Words.{says, line_of, step_line}
use Rattle.answer_words.proofs.Lengths.{line_short, step_short}

-- what was put on a blank line is what it holds
held : (b r : Line) (w : List ℕ) → b ≡ holding [] → r ≡ puts b w → length w ≤ line_room → r ≡ holding w
held b r w e f h = f ∙ ap (λ (l : Line). puts l w) e ∙ holds [] w (omega arith)

pub ended : (b m r : Line) (w : List ℕ) → length w ≤ 95 → b ≡ holding [] → m ≡ puts b w → r ≡ put_of m 10 → r ≡ holding (line_of w)
ended b m r w h e f g = held b r (line_of w) e (last b m r w 10 f g) (line_short w h)

pub stepped : (b d f m r : Line) (n : ℕ) (s : Says) → b ≡ holding [] → d ≡ puts b (decimal_of n) → f ≡ put_of d 32
    → m ≡ puts f (says s) → r ≡ put_of m 10 → r ≡ holding (step_line n s)
unfolding step_line
stepped b d f m r n s e p q x y =
    held b r (decimal_of n ++ spaced (says s) ++ (10 ∷ [])) e
    (last b m r (decimal_of n ++ spaced (says s)) 10 (then b d m (decimal_of n) (spaced (says s)) p (first d f m 32 (says s) q x)) y)
    (step_short n s)

-- a laxity behind a space: the machine's signed number is the number
pub lax : (l m r : Line) (v : List ℕ) (z : ℤ) → SFits w64 z → m ≡ puts l v → r ≡ puts m (spaced (signed_of (to_z w64 (of_z w64 z))))
    → r ≡ puts l (v ++ spaced (signed_of z))
lax l m r v z h e f = then l m r v (spaced (signed_of z)) e (rw (to_z-of_z w64 z h) at f)
