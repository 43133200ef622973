-- A stream's line, put together part by part.
-- Assumes nothing.
use Rattle.std.proofs.Common.{ℕ, ◌≡◌, List, [], ◌∷◌, ◌∙◌, refl}
use Rattle.std.specs.List.{fold}
use Rattle.laws.specs.Lists.{flat}
use Rattle.line.specs.declared.Line.{Line}
use Rattle.line.specs.Line.{puts}
use Rattle.line.proofs.Puts.{puts_append}

-- the texts of the elements, put one behind the other
module _ {A : Type 0} (text : A → List ℕ) where
  pub folded : (l : Line) (xs : List A) → fold (λ a x. puts a (text x)) l xs ≡ puts l (flat text xs)
  unfolding flat puts
  folded l [] = refl
  folded l (x ∷ xs) = folded (puts l (text x)) xs ∙ puts_append l (text x) (flat text xs)
