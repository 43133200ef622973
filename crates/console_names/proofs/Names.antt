-- A word among the names of the program's table.
-- Assumes nothing.
use Rattle.std.proofs.Common.{◌≡◌, ℕ, Bool, true, false, cond, List, [], ◌∷◌, refl, Option, Some, None}
use Rattle.std.specs.Prelude.{map}
use Rattle.std.specs.List.{find}
use Rattle.std.specs.Option.{option_map, unwrap_or}
use Rattle.ascii.specs.Same.{same}
use Rattle.console_names.specs.declared.Command.TheVariants.{Unknown}
use Rattle.console_names.specs.declared.Row.{Row}
use Rattle.console_names.specs.Rows.{Entry, wanted, row_in, named, found_in, asks_with, among, rows, row_of}

module _ (w : List ℕ) where
  found_among : (xs : List Entry) → option_map wanted (option_map row_in (find (λ x. same w x.0.now) xs)) ≡ among w (map named xs)
  found_among [] = refl
  found_among (x ∷ xs) = go (same w x.0.now) (found_among xs)
    where
      go : (t : Bool) → option_map wanted (option_map row_in (find (λ y. same w y.0.now) xs)) ≡ among w (map named xs)
          → option_map wanted (option_map row_in (cond t (Some x) (find (λ y. same w y.0.now) xs))) ≡ cond t (Some (wanted (row_in x))) (among w (map named xs))
      go true e = refl
      go false e = e

  unwrapped : (o : Option Row) (d : Row) → wanted (unwrap_or o d) ≡ unwrap_or (option_map wanted o) (wanted d)
  unwrapped None d = refl
  unwrapped (Some r) d = refl

  pub found_is : (xs : List Entry) (r : Option Row) → r ≡ found_in w xs → option_map wanted r ≡ among w (map named xs)
  unfolding found_in
  found_is xs r e = rw e (found_among xs)

  pub row_is : (o : Option Row) (r d : Row) → wanted d ≡ asks_with None Unknown [] → option_map wanted o ≡ among w rows → r ≡ unwrap_or o d → wanted r ≡ row_of w
  unfolding row_of
  row_is o r d g f e = rw (e, unwrapped o d, f, g)
