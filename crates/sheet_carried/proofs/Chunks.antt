-- Many bits at once: a part of a field, the rest of one, and bits behind a refusal.
-- Assumes nothing.
use Prim.Native.Nat.{ℕ, zero, suc, ◌+◌, ◌*◌, ◌<◌, ◌-◌}
use mathlib.Core.List.{List, [], ◌∷◌, ◌++◌}
use mathlib.Core.Path.{◌≡◌, refl, ap, ◌∙◌}
use native.Mathlib.Omega.{arith}
use lib.ListN.{length}
use Rattle.laws.specs.Bits.{onto}
use Rattle.rules.specs.declared.Stage.{Stage}
use Rattle.rules.specs.declared.TuplePlace.{TuplePlace}
use Rattle.rules.specs.declared.Set.{Set}
use Rattle.sheet_carried.specs.declared.Carried.{Carried}
use Rattle.sheet_carried.specs.Reader.{next_of, reading, run, step_of}

pub run_append : (c : Carried) (xs ys : List ℕ) → run c (xs ++ ys) ≡ run (run c xs) ys
unfolding run
run_append c [] ys = refl
run_append c (x ∷ xs) ys = run_append (step_of c x) xs ys

module _ (f n : ℕ) (vs : List ℕ) (gs : List Stage) (ts : List TuplePlace) (x : Set) where
  pub run_stopped : (a : ℕ) (bs : List ℕ) → run (reading f n vs gs ts x a 0) bs ≡ reading f n vs gs ts x a 0
  unfolding run step_of
  run_stopped a [] = refl
  run_stopped a (b ∷ bs) = run_stopped a bs

  -- fewer bits than the field has
  pub run_part : (a l : ℕ) (bs : List ℕ) → length bs < l → run (reading f n vs gs ts x a l) bs ≡ reading f n vs gs ts x (onto a bs) (l - length bs)
  unfolding run step_of onto
  run_part a l [] h = ap (reading f n vs gs ts x a) (let e : l ≡ l - 0 = omega arith in e)
  run_part a zero (b ∷ bs) h = absurd (omega arith)
  run_part a (suc zero) (b ∷ bs) h = absurd (omega arith)
  run_part a (suc (suc l)) (b ∷ bs) h = run_part (a * 2 + b) (suc l) bs (omega arith) ∙ ap (reading f n vs gs ts x (onto (a * 2 + b) bs)) (omega arith)

  -- as many as the field has
  pub run_whole : (a l : ℕ) (bs rest : List ℕ) → length bs ≡ l → 0 < l → run (reading f n vs gs ts x a l) (bs ++ rest) ≡ run (next_of f n vs gs ts x (onto a bs)) rest
  unfolding run step_of onto
  run_whole a l [] rest e h = absurd (omega arith)
  run_whole a zero (b ∷ bs) rest e h = absurd (omega arith)
  run_whole a (suc zero) (b ∷ []) rest e h = refl
  run_whole a (suc zero) (b ∷ c ∷ bs) rest e h = absurd (omega arith)
  run_whole a (suc (suc l)) (b ∷ bs) rest e h = run_whole (a * 2 + b) (suc l) bs rest (omega arith) (omega arith)
