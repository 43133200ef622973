-- How a check begins.
-- Assumes nothing.
use Rattle.std.specs.Prelude.{ℕ, ◌+◌, ◌≡◌, Result, Ok, Err}
use Rattle.rules.specs.declared.Set.{Set}
use Rattle.rules.specs.declared.Verdict.{Verdict}
use Rattle.rules.specs.Resumed.{Lengths, StopsWith}

-- the lengths to test are those from 1 up to e, e not among them
pub record UpTo (x : Set) (e : ℕ) : Type 0 where
  pub last : ℕ
  pub lengths : Lengths x last
  pub end : e ≡ last + 1

abbrev pub OpeningOf : Set → Result ℕ Verdict → Type 0
OpeningOf x (Err v) = StopsWith x v
OpeningOf x (Ok e) = UpTo x e
