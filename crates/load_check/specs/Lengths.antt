-- What testing a range of lengths shows.
-- Assumes nothing.
use Rattle.std.specs.Prelude.{ℕ, ◌+◌, Bool, true, false, Option, Some, None, Result, Ok, Err, List, ◌≡◌}
use Rattle.rules.specs.declared.Stream.{Stream}
use Rattle.rules.specs.declared.Set.{Set}
use Rattle.rules.specs.declared.Refusal.{Refusal}
use Rattle.rules.specs.declared.Refusal.TheVariants.{OutOfRule}
use Rattle.rules.specs.Streams.{streams_of, valid}
use Rattle.rules.specs.Load.{demand, NoneLate, FirstLate}
use Rattle.load_check.specs.declared.Row.{Row}
use Rattle.load_check.specs.Dues.{dues}

-- a range of lengths, with the demand f at each: nothing, or the first late length and its demand
abbrev pub TestedBy : (ℕ → ℕ) → ℕ → ℕ → Option (ℕ × ℕ) → Type 0
TestedBy f a e None = NoneLate f a e
TestedBy f a e (Some (i, w)) = FirstLate f a e i w

-- rows with one blocking for all the lengths
abbrev pub rows_with : List Row → ℕ → ℕ → ℕ
rows_with rs b i = dues rs i + b

abbrev pub Spanned : List Row → ℕ → ℕ → ℕ → Option (ℕ × ℕ) → Type 0
Spanned rs b a e r = TestedBy (rows_with rs b) a e r

abbrev pub Ranged : List Stream → ℕ → ℕ → Option (ℕ × ℕ) → Type 0
Ranged ss a e r = TestedBy (demand ss) a e r

-- what is found of a set's lengths from a up to e, e not among them; 7 for an invalid set
abbrev pub FoundIf : Bool → List Stream → ℕ → ℕ → Result (Option (ℕ × ℕ)) Refusal → Type 0
FoundIf false ss a e r = r ≡ Err OutOfRule
FoundIf true ss a e (Ok r) = Ranged ss a e r
FoundIf true ss a e (Err why) = ⊥

unfoldable pub FoundOf : Set → ℕ → ℕ → Result (Option (ℕ × ℕ)) Refusal → Type 0
FoundOf x a e r = FoundIf (valid x) (streams_of x) a e r
