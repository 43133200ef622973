-- What joining cycles gives, and H as an answer.
-- Assumes nothing.
use Rattle.std.specs.Prelude.{ℕ, ◌≤◌, ◌<◌, Bool, true, false, List, ◌≡◌}
use Rattle.std.specs.Int.{◌∣◌}
use Rattle.laws.specs.Multiples.{LeastWith}
use Rattle.rules.specs.declared.Tuple.{Tuple}
use Rattle.rules.specs.declared.Stream.{Stream}
use Rattle.rules.specs.declared.Set.{Set}
use Rattle.rules.specs.declared.Refusal.{Refusal}
use Rattle.rules.specs.declared.Refusal.TheVariants.{OutOfRule, LongCycles}
use Rattle.std.specs.Prelude.{Option, Some, None, Result, Ok, Err}
use Rattle.rules.specs.Streams.{streams_of, valid}
use Rattle.rules.specs.Load.{CycleIn, CyclesIn, Common, IsH}

-- m is a multiple of the cycles of a tuple, a stream, a list of streams
abbrev pub CycleOf : Tuple → ℕ → Type 0
CycleOf t m = CycleIn m t

abbrev pub CyclesOf : Stream → ℕ → Type 0
CyclesOf s m = CyclesIn m s

abbrev pub CommonOf : List Stream → ℕ → Type 0
CommonOf ss m = Common m ss

-- the least common multiple of h and of what P asks, or that every one is above 1,000,000
abbrev pub JoinedBy : ℕ → (ℕ → Type 0) → Option ℕ → Type 0
JoinedBy h P (Some r) = LeastWith h P r × (r ≤ 1000000)
JoinedBy h P None = (m : ℕ) → 0 < m → h ∣ m → P m → 1000000 < m

-- H as an answer: "8 exactly if H is above 1,000,000", 7 for an invalid set
pub record ShortH (ss : List Stream) (h : ℕ) : Type 0 where
  pub is_h : IsH ss h
  pub short : h ≤ 1000000

pub record LongH (ss : List Stream) (why : Refusal) : Type 0 where
  pub number : why ≡ LongCycles
  pub h : ℕ
  pub is_h : IsH ss h
  pub long : 1000000 < h

abbrev pub HBy : List Stream → Result ℕ Refusal → Type 0
HBy ss (Ok h) = ShortH ss h
HBy ss (Err why) = LongH ss why

abbrev pub HIf : Bool → List Stream → Result ℕ Refusal → Type 0
HIf false ss a = a ≡ Err OutOfRule
HIf true ss a = HBy ss a

unfoldable pub HOf : Set → Result ℕ Refusal → Type 0
HOf x a = HIf (valid x) (streams_of x) a
