-- The check in calls on the yard's examples, as one table under one statement.
-- Assumes nothing.
use Prim.Native.Nat.{ℕ}
use mathlib.Core.Path.{◌≡◌, refl}
use mathlib.Core.List.{List, [], ◌∷◌}
use Rattle.laws.specs.Lists.{All}
use Rattle.rules.specs.declared.Set.{Set}
use Rattle.std.specs.Prelude.{Result}
use Rattle.rules.specs.declared.Position.{Position}
use Rattle.rules.specs.declared.Progress.{Progress}
use Rattle.rules.specs.declared.Refusal.{Refusal}
use Rattle.rules.specs.declared.Verdict.{Verdict}
use Rattle.rules.specs.Streams.{empty_set}
use Rattle.rules.specs.Load.{greatest_deadline, stream_offset, greatest_offset, last_length}
use Rattle.rules.specs.Numbers.{Says, open_says, go_says, overload, refused, opened, tested, tested_accept, tested_late}
use Rattle.rules.specs.Resumed.{at, OpenOf, GoOf}
use Rattle.rules.proofs.Examples.{set_b, computed}
use Rattle.rules.proofs.Cycles.{h_of}
use Rattle.rules.proofs.Yard.{pair, unit_each, unit_twice, long_cycles, ◌and◌}
use Rattle.rules.proofs.Resumed.{open_of, open_right, go_from, go_of, go_right}

-- a row: what an opening says; what a call says, at a length of a set, with a number
pub data Row : Type 0 where
  opens : Set → Says → Row
  goes : Set → ℕ → ℕ → Says → Row

pub record OpensSo (x : Set) (says : Says) : Type 0 where
  pub given : Result Position Verdict
  pub is_opening : OpenOf x given
  pub in_words : open_says given ≡ says

pub record GoesSo (x : Set) (i n : ℕ) (says : Says) : Type 0 where
  pub given : Result Progress Refusal
  pub is_call : GoOf (at x i) n given
  pub in_words : go_says given ≡ says

abbrev pub True : Row → Type 0
True (opens x says) = OpensSo x says
True (goes x i n says) = GoesSo x i n says

-- one stream too many for the set's places in use
abbrev broken : Set
broken = record { count = 3; streams = (pair 0 6).streams; version = 1 }

-- W3 is late 5 7, and its last length is 40; W7 has the lengths 1 and 2; the empty set has the length 1.
-- Exactly as many as there are gives the verdict; resumed behind the least late length, a call tells the next late one, or accepts.
abbrev pub called : List Row
called =
    opens (pair 0 6) opened
    ∷ goes (pair 0 6) 1 3 (tested 3 4) ∷ goes (pair 0 6) 4 0 (tested 0 4) ∷ goes (pair 0 6) 4 1 (tested 1 5)
    ∷ goes (pair 0 6) 5 100 (tested_late 1 5 7) ∷ goes (pair 0 6) 1 100 (tested_late 5 5 7)
    ∷ goes (pair 0 6) 6 1 (tested_late 1 6 7) ∷ goes (pair 0 6) 8 100 (tested_accept 33)
    ∷ goes (pair 0 6) 7 0 (tested 0 7) ∷ goes (pair 0 6) 40 1 (tested_accept 1) ∷ goes (pair 0 6) 41 1 (refused 12) ∷ goes (pair 0 6) 46 1 (refused 12)
    ∷ goes unit_each 1 2 (tested_accept 2) ∷ goes unit_each 1 1 (tested 1 2) ∷ goes unit_each 2 1 (tested_accept 1) ∷ goes unit_each 2 100 (tested_accept 1)
    ∷ goes unit_each 3 1 (refused 12) ∷ goes unit_each 0 1 (refused 12) ∷ goes unit_each 0 0 (refused 12)
    ∷ opens unit_twice overload ∷ goes unit_twice 1 1 (refused 12) ∷ opens long_cycles (refused 8) ∷ goes long_cycles 1 0 (refused 12)
    ∷ opens broken (refused 7) ∷ goes broken 5 1 (refused 12)
    ∷ opens empty_set opened ∷ goes empty_set 1 0 (tested 0 1) ∷ goes empty_set 1 1 (tested_accept 1) ∷ goes empty_set 0 1 (refused 12)
    ∷ opens set_b opened
    ∷ []

-- a row that antt computes
abbrev Computes : Row → Type 0
Computes (opens x says) = open_says (open_of x) ≡ says
Computes (goes x i n says) = go_says (go_of (at x i) n) ≡ says

worked : (rows : List Row) → All Computes rows → All True rows
worked [] c = tt
worked (opens x says ∷ rows) c = (record { given = open_of x; is_opening = open_right x; in_words = c.0 }, worked rows c.1)
worked (goes x i n says ∷ rows) c = (record { given = go_of (at x i) n; is_call = go_right (at x i) n; in_words = c.0 }, worked rows c.1)

pub called_true : All True called
unfolding computed open_of go_of go_from h_of last_length greatest_deadline greatest_offset stream_offset
called_true =
    worked called
    (refl and refl and refl and refl and refl and refl and refl and refl and refl and refl
    and refl and refl and refl and refl and refl and refl and refl and refl and refl and refl
    and refl and refl and refl and refl and refl and refl and refl and refl and refl and refl
    and tt)
