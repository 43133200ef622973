-- Document 02, request 7: "Check while the tablet stays alive". The check of document 01 in calls.
-- Assumes nothing.
use Rattle.std.specs.Prelude.{ℕ, ◌+◌, ◌≤◌, ◌<◌, true, List, [], ◌∷◌, ◌≡◌}
use Rattle.laws.specs.Lists.{sum}
use Rattle.rules.specs.declared.Stream.{Stream}
use Rattle.rules.specs.declared.Set.{Set}
use Rattle.rules.specs.declared.Refusal.TheVariants.{IllFormed}
use Rattle.rules.specs.declared.Verdict.{Verdict}
use Rattle.rules.specs.declared.Verdict.TheVariants.{Accept, Late, Overload, Refused}
use Rattle.rules.specs.declared.Position.{Position}
use Rattle.std.specs.Prelude.{Result, Ok, Err}
use Rattle.rules.specs.declared.Progress.{Progress}
use Rattle.rules.specs.declared.Refusal.{Refusal}
use Rattle.rules.specs.declared.Progress.TheVariants.{Next, Falls}
use Rattle.rules.specs.Streams.{streams_of, valid}
use Rattle.rules.specs.Load.{demand, last_length, Opens, VerdictOf, NoneLate, FirstLate}
use Rattle.rules.specs.Valid.{Between}

-- ---- the lengths

-- "lengths are tested in order from 1 to H plus the set's greatest deadline plus its greatest offset (both 0 for the empty set)":
-- nothing stops the set before any length, and e is the last of its lengths
pub record Lengths (x : Set) (e : ℕ) : Type 0 where
  pub ok : valid x ≡ true
  pub h : ℕ
  pub opens : Opens (streams_of x) h
  pub last : e ≡ last_length (streams_of x) h

-- ---- the position

-- "The resume position holds its set and the next length"
abbrev pub at : Set → ℕ → Position
at x i = record { set = x; next = i }

-- its set has lengths, the last of them e, and its next length is one of them
pub record Resumes (p : Position) (e : ℕ) : Type 0 where
  pub lengths : Lengths p.set e
  pub named : Between 1 p.next e

-- ---- the opening

-- "7, 8 and overload are answered at the opening, before any length"
abbrev pub AtOpening : Verdict → Type 0
AtOpening Accept = ⊥
AtOpening (Late i w) = ⊥
AtOpening Overload = Unit {0}
AtOpening (Refused why) = Unit {0}

-- a set the opening stops
pub record StopsWith (x : Set) (v : Verdict) : Type 0 where
  pub verdict : VerdictOf x v
  pub opening : AtOpening v

-- the position at length 1, or the verdict, "with the verdict none is given"
abbrev pub OpenOf : Set → Result Position Verdict → Type 0
OpenOf x (Ok p) = ((e : ℕ) × Lengths x e) × (p ≡ at x 1)
OpenOf x (Err v) = StopsWith x v

-- ---- a call

-- "12, with nothing tested, for a set the opening stops or a length not among those named"
pub data Barred (p : Position) : Type 0 where
  stopped : {v : Verdict} → StopsWith p.set v → Barred p
  before : {e : ℕ} → Lengths p.set e → p.next < 1 → Barred p
  behind : {e : ℕ} → Lengths p.set e → e < p.next → Barred p

-- The call begins with the length a, its number is n, and the last length is e.
-- "each call tests exactly a given number of them"; "the count of lengths tested stands in the answer and equals the next length to test .. less the one it began with"
pub record GoesOn (x : Set) (a n e k : ℕ) (p : Position) : Type 0 where
  pub number : k ≡ n
  pub next : p ≡ at x (a + k)
  pub left : a + k ≤ e
  pub clear : NoneLate (demand (streams_of x)) a (a + k)

-- "(after a verdict, the last tested plus one)"
abbrev pub past : ℕ → Verdict → ℕ
past e Accept = e + 1
past e (Late i w) = i + 1
past e Overload = 0
past e (Refused why) = 0

-- where the verdict falls: at the first late length from a on, or behind the last length
abbrev pub FallsFrom : List Stream → ℕ → ℕ → Verdict → Type 0
FallsFrom ss a e Accept = NoneLate (demand ss) a (e + 1)
FallsFrom ss a e (Late i w) = FirstLate (demand ss) a (e + 1) i w
FallsFrom ss a e Overload = ⊥
FallsFrom ss a e (Refused why) = ⊥

-- "or fewer only where the verdict falls first"
pub record Ends (x : Set) (a n e k : ℕ) (v : Verdict) : Type 0 where
  pub number : k ≤ n
  pub count : a + k ≡ past e v
  pub falls : FallsFrom (streams_of x) a e v

-- the next position, or the verdict, with which "none is given"; 12 takes and leaves nothing
abbrev pub GoOf : Position → ℕ → Result Progress Refusal → Type 0
GoOf p n (Ok (Next k q)) = (e : ℕ) × Resumes p e × GoesOn p.set p.next n e k q
GoOf p n (Ok (Falls k v)) = (e : ℕ) × Resumes p e × Ends p.set p.next n e k v
GoOf p n (Err why) = (why ≡ IllFormed) × Barred p

-- ---- the rules of a position

-- no other number is given
abbrev pub Only12 : Result Progress Refusal → Type 0
Only12 (Ok (Next k q)) = Unit {0}
Only12 (Ok (Falls k v)) = Unit {0}
Only12 (Err why) = why ≡ IllFormed

-- every position that an opening or a call gives can be resumed
pub record PositionsKept : Type 0 where
  pub opened : (x : Set) (p : Position) → OpenOf x (Ok p) → (e : ℕ) × Resumes p e
  pub gone : (p q : Position) (n k : ℕ) → GoOf p n (Ok (Next k q)) → (e : ℕ) × Resumes q e

-- 12 is given exactly when a position cannot be resumed
pub record TwelveExactly (p : Position) (n : ℕ) (r : Result Progress Refusal) : Type 0 where
  pub given : r ≡ Err IllFormed → (e : ℕ) → Resumes p e → ⊥
  pub broken : ((e : ℕ) → Resumes p e → ⊥) → r ≡ Err IllFormed
  pub alone : Only12 r

-- ---- the work divided among calls

-- a check of the set x has come to the position p: none of the lengths before it is late
pub record Underway (x : Set) (p : Position) : Type 0 where
  pub same : p.set ≡ x
  pub last : ℕ
  pub resumes : Resumes p last
  pub clear : NoneLate (demand (streams_of x)) 1 p.next

-- where calls have come to: a position, or the verdict
pub data Stand : Type 0 where
  next : Position → Stand
  fallen : Verdict → Stand

-- calls with the numbers of a list, one after the other from a position, each from the position that the one before it gave, and none behind the verdict:
-- the lengths that they tested together, and where they have come to
pub data Calls : Position → List ℕ → ℕ → Stand → Type 0 where
  none : {p : Position} → Calls p [] 0 (next p)
  goes : {p q : Position} {n k t : ℕ} {ns : List ℕ} {s : Stand} → GoOf p n (Ok (Next k q)) → Calls q ns t s → Calls p (n ∷ ns) (k + t) s
  falls : {p : Position} {n k : ℕ} {ns : List ℕ} {v : Verdict} → GoOf p n (Ok (Falls k v)) → Calls p (n ∷ ns) k (fallen v)

-- the numbers of the calls together
abbrev pub itself : ℕ → ℕ
itself n = n

abbrev pub together : List ℕ → ℕ
together ns = sum itself ns

-- "However the work from an opening is divided among calls, the final verdict is that of document 01"; the counts add up to the lengths from 1 through the last tested
abbrev pub AnyDivision : Type 0
AnyDivision =
    (x : Set) (e : ℕ) → Lengths x e → (ns : List ℕ) (t : ℕ) (v : Verdict) → Calls (at x 1) ns t (fallen v)
    → VerdictOf x v × (1 + t ≡ past e v)

-- without a verdict, exactly the numbers of the calls were tested, none of these lengths is late, and the next one is the one behind them
abbrev pub NoVerdictYet : Type 0
NoVerdictYet =
    (x : Set) (e : ℕ) → Lengths x e → (ns : List ℕ) (t : ℕ) (p : Position) → Calls (at x 1) ns t (next p)
    → (t ≡ together ns) × (p ≡ at x (1 + t)) × (1 + t ≤ e) × NoneLate (demand (streams_of x)) 1 (1 + t)

-- calls that together have a number for each length come to a verdict
abbrev pub LongEnough : Type 0
LongEnough =
    (x : Set) (e : ℕ) → Lengths x e → (ns : List ℕ) → e ≤ together ns → (t : ℕ) × (v : Verdict) × Calls (at x 1) ns t (fallen v)

-- document 01's verdict is one such way: one call with a number for each length
abbrev pub OneCall : Type 0
OneCall =
    (x : Set) (e n k : ℕ) (v : Verdict) → Lengths x e → VerdictOf x v → e ≤ n → 1 + k ≡ past e v → GoOf (at x 1) n (Ok (Falls k v))
