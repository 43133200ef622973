-- Document 01, "The load check", over the stages of document 02's request 4.
-- Assumes nothing.
use Rattle.std.specs.Prelude.{ℕ, ◌+◌, ◌-◌, ◌*◌, ◌/◌, ◌≤◌, ◌<◌, Bool, true, false, cond, ◌&&◌, List, ◌≡◌, leb, eqb}
use Rattle.std.specs.Int.{◌∣◌}
use Rattle.std.specs.List.{list_any}
use Rattle.laws.specs.Lists.{below, sum, top, All}
use Rattle.rules.specs.declared.Tuple.{Tuple}
use Rattle.rules.specs.declared.Tuple.TheVariants.{Once, Every}
use Rattle.rules.specs.declared.TuplePlace.{TuplePlace}
use Rattle.rules.specs.declared.Stage.{Stage}
use Rattle.rules.specs.declared.Stream.{Stream}
use Rattle.rules.specs.declared.Set.{Set}
use Rattle.rules.specs.declared.Refusal.{Refusal}
use Rattle.rules.specs.declared.Refusal.TheVariants.{OutOfRule, LongCycles}
use Rattle.std.specs.Prelude.{Result, Ok, Err}
use Rattle.rules.specs.declared.Verdict.{Verdict}
use Rattle.rules.specs.declared.Verdict.TheVariants.{Accept, Late, Overload, Refused}
use Rattle.rules.specs.Streams.{stages_of, tuples_of, streams_of, offset_at, limit, valid}
use Rattle.rules.specs.Valid.{ValidStream}

-- ---- demand

-- "Demand and long-run load use the sum of a stream's costs": c, the cost of a stream
abbrev pub stage_cost : Stage → ℕ
stage_cost g = g.cost

unfoldable pub cost_in : Stream → ℕ
cost_in s = sum stage_cost (stages_of s)

-- "the sum over streams with d not above I of c times E(I - d)": what one stream adds
unfoldable pub due : ℕ → Stream → ℕ
due i s = cond (leb s.deadline i) (cost_in s * limit s (i - s.deadline)) 0

-- a stage on the task t; "counts a stream as urgent if any of its stages is there": the task has that stream
abbrev pub on_task : ℕ → Stage → Bool
on_task t g = eqb g.task t

unfoldable pub has : ℕ → Stream → Bool
has t s = list_any (on_task t) (stages_of s)

-- "a stream with d not above I" of the task t
abbrev pub urgent : ℕ → ℕ → Stream → Bool
urgent t i s = has t s && leb s.deadline i

-- "a task's blocking uses each stage on it separately": c - 1 of a stage on the task t; the largest of a stream
abbrev pub less_one : ℕ → Stage → ℕ
less_one t g = cond (on_task t g) (g.cost - 1) 0

unfoldable pub blocks_for : ℕ → Stream → ℕ
blocks_for t s = top (less_one t) (stages_of s)

-- "c - 1 among its streams with d above I"
abbrev pub blocks : ℕ → ℕ → Stream → ℕ
blocks t i s = cond (leb s.deadline i) 0 (blocks_for t s)

-- "The blocking of a task is 0 unless it has a stream with d not above I; then it is the largest c - 1 among its streams with d above I, or 0 if there are none."
unfoldable pub blocking : List Stream → ℕ → ℕ → ℕ
blocking ss i t = cond (list_any (urgent t i) ss) (top (blocks t i) ss) 0

-- "Demand(I), for I of 0 or more, is the sum over streams .., plus the blocking of each task."
unfoldable pub demand : List Stream → ℕ → ℕ
demand ss i = sum (due i) ss + sum (blocking ss i) (below 16)

-- "Asked for an invalid set, demand .. [is] refused with 7 and give[s] 0"
unfoldable pub demand_of : Set → ℕ → Result ℕ Refusal
demand_of x i = cond (valid x) (Ok (demand (streams_of x) i)) (Err OutOfRule)

-- ---- H and long-run load

-- h is a multiple of each cycle of a tuple, a stream, a list of streams
abbrev pub CycleIn : ℕ → Tuple → Type 0
CycleIn h (Once a) = Unit {0}
CycleIn h (Every z a) = z ∣ h

abbrev pub PlaceIn : ℕ → TuplePlace → Type 0
PlaceIn h p = CycleIn h p.tuple

abbrev pub CyclesIn : ℕ → Stream → Type 0
CyclesIn h s = All (PlaceIn h) (tuples_of s)

abbrev pub Common : ℕ → List Stream → Type 0
Common h ss = All (CyclesIn h) ss

-- "H is the least common multiple of all cycles, 1 where there are none."
pub record IsH (ss : List Stream) (h : ℕ) : Type 0 where
  pub positive : 0 < h
  pub common : Common h ss
  pub least : (m : ℕ) → 0 < m → Common m ss → h ≤ m

-- "c times H / z over the cyclic tuples": what one tuple of a stream of cost c adds
abbrev pub rate_of : ℕ → Tuple → ℕ
rate_of h (Once a) = 0
rate_of h (Every z a) = h / z

abbrev pub rate : ℕ → ℕ → TuplePlace → ℕ
rate h c p = c * rate_of h p.tuple

unfoldable pub stream_load : ℕ → Stream → ℕ
stream_load h s = sum (rate h (cost_in s)) (tuples_of s)

-- "Long-run load is the sum of c times H / z over the cyclic tuples."
unfoldable pub load : List Stream → ℕ → ℕ
load ss h = sum (stream_load h) ss

-- ---- how far there is to test

abbrev pub deadline_of : Stream → ℕ
deadline_of s = s.deadline

-- the greatest deadline, and the greatest offset, of a stream and of streams; 0 where there is none
unfoldable pub greatest_deadline : List Stream → ℕ
greatest_deadline ss = top deadline_of ss

unfoldable pub stream_offset : Stream → ℕ
stream_offset s = top offset_at (tuples_of s)

unfoldable pub greatest_offset : List Stream → ℕ
greatest_offset ss = top stream_offset ss

-- the last length that has to be tested: H, the greatest deadline and the greatest offset together
unfoldable pub last_length : List Stream → ℕ → ℕ
last_length ss h = h + greatest_deadline ss + greatest_offset ss

-- testing a range of lengths, with the demand f at each: no length from a up to e, e not among them, is late
abbrev pub NoneLate : (ℕ → ℕ) → ℕ → ℕ → Type 0
NoneLate f a e = (j : ℕ) → a ≤ j → j < e → f j ≤ j

-- i is the first late one of them, and w its demand
pub record FirstLate (f : ℕ → ℕ) (a e i w : ℕ) : Type 0 where
  pub from : a ≤ i
  pub before : i < e
  pub that : w ≡ f i
  pub above : i < f i
  pub first : NoneLate f a i

-- ---- the verdict

-- "8 exactly if H is above 1,000,000"
abbrev pub longest_h : ℕ
longest_h = 1000000

-- "Verdicts, in this order: ..; 8 exactly if H is above 1,000,000; overload if long-run load is above H;
-- late, with the least I where demand(I) is above I and that demand; accept." "Accept speaks of every I, not of those tested."
pub record Accepts (ss : List Stream) (h : ℕ) : Type 0 where
  pub short : h ≤ longest_h
  pub light : load ss h ≤ h
  pub fits : (i : ℕ) → demand ss i ≤ i

pub record IsLate (ss : List Stream) (h i w : ℕ) : Type 0 where
  pub short : h ≤ longest_h
  pub light : load ss h ≤ h
  pub that : w ≡ demand ss i
  pub above : i < demand ss i
  pub least : (j : ℕ) → j < i → demand ss j ≤ j

pub record Overloads (ss : List Stream) (h : ℕ) : Type 0 where
  pub short : h ≤ longest_h
  pub heavy : h < load ss h

pub record TooLong (h : ℕ) (why : Refusal) : Type 0 where
  pub number : why ≡ LongCycles
  pub long : longest_h < h

-- the streams of a valid set that no verdict stops before any length: H is h, not long, and the load is not above it
pub record Opens (ss : List Stream) (h : ℕ) : Type 0 where
  pub streams : All ValidStream ss
  pub is_h : IsH ss h
  pub short : h ≤ longest_h
  pub light : load ss h ≤ h

-- the verdict on the streams of a valid set whose H is h
abbrev pub Judged : List Stream → ℕ → Verdict → Type 0
Judged ss h Accept = Accepts ss h
Judged ss h (Late i w) = IsLate ss h i w
Judged ss h Overload = Overloads ss h
Judged ss h (Refused why) = TooLong h why

pub record JudgedByH (ss : List Stream) (v : Verdict) : Type 0 where
  pub h : ℕ
  pub is_h : IsH ss h
  pub judged : Judged ss h v

-- "Verdicts, in this order: 7 for an invalid set; .."
abbrev pub VerdictIf : Bool → List Stream → Verdict → Type 0
VerdictIf false ss v = v ≡ Refused OutOfRule
VerdictIf true ss v = JudgedByH ss v

unfoldable pub VerdictOf : Set → Verdict → Type 0
VerdictOf x v = VerdictIf (valid x) (streams_of x) v
