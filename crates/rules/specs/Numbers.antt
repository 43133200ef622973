-- Document 01, "Numbers the cab prints": the paper's number and values of each case of each answer.
-- Assumes nothing.
use Rattle.std.specs.Prelude.{ℕ, ℤ}
use Rattle.rules.specs.declared.Tuple.{Tuple}
use Rattle.rules.specs.declared.Refusal.{Refusal}
use Rattle.rules.specs.declared.Position.{Position}
use Rattle.rules.specs.declared.Refusal.TheVariants.{NoStream, Full, LastClock, NothingPending, BitsMissing, BadVersion, OutOfRule, LongCycles, BadByte, Leftover, ShortBuffer, IllFormed, StopsEarly, Trailing, Early, Crowded}
use Rattle.std.specs.Prelude.{Result, Ok, Err, Option, Some, None}
use Rattle.rules.specs.declared.Posted.{Posted}
use Rattle.rules.specs.declared.Running.{Running}
use Rattle.rules.specs.declared.Outcome.{Outcome}
use Rattle.rules.specs.declared.Progress.{Progress}
use Rattle.rules.specs.declared.Outcome.TheVariants.{Ran, Passed, Finished, Cut, Idle}
use Rattle.rules.specs.declared.CallAnswer.{CallAnswer}
use Rattle.rules.specs.declared.CallAnswer.TheVariants.{ToPost, ToUnit}
use Rattle.rules.specs.declared.Verdict.{Verdict}
use Rattle.rules.specs.declared.Verdict.TheVariants.{Accept, Late, Overload, Refused as VerdictRefused}
use Rattle.rules.specs.declared.Progress.TheVariants.{Next, Falls}

-- "No | Given exactly when"; document 02, request 1: 13 and 14; request 6: 15; request 8: 16
abbrev pub number : Refusal → ℕ
number NoStream = 1
number Full = 2
number LastClock = 3
number NothingPending = 4
number BitsMissing = 5
number BadVersion = 6
number OutOfRule = 7
number LongCycles = 8
number BadByte = 9
number Leftover = 10
number ShortBuffer = 11
number IllFormed = 12
number StopsEarly = 13
number Trailing = 14
number Early = 15
number Crowded = 16

-- what an answer says: the paper's word with its values, or a refusal's number; `refused_with_0` where 0 is given with it
pub data Says : Type 0 where
  refused : (no : ℕ) → Says
  refused_with_0 : (no : ℕ) → Says
  started : Says
  posted : (stream deadline : ℕ) → Says
  none : Says
  runs : (task stream : ℕ) → Says
  ran : (task stream : ℕ) → Says
  passed : (task stream : ℕ) → Says
  done : (task stream : ℕ) (laxity : ℤ) → Says
  cut : (task stream : ℕ) (laxity : ℤ) → Says
  idle : Says
  gives : ℕ → Says
  tuples : Tuple → Tuple → Says
  accept : Says
  late : (length demand : ℕ) → Says
  overload : Says
  read : Says
  fed : Says
  wrote : (bytes : ℕ) → Says
  ended : Says
  recorded : (bytes : ℕ) → Says
  opened : Says
  tested : (lengths next : ℕ) → Says
  tested_accept : (lengths : ℕ) → Says
  tested_late : (lengths length demand : ℕ) → Says

abbrev pub start_says : Result (Unit {0}) Refusal → Says
start_says (Ok tt) = started
start_says (Err why) = refused (number why)

-- "posted stream deadline"
abbrev pub post_says : Result Posted Refusal → Says
post_says (Ok p) = posted p.stream p.deadline
post_says (Err why) = refused (number why)

abbrev pub choose_says : Result (Option Running) Refusal → Says
choose_says (Ok None) = none
choose_says (Ok (Some r)) = runs r.task r.stream
choose_says (Err why) = refused (number why)

-- "ran task stream; done or cut task stream laxity; idle; refused N"; request 4: "passed with task and stream"
abbrev pub unit_says : Result Outcome Refusal → Says
unit_says (Ok (Ran t k)) = ran t k
unit_says (Ok (Passed t k)) = passed t k
unit_says (Ok (Finished t k l)) = done t k l
unit_says (Ok (Cut t k l)) = cut t k l
unit_says (Ok Idle) = idle
unit_says (Err why) = refused (number why)

abbrev pub call_says : CallAnswer → Says
call_says (ToPost a) = post_says a
call_says (ToUnit a) = unit_says a

-- "refused with 7 and give 0"
abbrev pub count_says : Result ℕ Refusal → Says
count_says (Ok n) = gives n
count_says (Err why) = refused_with_0 (number why)

abbrev pub jitter_says : Result (Tuple × Tuple) Refusal → Says
jitter_says (Ok (a, b)) = tuples a b
jitter_says (Err why) = refused (number why)

-- "the verdict (accept, late I demand, overload, refused N)"
abbrev pub verdict_says : Verdict → Says
verdict_says Accept = accept
verdict_says (Late i w) = late i w
verdict_says Overload = overload
verdict_says (VerdictRefused why) = refused (number why)

abbrev pub read_says : Result (Unit {0}) Refusal → Says
read_says (Ok tt) = read
read_says (Err why) = refused (number why)

-- request 5: feeding a piece says nothing but that, or 12
abbrev pub feed_says : Result (Unit {0}) Refusal → Says
feed_says (Ok tt) = fed
feed_says (Err why) = refused (number why)

abbrev pub write_says : Result ℕ Refusal → Says
write_says (Ok n) = wrote n
write_says (Err why) = refused (number why)

-- "gives, for each [call], the answer the cab gave"; end; 12, 13, 14
abbrev pub replay_says : Result (Option CallAnswer) Refusal → Says
replay_says (Ok (Some a)) = call_says a
replay_says (Ok None) = ended
replay_says (Err why) = refused (number why)

abbrev pub record_says : Result ℕ Refusal → Says
record_says (Ok n) = recorded n
record_says (Err why) = refused (number why)

-- "7, 8 and overload are answered at the opening"
abbrev pub open_says : Result Position Verdict → Says
open_says (Ok p) = opened
open_says (Err v) = verdict_says v

-- "the count of lengths tested stands in the answer", with the verdict; overload and a refusal never fall behind a length
abbrev pub fall_says : ℕ → Verdict → Says
fall_says k Accept = tested_accept k
fall_says k (Late i w) = tested_late k i w
fall_says k Overload = overload
fall_says k (VerdictRefused why) = refused (number why)

-- with the next length, which the position has, or with the verdict; 12
abbrev pub go_says : Result Progress Refusal → Says
go_says (Ok (Next k p)) = tested k p.next
go_says (Ok (Falls k v)) = fall_says k v
go_says (Err why) = refused (number why)
