-- Document 01's yard examples W1 to W12, as one table under one statement; and a second table, of what the W examples leave open.
-- Assumes nothing.
use Prim.Native.Nat.{ℕ, zero, suc, ◌+◌}
use native.Mathlib.Omega.{arith}
use native.Mathlib.Nat.{dvd_refl}
use native.Mathlib.Numerals.{add-one}
use mathlib.Core.Path.{◌≡◌, refl, ap, sym, ◌∙◌}
use mathlib.Core.List.{List, [], ◌∷◌}
use Rattle.laws.specs.Lists.{All}
use Rattle.rules.specs.declared.Tuple.TheVariants.{Once, Every}
use Rattle.rules.specs.declared.Stream.{Stream}
use Rattle.rules.specs.declared.Set.{Set}
use Rattle.std.specs.Prelude.{Ok}
use Rattle.rules.specs.declared.ReadResult.{ReadResult}
use Rattle.rules.specs.declared.Verdict.{Verdict}
use Rattle.rules.specs.Streams.{no_tuple, no_stage, empty_set, streams_of, jitter_of}
use Rattle.rules.specs.Load.{demand, demand_of, greatest_deadline, stream_offset, greatest_offset, last_length, VerdictOf}
use Rattle.rules.specs.Sheet.{set_of, sheet_of, read_of}
use Rattle.rules.specs.Numbers.{Says, count_says, gives, verdict_says, read_says, jitter_says, accept, late, overload, refused, tuples}
use Rattle.rules.proofs.Examples.{stage, stream, each, set_b, computed}
use Rattle.rules.proofs.Valid.{valid_set}
use Rattle.rules.proofs.Finite.{demand_more}
use Rattle.rules.proofs.Cycles.{h_of}
use Rattle.rules.proofs.Judge.{judge_from, judge_by, judge, judge_right}

-- ---- the sets

-- a stream of one cycle from 0: task, cost, deadline, cycle
abbrev cyclic : ℕ → ℕ → ℕ → ℕ → Stream
cyclic k c d z = stream k c d (each z)

-- W3 to W6: (c 2, d 5, every 10) on task 0, and (c, d 20, every 20) on a task
abbrev pub pair : ℕ → ℕ → Set
pair k c = set_of 1 (cyclic 0 2 5 10 ∷ cyclic k c 20 20 ∷ [])

abbrev pub unit_each : Set
unit_each = set_of 1 (cyclic 0 1 1 1 ∷ [])

abbrev pub unit_twice : Set
unit_twice = set_of 1 (cyclic 0 1 1 1 ∷ cyclic 1 1 1 1 ∷ [])

abbrev once_twice : Set
once_twice = set_of 1 (stream 0 3 3 (Once 0) ∷ stream 1 3 3 (Once 0) ∷ [])

abbrev pub long_cycles : Set
long_cycles = set_of 1 (cyclic 0 1 1 999999 ∷ cyclic 1 1 1 1000000 ∷ [])

abbrev task_three : Set
task_three = set_of 1 (cyclic 3 2 5 10 ∷ [])

-- ---- the table

-- a row: the demand of a set at a length, and at every length; its verdict; its sheet; bytes that are no sheet
pub data Row : Type 0 where
  demands : Set → ℕ → ℕ → Row
  demands_each : Set → (ℕ → ℕ) → Row
  judged : Set → Says → Row
  sheet : Set → List ℕ → Row
  no_sheet : List ℕ → ℕ → Row
  jittered : ℕ → ℕ → Says → Row

-- a verdict on the set says what the row says
pub record Judges (x : Set) (says : Says) : Type 0 where
  pub given : Verdict
  pub is_verdict : VerdictOf x given
  pub in_words : verdict_says given ≡ says

-- what was read, and the answer
abbrev reads : Set → ReadResult
reads x = record { answer = Ok tt; set = x }

-- the set is written as the bytes, and the bytes are read as the set
pub record Sheets (x : Set) (found : List ℕ) : Type 0 where
  pub written : sheet_of x ≡ found
  pub back : read_of found ≡ reads x

abbrev pub True : Row → Type 0
True (demands x i w) = count_says (demand_of x i) ≡ gives w
True (demands_each x f) = (i : ℕ) → count_says (demand_of x i) ≡ gives (f i)
True (judged x says) = Judges x says
True (sheet x found) = Sheets x found
True (no_sheet found n) = read_says (read_of found).answer ≡ refused n
True (jittered z j says) = jitter_says (jitter_of z j) ≡ says

abbrev same : ℕ → ℕ
same i = i

-- "W1 Set B: demand(5) is 5. W2: its demand(8) is 7." .. "W12 .. `10 98 00 10 00 0A 00 00 50 00 00`"
abbrev pub yard : List Row
yard =
    demands set_b 5 5
    ∷ demands set_b 8 7
    ∷ judged set_b accept
    ∷ demands (pair 0 6) 5 7 ∷ demands (pair 0 6) 4 0 ∷ judged (pair 0 6) (late 5 7)
    ∷ demands (pair 1 6) 20 10 ∷ judged (pair 1 6) accept
    ∷ demands (pair 0 4) 5 5 ∷ judged (pair 0 4) accept
    ∷ judged (pair 0 5) (late 5 6)
    ∷ demands_each unit_each same ∷ judged unit_each accept
    ∷ judged unit_twice overload
    ∷ judged once_twice (late 3 6)
    ∷ judged long_cycles (refused 8)
    ∷ sheet empty_set (0x10 ∷ 0x00 ∷ []) ∷ judged empty_set accept
    ∷ sheet task_three (0x10 ∷ 0x98 ∷ 0x00 ∷ 0x10 ∷ 0x00 ∷ 0x0A ∷ 0x00 ∷ 0x00 ∷ 0x50 ∷ 0x00 ∷ 0x00 ∷ [])
    ∷ []

-- "Testing up to the longest deadline and calling that all lengths": 5 is the longest deadline, and 6 is late
abbrev late_after : Set
late_after =
    set_of 1
    (record {
      depth = 1;
      stages = stage 0 4 ∷ no_stage ∷ no_stage ∷ no_stage ∷ [];
      deadline = 5;
      count = 3;
      tuples = record { tuple = Once 0 } ∷ record { tuple = Once 1 } ∷ record { tuple = Once 1 } ∷ no_tuple ∷ [];
    }
    ∷ [])

-- the fifth of the "Ways a cab has gone wrong", and "no bytes (5); `10` (5); .. `10 01` (10); `10 00 00` (10)"; `20 00` is no longer 6, `30 00` is
abbrev pub faults : List Row
faults =
    demands late_after 5 4 ∷ judged late_after (late 6 12)
    ∷ no_sheet [] 5 ∷ no_sheet (0x10 ∷ []) 5 ∷ no_sheet (0x30 ∷ 0x00 ∷ []) 6 ∷ no_sheet (0x10 ∷ 0x01 ∷ []) 10 ∷ no_sheet (0x10 ∷ 0x00 ∷ 0x00 ∷ []) 10
    ∷ []

-- a cycle with jitter both ways: once at 0, and every z from the offset
abbrev both_ways : ℕ → ℕ → Says
both_ways z a = tuples (Once 0) (Every z a)

-- request 2: "z - 2j"; 7 "when 2j is above z or z - 2j is above 100,000, and for z as before"
abbrev pub jitters : List Row
jitters =
    jittered 20 2 (both_ways 20 16) ∷ jittered 20 10 (both_ways 20 0) ∷ jittered 20 11 (refused 7) ∷ jittered 21 10 (both_ways 21 1)
    ∷ jittered 1000000 450000 (both_ways 1000000 100000) ∷ jittered 1000000 449999 (refused 7) ∷ jittered 1000000 4294967295 (refused 7)
    ∷ jittered 0 0 (refused 7) ∷ jittered 1000001 450001 (refused 7)
    ∷ []

-- ---- the tables are true

-- one row more
infixr 20 ◌and◌
abbrev pub ◌and◌ : {P Q : Type 0} → P → Q → P × Q
p and q = (p, q)

-- a verdict that antt computes
pub worked : (x : Set) (says : Says) → verdict_says (judge x) ≡ says → Judges x says
worked x says e = record { given = judge x; is_verdict = judge_right x; in_words = e }

-- W7: from 1 on, each unit of length adds the load of one unit
w7_demand : (i : ℕ) → demand (streams_of unit_each) i ≡ i
unfolding computed greatest_deadline greatest_offset stream_offset
w7_demand zero = refl
w7_demand (suc zero) = refl
w7_demand (suc (suc n)) =
    ap (demand (streams_of unit_each)) (sym (add-one (suc n)))
    ∙ demand_more (streams_of unit_each) 1 (suc n) (valid_set unit_each refl).streams ((dvd_refl 1, tt), tt) (omega arith)
    ∙ ap (λ (k : ℕ). k + 1) (w7_demand (suc n)) ∙ add-one (suc n)

w7 : (i : ℕ) → count_says (demand_of unit_each i) ≡ gives i
unfolding computed
w7 i = ap gives (w7_demand i)

pub yard_true : All True yard
unfolding computed judge judge_by judge_from h_of last_length greatest_deadline greatest_offset stream_offset
yard_true =
    refl and refl and worked set_b accept refl
    and refl and refl and worked (pair 0 6) (late 5 7) refl
    and refl and worked (pair 1 6) accept refl
    and refl and worked (pair 0 4) accept refl
    and worked (pair 0 5) (late 5 6) refl
    and w7 and worked unit_each accept refl
    and worked unit_twice overload refl
    and worked once_twice (late 3 6) refl
    and worked long_cycles (refused 8) refl
    and record { written = refl; back = refl } and worked empty_set accept refl
    and record { written = refl; back = refl }
    and tt

pub faults_true : All True faults
unfolding computed judge judge_by judge_from h_of last_length greatest_deadline greatest_offset stream_offset
faults_true = refl and worked late_after (late 6 12) refl and refl and refl and refl and refl and refl and tt

pub jitters_true : All True jitters
unfolding computed
jitters_true = refl and refl and refl and refl and refl and refl and refl and refl and refl and tt
