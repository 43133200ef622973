-- A stream as a line of text: `task 0 cost 2 deadline 5 once@0 every 20@16`, which may also be written `task 0 cost 2 deadline 5 jitter 20 2`;
-- in a text of version 2 with a task and a cost for each stage: `task 1 cost 2 task 4 cost 3 deadline 40 every 50@0`.
-- Assumes nothing.
use Rattle.std.specs.Prelude.{ℕ, zero, suc, ◌+◌, Bool, cond, ◌&&◌, List, [], ◌∷◌, ◌++◌, length, set, take, drop, leb, ltb, eqb}
use Rattle.laws.specs.Lists.{within, flat}
use Rattle.rules.specs.declared.Tuple.{Tuple}
use Rattle.rules.specs.declared.Tuple.TheVariants.{Once, Every}
use Rattle.rules.specs.declared.TuplePlace.{TuplePlace}
use Rattle.rules.specs.declared.Stage.{Stage}
use Rattle.rules.specs.declared.Stream.{Stream as StreamT}
use Rattle.std.specs.Prelude.{Result, Ok, Err, Option, Some, None}
use Rattle.rules.specs.declared.Refusal.{Refusal}
use Rattle.rules.specs.Streams.{no_stream, offset, stages_of, tuples_of, jitter_of}
use Rattle.ascii.specs.Decimal.{letters, decimal_of, read_on, is_digit}
use Rattle.ascii.specs.Same.{same}
use Rattle.text_tidy.specs.declared.Row.{Row}
use Rattle.text_line.specs.declared.Fault.{Fault}
use Rattle.text_line.specs.declared.Fault.TheVariants.{NotTask, Task, NotCost, Cost, TwoStages, FiveStages, NotDeadline, Deadline, NotTuple, Cycle, Offset, FiveTuples, NotJitter, Jitter, LongLine}
use Rattle.text_line.specs.declared.NumberFault.{NumberFault}
use Rattle.text_line.specs.declared.NumberFault.TheVariants.{Missing, Outside}
use Rattle.text_line.specs.declared.Said.{Said}
use Rattle.text_line.specs.declared.Said.TheVariants.{Stream, Version}

-- ---- the line of a stream

-- "a stream's line has a `task T cost C` for each stage, in order"; a space stands behind each
abbrev pub stage_text : Stage → List ℕ
stage_text g = letters "task " ++ decimal_of g.task ++ (letters " cost " ++ decimal_of g.cost) ++ letters " "

abbrev pub tuple_text : Tuple → List ℕ
tuple_text (Once a) = letters " once@" ++ decimal_of a
tuple_text (Every z a) = letters " every " ++ decimal_of z ++ letters "@" ++ decimal_of a

abbrev pub place_text : TuplePlace → List ℕ
place_text p = tuple_text p.tuple

-- the stages, and what stands behind them: the deadline and the event limit
unfoldable pub stages_text : StreamT → List ℕ
stages_text s = flat stage_text (stages_of s)

unfoldable pub limit_text : StreamT → List ℕ
limit_text s = letters "deadline " ++ decimal_of s.deadline ++ flat place_text (tuples_of s)

abbrev pub stream_text : StreamT → List ℕ
stream_text s = stages_text s ++ limit_text s

-- ---- reading a line: l is the line, `at` the place where reading goes on

-- the bytes at the front that pass a test; the digits there
unfoldable pub lead : (ℕ → Bool) → List ℕ → List ℕ
lead p [] = []
lead p (b ∷ l) = cond (p b) (b ∷ lead p l) []

abbrev pub digits : List ℕ → List ℕ
digits l = lead is_digit l

-- the bytes of w stand there
unfoldable pub starts_at : List ℕ → List ℕ → ℕ → Bool
starts_at w l at = leb (at + length w) (length l) && same (take (length w) (drop at l)) w

-- a number whose digits stand from `at` to `end` and say n
unfoldable pub ended_at : ℕ → ℕ → ℕ → ℕ → ℕ → Result (ℕ × ℕ) NumberFault
ended_at low high at end n = cond (eqb end at) (Err Missing) (cond (within low n high) (Ok (n, end)) (Err Outside))

-- a number from low to high: as many digits as stand there, and at least one
unfoldable pub number_at : ℕ → ℕ → List ℕ → ℕ → Result (ℕ × ℕ) NumberFault
number_at low high l at = ended_at low high at (at + length (digits (drop at l))) (read_on 0 (digits (drop at l)))

-- the word w, and a number from low to high behind it
unfoldable pub field_at : List ℕ → ℕ → ℕ → List ℕ → ℕ → Result (ℕ × ℕ) NumberFault
field_at w low high l at = cond (starts_at w l at) (number_at low high l (at + length w)) (Err Missing)

-- what a field leads to: on with its number, or what to answer
module _ {A : Type 0} where
  unfoldable pub by_field : Result (ℕ × ℕ) NumberFault → A → A → (ℕ → ℕ → A) → A
  by_field (Ok (n, end)) missing outside next = next n end
  by_field (Err Missing) missing outside next = missing
  by_field (Err Outside) missing outside next = outside

-- a field that a line needs: its number and where it ends, or what is wrong with the line
unfoldable pub needed : Result (ℕ × ℕ) NumberFault → Fault → Fault → Result (ℕ × ℕ) Fault
needed r missing outside = by_field r (Err missing) (Err outside) (λ n end. Ok (n, end))

-- what is found leads on, a fault is the answer
module _ {A B E : Type 0} where
  unfoldable pub leads : Result A E → (A → Result B E) → Result B E
  leads (Ok x) next = next x
  leads (Err why) next = Err why

-- a tuple, its offset from low to high, and where it ends: `every Z@A` from the @ on, the whole of it, and either kind
unfoldable pub offset_at : ℕ → ℕ → ℕ → List ℕ → ℕ → Result (Tuple × ℕ) Fault
offset_at z low high l at =
    leads (needed (field_at (letters "@") low high l at) NotTuple Offset) (λ (a, end). Ok (Every z a, end))

unfoldable pub every_at : ℕ → ℕ → List ℕ → ℕ → Result (Tuple × ℕ) Fault
every_at low high l at =
    leads (needed (field_at (letters " every ") 1 1000000 l at) NotTuple Cycle) (λ (z, end). offset_at z low high l end)

unfoldable pub tuple_at : ℕ → ℕ → List ℕ → ℕ → Result (Tuple × ℕ) Fault
tuple_at low high l at =
    by_field (field_at (letters " once@") low high l at) (every_at low high l at) (Err Offset) (λ a end. Ok (Once a, end))

-- one tuple more
unfoldable pub added : StreamT → Tuple → StreamT
added s t =
    cond (ltb s.count 4)
    (record { depth = s.depth; stages = s.stages; deadline = s.deadline; count = s.count + 1; tuples = set s.tuples s.count (record { tuple = t }) })
    s

-- where the line ends: "1 to 4 tuples"
abbrev pub finished : StreamT → Result StreamT Fault
finished s = cond (eqb s.count 0) (Err NotTuple) (Ok s)

-- at most n tuples more; "the first is 0 and they never fall"
unfoldable pub tuples_at : ℕ → StreamT → ℕ → ℕ → List ℕ → ℕ → Result StreamT Fault
tuples_at zero s low high l at = cond (leb (length l) at) (finished s) (Err FiveTuples)
tuples_at (suc n) s low high l at =
    cond (leb (length l) at) (finished s)
    (leads (tuple_at low high l at) (λ (t, end). tuples_at n (added s t) (offset t) 100000 l end))

-- the tuples of a jittered cycle, or that it is out of rule
unfoldable pub by_jitter : Result (Tuple × Tuple) Refusal → (Tuple → Tuple → Result StreamT Fault) → Result StreamT Fault
by_jitter (Ok (t, u)) next = next t u
by_jitter (Err why) next = Err Jitter

-- the line ends behind a jitter
abbrev pub alone : StreamT → List ℕ → ℕ → Result StreamT Fault
alone s l at = cond (leb (length l) at) (Ok s) (Err NotJitter)

-- `jitter Z J`, alone: what Z and J say, from J on, and the whole of it
unfoldable pub jitter_said : StreamT → ℕ → ℕ → List ℕ → ℕ → Result StreamT Fault
jitter_said s z j l at = by_jitter (jitter_of z j) (λ t u. alone (added (added s t) u) l at)

unfoldable pub each_way_at : StreamT → ℕ → List ℕ → ℕ → Result StreamT Fault
each_way_at s z l at =
    leads (needed (field_at (letters " ") 0 4294967295 l at) NotJitter Jitter) (λ (j, end). jitter_said s z j l end)

unfoldable pub jitter_at : StreamT → List ℕ → ℕ → Result StreamT Fault
jitter_at s l at =
    leads (needed (field_at (letters " jitter ") 0 4294967295 l at) NotJitter Jitter) (λ (z, end). each_way_at s z l end)

-- a stream's event limit: a jitter, or tuples
unfoldable pub limit_at : StreamT → List ℕ → ℕ → Result StreamT Fault
limit_at s l at = cond (starts_at (letters " jitter") l at) (jitter_at s l at) (tuples_at 4 s 0 0 l at)

-- the deadline, behind the stages: "1 to 4 stages"
abbrev pub with_deadline : StreamT → ℕ → StreamT
with_deadline s d = record { depth = s.depth; stages = s.stages; deadline = d; count = s.count; tuples = s.tuples }

unfoldable pub deadline_at : StreamT → List ℕ → ℕ → Result StreamT Fault
deadline_at s l at =
    leads (needed (field_at (letters "deadline ") 1 200000 l at) NotDeadline Deadline) (λ (d, end). limit_at (with_deadline s d) l end)

abbrev pub stages_end : StreamT → List ℕ → ℕ → Result StreamT Fault
stages_end s l at = cond (eqb s.depth 0) (Err NotTask) (deadline_at s l at)

-- a stage, the space behind it, and where what stands behind them begins: from the space on, from the cost on, and the whole of it, nothing where no task stands
unfoldable pub space_at : ℕ → ℕ → List ℕ → ℕ → Result (Stage × ℕ) Fault
space_at task cost l at = cond (starts_at (letters " ") l at) (Ok (record { task = task; cost = cost }, at + 1)) (Err NotDeadline)

unfoldable pub cost_at : ℕ → List ℕ → ℕ → Result (Stage × ℕ) Fault
cost_at task l at =
    leads (needed (field_at (letters " cost ") 1 65535 l at) NotCost Cost) (λ (cost, end). space_at task cost l end)

unfoldable pub pair_at : List ℕ → ℕ → Result (Option (Stage × ℕ)) Fault
pair_at l at =
    by_field (field_at (letters "task ") 0 15 l at) (Ok None) (Err Task) (λ task end. leads (cost_at task l end) (λ g. Ok (Some g)))

-- one stage more
unfoldable pub staged : StreamT → Stage → StreamT
staged s g =
    cond (ltb s.depth 4)
    (record { depth = s.depth + 1; stages = set s.stages s.depth g; deadline = s.deadline; count = s.count; tuples = s.tuples })
    s

-- "1 to 4 stages"; a line of version 1 has one
abbrev pub most_stages : ℕ → ℕ
most_stages version = cond (eqb version 1) 1 4

abbrev pub too_many : ℕ → Fault
too_many version = cond (eqb version 1) TwoStages FiveStages

-- at most n stages more
unfoldable pub by_stage : Result (Option (Stage × ℕ)) Fault → Result StreamT Fault → (Stage → ℕ → Result StreamT Fault) → Result StreamT Fault
by_stage (Ok (Some (g, end))) missing next = next g end
by_stage (Ok None) missing next = missing
by_stage (Err why) missing next = Err why

unfoldable pub stages_at : ℕ → ℕ → StreamT → List ℕ → ℕ → Result StreamT Fault
stages_at version zero s l at = cond (starts_at (letters "task ") l at) (Err (too_many version)) (stages_end s l at)
stages_at version (suc n) s l at =
    by_stage (pair_at l at) (stages_end s l at) (λ g end. stages_at version n (staged s g) l end)

-- ---- a whole line, in a text of a version

-- "Version 2 has `version 2` as its first line"
abbrev pub version_text : List ℕ
version_text = letters "version 2"

-- an empty line says nothing
unfoldable pub line_read : ℕ → List ℕ → Result (Option Said) Fault
line_read version l =
    cond (eqb (length l) 0) (Ok None)
    (cond (same l version_text) (Ok (Some Version))
    (leads (stages_at version (most_stages version) no_stream l 0) (λ s. Ok (Some (Stream s)))))

-- how many bytes a line has at most: no stream's has more than 175, and in a text of version 1 none has more than 118
abbrev pub longest : ℕ → ℕ
longest version = cond (eqb version 1) 127 191

unfoldable pub judged : ℕ → Row → Result (Option Said) Fault
judged version r = cond (leb r.len (longest version)) (line_read version (take r.len r.bytes)) (Err LongLine)
