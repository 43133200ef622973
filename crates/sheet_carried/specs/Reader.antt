-- The reader as a machine that takes bits. That it is document 01's reading, field by field and of both versions, is proved in proofs/.
-- Assumes nothing.
use Rattle.std.specs.Prelude.{ℕ, zero, suc, ◌+◌, ◌-◌, ◌*◌, ◌^◌, List, [], ◌∷◌, cond, get_or, set, replicate, eqb, ltb}
use Rattle.bits.specs.declared.Gathered.{Gathered}
use Rattle.rules.specs.declared.TuplePlace.{TuplePlace}
use Rattle.rules.specs.declared.Stage.{Stage}
use Rattle.rules.specs.declared.Stream.{Stream}
use Rattle.rules.specs.declared.Set.{Set}
use Rattle.rules.specs.declared.ReadResult.{ReadResult}
use Rattle.std.specs.Prelude.{Result, Ok, Err}
use Rattle.rules.specs.declared.Refusal.{Refusal}
use Rattle.rules.specs.Streams.{empty_set, no_stage, no_tuple}
use Rattle.rules.specs.Sheet.{no_set, tuple_of}
use Rattle.sheet_carried.specs.declared.SheetField.{SheetField}
use Rattle.sheet_carried.specs.declared.Point.{Point}
use Rattle.sheet_carried.specs.declared.Carried.{Carried}
use Rattle.sheet_carried.specs.Table.{answer_of, at_cost, at_count, at_cycle, at_deadline, at_offset, at_stages, at_task, at_tuples, at_version, behind_of, following_of, greatest_of, in_rule_of, least_of, opened_of, refusal_of, row, width_of}

-- ---- states

-- the value of a field, where it has been read and stands nowhere else, else 0
abbrev pub value_at : List ℕ → ℕ → ℕ
value_at vs f = get_or vs f 0

abbrev pub no_values : List ℕ
no_values = replicate 9 0

abbrev pub no_stages : List Stage
no_stages = replicate 4 no_stage

abbrev pub no_tuples : List TuplePlace
no_tuples = replicate 4 no_tuple

-- before the field f, behind n whole stages or tuples of the stream that is being read; l bits of it are to come, behind those that make a
abbrev pub reading : ℕ → ℕ → List ℕ → List Stage → List TuplePlace → Set → ℕ → ℕ → Carried
reading f n vs gs ts x a l =
    record { point = record { row = f; whole = n; acc = a; left = l }; values = vs; stages = gs; places = ts; set = x }

abbrev pub point_at : ℕ → ℕ → Point
point_at f n = record { row = f; whole = n; acc = 0; left = width_of f }

-- the row of the field that comes, with an offset's own bounds
unfoldable pub rule_of : Point → List ℕ → SheetField
rule_of p vs = row (width_of p.row) (least_of p.row (value_at vs at_offset)) (greatest_of p.row p.whole)

abbrev pub begun : ℕ → ℕ → List ℕ → List Stage → List TuplePlace → Set → Carried
begun f n vs gs ts x = record { point = point_at f n; values = vs; stages = gs; places = ts; set = x }

abbrev pub start_of : Carried
start_of = begun at_version 0 no_values no_stages no_tuples empty_set

-- a refused reader keeps nothing but its refusal
unfoldable pub refused_of : ℕ → Carried
refused_of f = begun f 0 no_values no_stages no_tuples empty_set

-- ---- behind a field whose value v is in its rule

-- a tuple is whole, and the next one comes
abbrev pub tupled : List ℕ → ℕ → List ℕ
tupled vs v = set (set vs at_cycle 0) at_offset v

abbrev pub placed_in : ℕ → List ℕ → List TuplePlace → ℕ → List TuplePlace
placed_in n vs ts v = set ts n (tuple_of (value_at vs at_cycle) v)

unfoldable pub next_tuple : ℕ → List ℕ → List Stage → List TuplePlace → Set → ℕ → Carried
next_tuple n vs gs ts x v = begun at_cycle (n + 1) (tupled vs v) gs (placed_in n vs ts v) x

-- a stream is whole and goes to its place: of the values that were read the count stays
abbrev pub front_of : List ℕ → List ℕ
front_of vs = 0 ∷ value_at vs at_count ∷ 0 ∷ 0 ∷ 0 ∷ 0 ∷ 0 ∷ 0 ∷ 0 ∷ []

-- "stages less one"; in version 1 they are not read, and 0
abbrev pub stream_in : List ℕ → List Stage → ℕ → List TuplePlace → Stream
stream_in vs gs n ts = record { depth = value_at vs at_stages + 1; stages = gs; deadline = value_at vs at_deadline; count = n; tuples = ts }

abbrev pub with_stream : Set → Stream → Set
with_stream x s = record { count = x.count + 1; streams = set x.streams x.count s; version = x.version }

unfoldable pub next_stream : ℕ → List ℕ → List Stage → List TuplePlace → Set → ℕ → Carried
next_stream n vs gs ts x v =
    begun (opened_of x.version (x.count + 1) (value_at vs at_count)) 0 (front_of vs) no_stages no_tuples
    (with_stream x (stream_in vs gs (n + 1) (placed_in n vs ts v)))

abbrev pub behind_offset : ℕ → List ℕ → List Stage → List TuplePlace → Set → ℕ → Carried
behind_offset n vs gs ts x v = cond (ltb n (value_at vs at_tuples)) (next_tuple n vs gs ts x v) (next_stream n vs gs ts x v)

-- a stage is whole: the next one comes, or what comes behind them all
abbrev pub stage_in : ℕ → ℕ → Stage
stage_in task cost = record { task = task; cost = cost }

abbrev pub staged_in : ℕ → List ℕ → List Stage → ℕ → List Stage
staged_in n vs gs v = set gs n (stage_in (value_at vs at_task) v)

unfoldable pub next_stage : ℕ → List ℕ → List Stage → List TuplePlace → Set → ℕ → Carried
next_stage n vs gs ts x v = begun at_task (n + 1) (set vs at_task 0) (staged_in n vs gs v) ts x

unfoldable pub last_stage : ℕ → List ℕ → List Stage → List TuplePlace → Set → ℕ → Carried
last_stage n vs gs ts x v = begun (behind_of x.version at_cost) 0 (set vs at_task 0) (staged_in n vs gs v) ts x

abbrev pub behind_cost : ℕ → List ℕ → List Stage → List TuplePlace → Set → ℕ → Carried
behind_cost n vs gs ts x v = cond (ltb n (value_at vs at_stages)) (next_stage n vs gs ts x v) (last_stage n vs gs ts x v)

-- the version goes into the set
abbrev pub with_version : Set → ℕ → Set
with_version x v = record { count = x.count; streams = x.streams; version = v }

unfoldable pub behind_version : ℕ → List ℕ → List Stage → List TuplePlace → Set → ℕ → Carried
behind_version n vs gs ts x v = begun at_count n vs gs ts (with_version x v)

-- behind any other field its value goes to its own place
unfoldable pub next_field : ℕ → ℕ → List ℕ → List Stage → List TuplePlace → Set → ℕ → Carried
next_field f n vs gs ts x v = begun (following_of x.version f v) n (set vs f v) gs ts x

unfoldable pub goes_on : ℕ → ℕ → List ℕ → List Stage → List TuplePlace → Set → ℕ → Carried
goes_on f n vs gs ts x v =
    cond (eqb f at_offset) (behind_offset n vs gs ts x v)
    (cond (eqb f at_cost) (behind_cost n vs gs ts x v) (cond (eqb f at_version) (behind_version n vs gs ts x v) (next_field f n vs gs ts x v)))

-- ---- the machine

-- behind the field f, whose value is v
unfoldable pub next_of : ℕ → ℕ → List ℕ → List Stage → List TuplePlace → Set → ℕ → Carried
next_of f n vs gs ts x v = cond (in_rule_of f n (value_at vs at_offset) v) (goes_on f n vs gs ts x v) (refused_of (refusal_of f))

-- bits behind those that have come
unfoldable pub joined_of : Point → Gathered → Point
joined_of p g = record { row = p.row; whole = p.whole; acc = p.acc * 2 ^ g.got + g.value; left = p.left - g.got }

-- one bit more: of no field, the last of a field, or one before
abbrev pub step_by : ℕ → ℕ → ℕ → List ℕ → List Stage → List TuplePlace → Set → ℕ → ℕ → Carried
step_by zero f n vs gs ts x a b = reading f n vs gs ts x a 0
step_by (suc zero) f n vs gs ts x a b = next_of f n vs gs ts x (a * 2 + b)
step_by (suc (suc l)) f n vs gs ts x a b = reading f n vs gs ts x (a * 2 + b) (suc l)

unfoldable pub step_of : Carried → ℕ → Carried
step_of c b = step_by c.point.left c.point.row c.point.whole c.values c.stages c.places c.set c.point.acc b

unfoldable pub run : Carried → List ℕ → Carried
run c [] = c
run c (b ∷ bs) = run (step_of c b) bs

abbrev pub close_as : Result (Unit {0}) Refusal → Set → ReadResult
close_as (Ok tt) x = record { answer = Ok tt; set = x }
close_as (Err why) x = no_set why

unfoldable pub close_of : Carried → ReadResult
close_of c = close_as (answer_of c.point.row) c.set
