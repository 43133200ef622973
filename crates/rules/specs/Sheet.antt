-- Document 01, "The sheet": version 1; document 02, request 4: version 2.
-- Assumes nothing.
use Rattle.std.specs.Prelude.{ℕ, zero, suc, ◌-◌, Bool, cond, ◌&&◌, List, [], ◌∷◌, ◌++◌, length, take, drop, replicate, ltb, leb, eqb}
use Rattle.std.specs.List.{list_all}
use Rattle.laws.specs.Lists.{within, flat}
use Rattle.laws.specs.Bits.{to_bits, value, bits, pack}
use Rattle.rules.specs.declared.Tuple.{Tuple}
use Rattle.rules.specs.declared.Tuple.TheVariants.{Once, Every}
use Rattle.rules.specs.declared.TuplePlace.{TuplePlace}
use Rattle.rules.specs.declared.Stage.{Stage}
use Rattle.rules.specs.declared.Stream.{Stream}
use Rattle.rules.specs.declared.Set.{Set}
use Rattle.rules.specs.declared.Refusal.{Refusal}
use Rattle.rules.specs.declared.Refusal.TheVariants.{BitsMissing, BadVersion, OutOfRule, Leftover, ShortBuffer}
use Rattle.rules.specs.declared.ReadResult.{ReadResult}
use Rattle.std.specs.Prelude.{Result, Ok, Err}
use Rattle.rules.specs.Streams.{no_tuple, no_stage, no_stream, empty_set, stages_of, tuples_of, streams_of, valid}

-- ---- what a set's sheet is

-- "for each tuple cycle (20, 0 for once), offset (17)"
abbrev pub tuple_bits : Tuple → List ℕ
tuple_bits (Once a) = to_bits 20 0 ++ to_bits 17 a
tuple_bits (Every z a) = to_bits 20 z ++ to_bits 17 a

abbrev pub place_bits : TuplePlace → List ℕ
place_bits p = tuple_bits p.tuple

-- "task (4), cost (16)"
abbrev pub stage_bits : Stage → List ℕ
stage_bits g = to_bits 4 g.task ++ to_bits 16 g.cost

-- "for each stream task (4), cost (16), deadline (18)"; "Sheets of version 2 carry, after the deadline, 2 bits of stages less one and that many task and
-- cost pairs in place of the single pair."
unfoldable pub head_bits : ℕ → Stream → List ℕ
head_bits version s =
    cond (eqb version 1)
    (flat stage_bits (stages_of s) ++ to_bits 18 s.deadline)
    (to_bits 18 s.deadline ++ (to_bits 2 (s.depth - 1) ++ flat stage_bits (stages_of s)))

-- "tuples less one (2); for each tuple .."
unfoldable pub stream_bits : ℕ → Stream → List ℕ
stream_bits version s = head_bits version s ++ (to_bits 2 (s.count - 1) ++ flat place_bits (tuples_of s))

-- "Bit fields, most significant first, no gaps: version (4 bits, 1), stream count (5); for each stream .."
unfoldable pub sheet_bits : Set → List ℕ
sheet_bits x = to_bits 4 x.version ++ (to_bits 5 x.count ++ flat (stream_bits x.version) (streams_of x))

-- "Then zero bits to the end of the byte and nothing more."
unfoldable pub sheet_of : Set → List ℕ
sheet_of x = pack (sheet_bits x)

-- ---- reading

-- "5, 6, 10: empty set"; 7 likewise
abbrev pub no_set : Refusal → ReadResult
no_set why = record { answer = Err why; set = empty_set }

-- "Reading goes field by field: bits missing gives 5": the field's value and the bits behind it go to what comes next
abbrev pub field : ℕ → List ℕ → (ℕ → List ℕ → ReadResult) → ReadResult
field w bs next = cond (leb w (length bs)) (next (value (take w bs)) (drop w bs)) (no_set BitsMissing)

-- "else a value outside the rules 7"
abbrev pub in_rule : Bool → ReadResult → ReadResult
in_rule ok r = cond ok r (no_set OutOfRule)

-- "cycle (20, 0 for once), offset"
abbrev pub tuple_of : ℕ → ℕ → TuplePlace
tuple_of z a = record { tuple = cond (eqb z 0) (Once a) (Every z a) }

-- a stream, and a set, of what was read; the places behind are unused
abbrev pub stream_of : List Stage → ℕ → List TuplePlace → Stream
stream_of gs deadline ts =
    record {
      depth = length gs;
      stages = gs ++ replicate (4 - length gs) no_stage;
      deadline = deadline;
      count = length ts;
      tuples = ts ++ replicate (4 - length ts) no_tuple;
    }

abbrev pub set_of : ℕ → List Stream → Set
set_of version ss = record { count = length ss; streams = ss ++ replicate (16 - length ss) no_stream; version = version }

-- "After the last field, a set padding bit or a further byte gives 10."
abbrev pub is_zero : ℕ → Bool
is_zero b = eqb b 0

unfoldable pub read_end : ℕ → List Stream → List ℕ → ReadResult
read_end version ss bs = cond (ltb (length bs) 8 && list_all is_zero bs) (record { answer = Ok tt; set = set_of version ss }) (no_set Leftover)

-- n more stages behind those in gs
unfoldable pub read_stages : ℕ → List Stage → List ℕ → (List Stage → List ℕ → ReadResult) → ReadResult
read_stages zero gs bs next = next gs bs
read_stages (suc n) gs bs next =
    field 4 bs (λ task bs₁.
    field 16 bs₁ (λ cost bs₂. in_rule (within 1 cost 65535)
    (read_stages n (gs ++ (record { task = task; cost = cost } ∷ [])) bs₂ next)))

unfoldable pub read_deadline : List ℕ → (ℕ → List ℕ → ReadResult) → ReadResult
read_deadline bs next = field 18 bs (λ deadline bs₁. in_rule (within 1 deadline 200000) (next deadline bs₁))

-- version 1: one stage, then the deadline; version 2: the deadline, then stages less one, and the stages
unfoldable pub read_head : ℕ → List ℕ → (List Stage → ℕ → List ℕ → ReadResult) → ReadResult
read_head version bs next =
    cond (eqb version 1)
    (read_stages 1 [] bs (λ gs bs₁. read_deadline bs₁ (λ deadline bs₂. next gs deadline bs₂)))
    (read_deadline bs (λ deadline bs₁. field 2 bs₁ (λ n bs₂. read_stages (suc n) [] bs₂ (λ gs bs₃. next gs deadline bs₃))))

-- n more tuples behind those in ts, the next offset from low to high. "the first is 0 and they never fall"
unfoldable pub read_tuples : ℕ → ℕ → ℕ → List TuplePlace → List ℕ → (List TuplePlace → List ℕ → ReadResult) → ReadResult
read_tuples zero low high ts bs next = next ts bs
read_tuples (suc n) low high ts bs next =
    field 20 bs (λ z bs₁. in_rule (leb z 1000000)
    (field 17 bs₁ (λ a bs₂. in_rule (within low a high)
    (read_tuples n a 100000 (ts ++ (tuple_of z a ∷ [])) bs₂ next))))

unfoldable pub read_stream : ℕ → List ℕ → (Stream → List ℕ → ReadResult) → ReadResult
read_stream version bs next =
    read_head version bs (λ gs deadline bs₁.
    field 2 bs₁ (λ n bs₂. read_tuples (suc n) 0 0 [] bs₂ (λ ts bs₃. next (stream_of gs deadline ts) bs₃)))

-- n more streams behind those in ss
unfoldable pub read_streams : ℕ → ℕ → List Stream → List ℕ → ReadResult
read_streams version zero ss bs = read_end version ss bs
read_streams version (suc n) ss bs = read_stream version bs (λ s rest. read_streams version n (ss ++ (s ∷ [])) rest)

-- "6 is no longer given for version 2"
unfoldable pub read_bits : List ℕ → ReadResult
read_bits bs =
    field 4 bs (λ version bs₁. cond (within 1 version 2)
    (field 5 bs₁ (λ n bs₂. in_rule (leb n 16) (read_streams version n [] bs₂)))
    (no_set BadVersion))

-- what a string of bytes reads as
unfoldable pub read_of : List ℕ → ReadResult
read_of sheet = read_bits (bits sheet)

-- ---- writing

-- "Writing 7, 11."
unfoldable pub write_of : Set → ℕ → Result ℕ Refusal
write_of x room =
    cond (valid x)
    (cond (leb (length (sheet_of x)) room) (Ok (length (sheet_of x))) (Err ShortBuffer))
    (Err OutOfRule)

-- "A sheet that is written changes only its own bytes in the buffer."
abbrev pub buffer_by : Result ℕ Refusal → Set → List ℕ → List ℕ
buffer_by (Ok n) x buffer = sheet_of x ++ drop n buffer
buffer_by (Err why) x buffer = buffer

unfoldable pub buffer_of : Set → List ℕ → List ℕ
buffer_of x buffer = buffer_by (write_of x (length buffer)) x buffer
