-- What is written reads back.
-- Assumes nothing.
use Prim.Native.Nat.{ℕ, zero, suc, ◌-◌, ◌^◌, ◌≤◌, ◌<◌}
use mathlib.Core.List.{List, [], ◌∷◌, ◌++◌, append_assoc, append-nil}
use mathlib.Core.Path.{◌≡◌, refl, sym, ap, ap₂, ◌∙◌}
use mathlib.Core.Bool.{Bool, true, false, cond}
use native.Mathlib.Omega.{arith}
use lib.ListN.{length, length-replicate}
use lib.Seq.{append_snoc}
use lib.Dec.{eqb, leb}
use borrow.Author.Tests.{eqb-true, le-leb, lt-ltb, ne_eqb}
use Rattle.std.specs.List.{list_all}
use Rattle.laws.specs.Lists.{All, flat, within}
use Rattle.laws.specs.Bits.{to_bits, zeros}
use Rattle.laws.proofs.Fields.{AreBits, IsBit, all_append, all_take, field_first, field_fits, field_rest, to_bits_bits}
use Rattle.laws.proofs.Packing.{pack_bits, pad_few, pad_of}
use Rattle.rules.specs.declared.Tuple.{Tuple}
use Rattle.rules.specs.declared.Tuple.TheVariants.{Once, Every}
use Rattle.rules.specs.declared.TuplePlace.{TuplePlace}
use Rattle.rules.specs.declared.Stage.{Stage}
use Rattle.rules.specs.declared.Stream.{Stream}
use Rattle.rules.specs.declared.Set.{Set}
use Rattle.rules.specs.declared.Refusal.TheVariants.{BadVersion, OutOfRule}
use Rattle.rules.specs.declared.ReadResult.{ReadResult}
use Rattle.std.specs.Prelude.{Ok}
use Rattle.rules.specs.Streams.{FourPlaces, Placed, offset, offset_at, stages_of, streams_of, tuples_of, valid}
use Rattle.rules.specs.Sheet.{field, head_bits, in_rule, is_zero, no_set, place_bits, read_bits, read_deadline, read_end, read_head, read_of, read_stages, read_stream, read_streams, read_tuples, set_of, sheet_bits, sheet_of, stage_bits, stream_bits, stream_of, tuple_bits, tuple_of}
use Rattle.rules.specs.Valid.{Between, ValidCycle, ValidSet, ValidStage, ValidStream}
use Rattle.rules.proofs.Valid.{valid_set}
use Rattle.sheet_carried.proofs.Streams.{Chain, chain_first, within_is}
use Rattle.sheet_carried.proofs.Whole.{Staged, set_holds, set_staged, stream_holds, version_within, whole_set, whole_stream}

-- a field that was written is read: one law for every width
field_reads : (w v : ℕ) (rest : List ℕ) (next : ℕ → List ℕ → ReadResult) → v < 2 ^ w → field w (to_bits w v ++ rest) next ≡ next v rest
field_reads w v rest next h =
    simp (le-leb w (length (to_bits w v ++ rest)) (field_fits w v rest)) (ap₂ next (field_first w v rest h) (field_rest w v rest))

passes : (ok : Bool) (r : ReadResult) → ok ≡ true → in_rule ok r ≡ r
passes ok r e = ap (λ (b : Bool). cond b r (no_set OutOfRule)) e

-- ---- tuples

abbrev place : Tuple → TuplePlace
place t = record { tuple = t }

-- what the definition does with an offset, and with a cycle
abbrev pub offset_next : ℕ → ℕ → ℕ → List TuplePlace → (List TuplePlace → List ℕ → ReadResult) → ℕ → ℕ → List ℕ → ReadResult
offset_next low high n ps next z a bs = in_rule (within low a high) (read_tuples n a 100000 (ps ++ (tuple_of z a ∷ [])) bs next)

abbrev pub cycle_next : ℕ → ℕ → ℕ → List TuplePlace → (List TuplePlace → List ℕ → ReadResult) → ℕ → List ℕ → ReadResult
cycle_next low high n ps next z bs = in_rule (leb z 1000000) (field 17 bs (offset_next low high n ps next z))

one_tuple : (t : Tuple) (low high n : ℕ) (ps : List TuplePlace) (rest : List ℕ) (next : List TuplePlace → List ℕ → ReadResult) → within low (offset t) high ≡ true → offset t ≤ 100000 → ValidCycle t
    → read_tuples (suc n) low high ps (tuple_bits t ++ rest) next ≡ read_tuples n (offset t) 100000 (ps ++ (place t ∷ [])) rest next
unfolding read_tuples
one_tuple (Once a) low high n ps rest next w k v =
    ap (λ (l : List ℕ). read_tuples (suc n) low high ps l next) (append_assoc (to_bits 20 0) (to_bits 17 a) rest)
    ∙ field_reads 20 0 (to_bits 17 a ++ rest) (cycle_next low high n ps next) (omega arith)
    ∙ field_reads 17 a rest (offset_next low high n ps next 0) (omega arith)
    ∙ passes (within low a high) _ w
one_tuple (Every z a) low high n ps rest next w k v =
    ap (λ (l : List ℕ). read_tuples (suc n) low high ps l next) (append_assoc (to_bits 20 z) (to_bits 17 a) rest)
    ∙ field_reads 20 z (to_bits 17 a ++ rest) (cycle_next low high n ps next) (omega (arith, v.high))
    ∙ passes (leb z 1000000) _ (le-leb z 1000000 v.high)
    ∙ field_reads 17 a rest (offset_next low high n ps next z) (omega arith)
    ∙ passes (within low a high) _ w
    ∙ ap (λ (b : Bool). read_tuples n a 100000 (ps ++ (place (cond b (Once a) (Every z a)) ∷ [])) rest next) (ne_eqb z 0 (λ e. omega (arith, v.low)))

tuples_read : (qs ps : List TuplePlace) (low high : ℕ) (rest : List ℕ) (next : List TuplePlace → List ℕ → ReadResult) → Chain low high qs
    → read_tuples (length qs) low high ps (flat place_bits qs ++ rest) next ≡ next (ps ++ qs) rest
unfolding read_tuples flat
tuples_read [] ps low high rest next c = ap (λ (l : List TuplePlace). next l rest) (sym (append-nil ps))
tuples_read (q ∷ qs) ps low high rest next c =
    ap (λ (l : List ℕ). read_tuples (suc (length qs)) low high ps l next) (append_assoc (place_bits q) (flat place_bits qs) rest)
    ∙ one_tuple q.tuple low high (length qs) ps (flat place_bits qs ++ rest) next c.0 c.1.0.offset c.1.0.cycle
    ∙ tuples_read qs (ps ++ (q ∷ [])) (offset_at q) 100000 rest next c.1.1
    ∙ ap (λ (l : List TuplePlace). next l rest) (append_snoc ps q qs)

-- ---- the head of a stream

-- what the definition does with a task, and with a cost
abbrev pub cost_next : ℕ → List Stage → (List Stage → List ℕ → ReadResult) → ℕ → ℕ → List ℕ → ReadResult
cost_next n gs next task cost bs = in_rule (within 1 cost 65535) (read_stages n (gs ++ (record { task = task; cost = cost } ∷ [])) bs next)

abbrev pub task_next : ℕ → List Stage → (List Stage → List ℕ → ReadResult) → ℕ → List ℕ → ReadResult
task_next n gs next task bs = field 16 bs (cost_next n gs next task)

one_stage_lem : (g : Stage) (n : ℕ) (gs : List Stage) (rest : List ℕ) (next : List Stage → List ℕ → ReadResult) → ValidStage g
    → read_stages (suc n) gs (stage_bits g ++ rest) next ≡ read_stages n (gs ++ (g ∷ [])) rest next
unfolding read_stages
one_stage_lem g n gs rest next v =
    ap (λ (l : List ℕ). read_stages (suc n) gs l next) (append_assoc (to_bits 4 g.task) (to_bits 16 g.cost) rest)
    ∙ field_reads 4 g.task (to_bits 16 g.cost ++ rest) (task_next n gs next) (omega (arith, v.task))
    ∙ field_reads 16 g.cost rest (cost_next n gs next g.task) (omega (arith, v.cost.high))
    ∙ passes (within 1 g.cost 65535) _ (within_is 1 g.cost 65535 v.cost.low v.cost.high)

stages_read : (hs gs : List Stage) (rest : List ℕ) (next : List Stage → List ℕ → ReadResult) → All ValidStage hs
    → read_stages (length hs) gs (flat stage_bits hs ++ rest) next ≡ next (gs ++ hs) rest
unfolding read_stages flat
stages_read [] gs rest next v = ap (λ (l : List Stage). next l rest) (sym (append-nil gs))
stages_read (h ∷ hs) gs rest next v =
    ap (λ (l : List ℕ). read_stages (suc (length hs)) gs l next) (append_assoc (stage_bits h) (flat stage_bits hs) rest)
    ∙ one_stage_lem h (length hs) gs (flat stage_bits hs ++ rest) next v.0
    ∙ stages_read hs (gs ++ (h ∷ [])) rest next v.1
    ∙ ap (λ (l : List Stage). next l rest) (append_snoc gs h hs)

-- what it does with a deadline
abbrev pub deadline_next : (ℕ → List ℕ → ReadResult) → ℕ → List ℕ → ReadResult
deadline_next next deadline bs = in_rule (within 1 deadline 200000) (next deadline bs)

deadline_reads : (d : ℕ) (rest : List ℕ) (next : ℕ → List ℕ → ReadResult) → Between 1 d 200000 → read_deadline (to_bits 18 d ++ rest) next ≡ next d rest
unfolding read_deadline
deadline_reads d rest next h =
    field_reads 18 d rest (deadline_next next) (omega (arith, h.high)) ∙ passes (within 1 d 200000) _ (within_is 1 d 200000 h.low h.high)

-- the head that version 1 has, and the other
abbrev pub head_by : Bool → List Stage → ℕ → ℕ → List ℕ
head_by first gs depth deadline =
    cond first (flat stage_bits gs ++ to_bits 18 deadline) (to_bits 18 deadline ++ (to_bits 2 (depth - 1) ++ flat stage_bits gs))

abbrev pub read_head_by : Bool → List ℕ → (List Stage → ℕ → List ℕ → ReadResult) → ReadResult
read_head_by first bs next =
    cond first
    (read_stages 1 [] bs (λ gs bs₁. read_deadline bs₁ (λ deadline bs₂. next gs deadline bs₂)))
    (read_deadline bs (λ deadline bs₁. field 2 bs₁ (λ n bs₂. read_stages (suc n) [] bs₂ (λ gs bs₃. next gs deadline bs₃))))

head_by_lem : (first : Bool) (gs : List Stage) (depth d : ℕ) (rest : List ℕ) (next : List Stage → ℕ → List ℕ → ReadResult) → All ValidStage gs → Between 1 d 200000 → Between 1 depth 4
    → length gs ≡ depth → (first ≡ true → depth ≡ 1) → read_head_by first (head_by first gs depth d ++ rest) next ≡ next gs d rest
head_by_lem true gs depth d rest next v h k e one =
    ap₂ (λ (n : ℕ) (l : List ℕ). read_stages n [] l (λ gs bs₁. read_deadline bs₁ (λ deadline bs₂. next gs deadline bs₂))) (sym (e ∙ one refl)) (append_assoc (flat stage_bits gs) (to_bits 18 d) rest)
    ∙ stages_read gs [] (to_bits 18 d ++ rest) (λ gs bs₁. read_deadline bs₁ (λ deadline bs₂. next gs deadline bs₂)) v
    ∙ deadline_reads d rest (λ deadline bs₂. next gs deadline bs₂) h
head_by_lem false gs depth d rest next v h k e one =
    ap (λ (l : List ℕ). read_head_by false l next)
    (let q : (to_bits 18 d ++ (to_bits 2 (depth - 1) ++ flat stage_bits gs)) ++ rest ≡ to_bits 18 d ++ (to_bits 2 (depth - 1) ++ (flat stage_bits gs ++ rest)) = simp append_assoc in q)
    ∙ deadline_reads d _ (λ deadline bs₁. field 2 bs₁ (λ n bs₂. read_stages (suc n) [] bs₂ (λ gs bs₃. next gs deadline bs₃))) h
    ∙ field_reads 2 (depth - 1) (flat stage_bits gs ++ rest) (λ n bs₂. read_stages (suc n) [] bs₂ (λ gs bs₃. next gs d bs₃)) (omega (arith, k.high))
    ∙ ap (λ (n : ℕ). read_stages n [] (flat stage_bits gs ++ rest) (λ gs bs₃. next gs d bs₃)) (let q : suc (depth - 1) ≡ length gs = omega (arith, k.low, e) in q)
    ∙ stages_read gs [] rest (λ gs bs₃. next gs d bs₃) v

-- ---- streams

-- what the definition does with the number of tuples
abbrev pub tuples_next : (Stream → List ℕ → ReadResult) → List Stage → ℕ → ℕ → List ℕ → ReadResult
tuples_next next gs deadline n bs = read_tuples (suc n) 0 0 [] bs (λ ts rest. next (stream_of gs deadline ts) rest)

abbrev pub head_next : (Stream → List ℕ → ReadResult) → List Stage → ℕ → List ℕ → ReadResult
head_next next gs deadline bs = field 2 bs (tuples_next next gs deadline)

head_reads : (version : ℕ) (s : Stream) (rest : List ℕ) (next : List Stage → ℕ → List ℕ → ReadResult) → ValidStream s → FourPlaces s → Staged version s
    → read_head version (head_bits version s ++ rest) next ≡ next (stages_of s) s.deadline rest
unfolding read_head head_bits
head_reads version s rest next v f one =
    head_by_lem (eqb version 1) (stages_of s) s.depth s.deadline rest next v.stages v.deadline v.depth (stream_holds s v f).stages.used (λ e. one (eqb-true version 1 e))

stream_reads : (version : ℕ) (s : Stream) (rest : List ℕ) (next : Stream → List ℕ → ReadResult) → ValidStream s → FourPlaces s → Staged version s
    → read_stream version (stream_bits version s ++ rest) next ≡ next s rest
unfolding read_stream stream_bits
stream_reads version s rest next v f one =
    let gs : List Stage = stages_of s in
    let ts : List TuplePlace = tuples_of s in
    ap (λ (l : List ℕ). read_stream version l next)
    (let e : (head_bits version s ++ (to_bits 2 (s.count - 1) ++ flat place_bits ts)) ++ rest
    ≡ head_bits version s ++ (to_bits 2 (s.count - 1) ++ (flat place_bits ts ++ rest)) = simp append_assoc in e)
    ∙ head_reads version s _ (head_next next) v f one
    ∙ field_reads 2 (s.count - 1) _ (tuples_next next gs s.deadline) (omega (arith, v.count.high))
    ∙ ap (λ (n : ℕ). read_tuples n 0 0 [] (flat place_bits ts ++ rest) (λ qs bs. next (stream_of gs s.deadline qs) bs))
    (let e : suc (s.count - 1) ≡ length ts = omega (arith, v.count.low, (stream_holds s v f).tuples.used) in e)
    ∙ tuples_read ts [] 0 0 rest (λ qs bs. next (stream_of gs s.deadline qs) bs) (chain_first ts v.first v.order)
    ∙ ap (λ (y : Stream). next y rest) (whole_stream s (stream_holds s v f))

streams_read : (version : ℕ) (ss ps : List Stream) (rest : List ℕ) → All ValidStream ss → All FourPlaces ss → All (Staged version) ss
    → read_streams version (length ss) ps (flat (stream_bits version) ss ++ rest) ≡ read_end version (ps ++ ss) rest
unfolding read_streams flat
streams_read version [] ps rest v f one = ap (λ (l : List Stream). read_end version l rest) (sym (append-nil ps))
streams_read version (s ∷ ss) ps rest v f one =
    ap (λ (l : List ℕ). read_streams version (suc (length ss)) ps l) (append_assoc (stream_bits version s) (flat (stream_bits version) ss) rest)
    ∙ stream_reads version s (flat (stream_bits version) ss ++ rest) (λ y bs. read_streams version (length ss) (ps ++ (y ∷ [])) bs) v.0 f.0 one.0
    ∙ streams_read version ss (ps ++ (s ∷ [])) rest v.1 f.1 one.1
    ∙ ap (λ (l : List Stream). read_end version l rest) (append_snoc ps s ss)

-- ---- the whole sheet

zeros_all : (k : ℕ) → list_all is_zero (zeros k) ≡ true
zeros_all zero = refl
zeros_all (suc k) = zeros_all k

end_reads : (version : ℕ) (ss : List Stream) (k : ℕ) → k < 8 → read_end version ss (zeros k) ≡ record { answer = Ok tt; set = set_of version ss }
unfolding read_end
end_reads version ss k h = simp (lt-ltb (length (zeros k)) 8 (omega (arith, length-replicate {A = ℕ} k 0)), zeros_all k)

-- what it does with the count and with the version
abbrev pub count_next : ℕ → ℕ → List ℕ → ReadResult
count_next version n bs = in_rule (leb n 16) (read_streams version n [] bs)

abbrev pub version_next : ℕ → List ℕ → ReadResult
version_next v bs = cond (within 1 v 2) (field 5 bs (count_next v)) (no_set BadVersion)

-- behind the fields of a valid set its end is judged
pub fields_read : (x : Set) (rest : List ℕ) → ValidSet x → Placed x → read_bits (sheet_bits x ++ rest) ≡ read_end x.version (streams_of x) rest
unfolding read_bits sheet_bits
fields_read x rest v p =
    let n : ℕ = x.version in
    let ss : List Stream = streams_of x in
    let w : (1 ≤ n) × (n ≤ 2) = version_within x v in
    ap read_bits
    (let e : (to_bits 4 n ++ (to_bits 5 x.count ++ flat (stream_bits n) ss)) ++ rest ≡ to_bits 4 n ++ (to_bits 5 x.count ++ (flat (stream_bits n) ss ++ rest)) = simp append_assoc in e)
    ∙ field_reads 4 n _ version_next (omega (arith, w.1))
    ∙ ap (λ (b : Bool). cond b (field 5 (to_bits 5 x.count ++ (flat (stream_bits n) ss ++ rest)) (count_next n)) (no_set BadVersion)) (within_is 1 n 2 w.0 w.1)
    ∙ field_reads 5 x.count _ (count_next n) (omega (arith, v.count))
    ∙ passes (leb x.count 16) _ (le-leb x.count 16 v.count)
    ∙ ap (λ (k : ℕ). read_streams n k [] (flat (stream_bits n) ss ++ rest)) (sym (set_holds x v p).used)
    ∙ streams_read n ss [] rest v.streams (all_take FourPlaces x.count x.streams p.four) (set_staged x v)

pub bits_read : (x : Set) (k : ℕ) → ValidSet x → Placed x → k < 8 → read_bits (sheet_bits x ++ zeros k) ≡ record { answer = Ok tt; set = x }
bits_read x k v p h =
    fields_read x (zeros k) v p ∙ end_reads x.version (streams_of x) k h ∙ ap (λ (y : Set). record { answer = Ok tt; set = y }) (whole_set x (set_holds x v p))

-- the fields are bits
flat_bits : {A : Type 0} (f : A → List ℕ) → ((a : A) → AreBits (f a)) → (l : List A) → AreBits (flat f l)
unfolding flat
flat_bits f h [] = tt
flat_bits f h (a ∷ l) = all_append IsBit (f a) (flat f l) (h a) (flat_bits f h l)

tuple_bits_lem : (t : Tuple) → AreBits (tuple_bits t)
tuple_bits_lem (Once a) = all_append IsBit (to_bits 20 0) (to_bits 17 a) (to_bits_bits 20 0) (to_bits_bits 17 a)
tuple_bits_lem (Every z a) = all_append IsBit (to_bits 20 z) (to_bits 17 a) (to_bits_bits 20 z) (to_bits_bits 17 a)

stage_bits_lem : (g : Stage) → AreBits (stage_bits g)
stage_bits_lem g = all_append IsBit (to_bits 4 g.task) (to_bits 16 g.cost) (to_bits_bits 4 g.task) (to_bits_bits 16 g.cost)

head_bits_lem : (first : Bool) (gs : List Stage) (depth d : ℕ) → AreBits (head_by first gs depth d)
head_bits_lem true gs depth d = all_append IsBit (flat stage_bits gs) (to_bits 18 d) (flat_bits stage_bits stage_bits_lem gs) (to_bits_bits 18 d)
head_bits_lem false gs depth d =
    all_append IsBit (to_bits 18 d) _ (to_bits_bits 18 d)
    (all_append IsBit (to_bits 2 (depth - 1)) (flat stage_bits gs) (to_bits_bits 2 (depth - 1)) (flat_bits stage_bits stage_bits_lem gs))

stream_bits_lem : (version : ℕ) (s : Stream) → AreBits (stream_bits version s)
unfolding stream_bits head_bits
stream_bits_lem version s =
    all_append IsBit (head_bits version s) _ (head_bits_lem (eqb version 1) (stages_of s) s.depth s.deadline)
    (all_append IsBit (to_bits 2 (s.count - 1)) _ (to_bits_bits 2 (s.count - 1)) (flat_bits place_bits (λ p. tuple_bits_lem p.tuple) (tuples_of s)))

pub sheet_bits_lem : (x : Set) → AreBits (sheet_bits x)
unfolding sheet_bits
sheet_bits_lem x =
    all_append IsBit (to_bits 4 x.version) _ (to_bits_bits 4 x.version)
    (all_append IsBit (to_bits 5 x.count) _ (to_bits_bits 5 x.count) (flat_bits (stream_bits x.version) (stream_bits_lem x.version) (streams_of x)))

-- "reading what was written gives the same set"
pub read_back : (x : Set) → valid x ≡ true → Placed x → read_of (sheet_of x) ≡ record { answer = Ok tt; set = x }
unfolding read_of sheet_of
read_back x v p =
    ap read_bits (pack_bits (sheet_bits x) (sheet_bits_lem x)) ∙ bits_read x (pad_of (length (sheet_bits x))) (valid_set x v) p (pad_few (length (sheet_bits x)))
