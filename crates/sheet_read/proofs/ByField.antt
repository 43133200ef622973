-- The machine's reading is document 01's, field by field, of both versions: the version is a number of the set that is being read, and what comes behind a field is
-- looked up by it in one order or the other.
-- Assumes nothing.
use Prim.Native.Nat.{ℕ, zero, suc, ◌+◌, ◌-◌, ◌*◌, ◌^◌, ◌≤◌, ◌<◌}
use mathlib.Core.List.{List, [], ◌∷◌, ◌++◌}
use mathlib.Core.Path.{◌≡◌, refl, sym, ap, ap₂, ◌∙◌}
use mathlib.Core.Bool.{Bool, true, false, cond, ◌&&◌}
use native.Mathlib.Omega.{arith}
use native.Mathlib.Nat.{zero-add}
use lib.ListN.{drop, get_or, length, replicate, set, take}
use lib.Dec.{eqb, leb, ltb, leb-suc-suc}
use borrow.Author.Tests.{eqb-true, lt-leb, le-leb, le-ltb, lt-ltb, ltb-false, ltb-true, ne_eqb}
use Rattle.std.specs.List.{list_all}
use Rattle.laws.specs.Lists.{within}
use Rattle.laws.specs.Bits.{bits, onto}
use Rattle.laws.proofs.Sums.{and_parts, by_test}
use Rattle.laws.proofs.Fields.{AreBits, bits_bits}
use Rattle.rules.specs.declared.Stage.{Stage}
use Rattle.rules.specs.declared.Stream.{Stream}
use Rattle.rules.specs.declared.TuplePlace.{TuplePlace}
use Rattle.rules.specs.declared.Set.{Set}
use Rattle.rules.specs.declared.Refusal.TheVariants.{BitsMissing, BadVersion, OutOfRule, Leftover}
use Rattle.rules.specs.declared.ReadResult.{ReadResult}
use Rattle.std.specs.Prelude.{Ok}
use Rattle.rules.specs.Streams.{no_stage, no_stream, no_tuple, streams_of}
use Rattle.rules.specs.Sheet.{field, in_rule, is_zero, no_set, read_bits, read_deadline, read_end, read_head, read_of, read_stages, read_stream, read_streams, read_tuples, set_of, stream_of, tuple_of}
use Rattle.sheet_carried.specs.declared.Carried.{Carried}
use Rattle.sheet_carried.specs.Table.{answer_of, behind_of, first_order, following_of, greatest_of, in_rule_of, least_of, opened_of, order_of, refusal_of, row_of, second_order, why_of, width_of}
use Rattle.sheet_carried.specs.Reader.{begun, behind_cost, behind_offset, behind_version, close_of, goes_on, last_stage, next_field, next_of, next_stage, next_stream, next_tuple, no_stages, no_tuples, placed_in, reading, refused_of, run, stage_in, staged_in, start_of, step_by, step_of, stream_in, value_at, with_stream}
use Rattle.sheet_carried.specs.Kept.{Holds, Kept, KeptAt, most_whole, stages_whole, tuples_whole}
use Rattle.sheet_carried.proofs.Filled.{holds_more, taken_more}
use Rattle.sheet_carried.proofs.Rows.{behind_padding, by_value_row, by_values, pad_rule, same_order, width_none, width_pad, width_some, within_all, within_zero}
use Rattle.sheet_carried.proofs.Keeps.{kept_start, kept_step, value_fits}

-- ---- the definition's reading from a state of the machine on

-- a field of which l bits are to come behind the number a
abbrev part : ℕ → ℕ → List ℕ → (ℕ → List ℕ → ReadResult) → ReadResult
part a l bs next = cond (leb l (length bs)) (next (onto a (take l bs)) (drop l bs)) (no_set BitsMissing)

-- the streams behind the one that is being read, of which m come: its stages are gs, its deadline is due, and its tuples are ts
abbrev behind_tuples : ℕ → Set → List Stage → ℕ → List TuplePlace → List ℕ → ReadResult
behind_tuples m x gs due ts bs = read_streams x.version (m - suc x.count) (streams_of x ++ (stream_of gs due ts ∷ [])) bs

-- its tuples
abbrev behind_head : ℕ → Set → List Stage → ℕ → List ℕ → ReadResult
behind_head m x gs due bs = field 2 bs (λ n bs₁. read_tuples (suc n) 0 0 [] bs₁ (behind_tuples m x gs due))

-- behind its stages: in version 1 the deadline
abbrev behind_stages : ℕ → Set → ℕ → List Stage → List ℕ → ReadResult
behind_stages m x due gs bs = cond (eqb x.version 1) (read_deadline bs (behind_head m x gs)) (behind_head m x gs due bs)

-- the stages that are whole when all are
abbrev staged : List ℕ → List Stage → List Stage
staged vs gs = take (value_at vs 3 + 1) gs

abbrev go_tuples : List ℕ → List Stage → Set → List TuplePlace → List ℕ → ReadResult
go_tuples vs gs x = behind_tuples (value_at vs 1) x (staged vs gs) (value_at vs 2)

abbrev go_stages : List ℕ → Set → List Stage → List ℕ → ReadResult
go_stages vs x = behind_stages (value_at vs 1) x (value_at vs 2)

-- what the definition does with a field's value and the bits behind it
abbrev after_offset : ℕ → List ℕ → List Stage → List TuplePlace → Set → ℕ → List ℕ → ReadResult
after_offset n vs gs ts x v bs =
    in_rule (within (value_at vs 8) v (greatest_of 8 n)) (read_tuples (value_at vs 6 - n) v 100000 (take n ts ++ (tuple_of (value_at vs 7) v ∷ [])) bs (go_tuples vs gs x))

abbrev after_cycle : ℕ → List ℕ → List Stage → List TuplePlace → Set → ℕ → List ℕ → ReadResult
after_cycle n vs gs ts x v bs = in_rule (leb v 1000000) (field 17 bs (after_offset n (set vs 7 v) gs ts x))

abbrev after_tuples : List ℕ → List Stage → Set → ℕ → List ℕ → ReadResult
after_tuples vs gs x v bs = read_tuples (suc v) 0 0 [] bs (go_tuples vs gs x)

abbrev after_cost : ℕ → List ℕ → List Stage → Set → ℕ → List ℕ → ReadResult
after_cost n vs gs x v bs = in_rule (within 1 v 65535) (read_stages (value_at vs 3 - n) (take n gs ++ (stage_in (value_at vs 4) v ∷ [])) bs (go_stages vs x))

abbrev after_task : ℕ → List ℕ → List Stage → Set → ℕ → List ℕ → ReadResult
after_task n vs gs x v bs = field 16 bs (after_cost n (set vs 4 v) gs x)

abbrev after_stages : List ℕ → Set → ℕ → List ℕ → ReadResult
after_stages vs x v bs = read_stages (suc v) [] bs (λ gs bs₁. behind_head (value_at vs 1) x gs (value_at vs 2) bs₁)

abbrev after_deadline : List ℕ → List Stage → Set → ℕ → List ℕ → ReadResult
after_deadline vs gs x v bs =
    in_rule (within 1 v 200000) (cond (eqb x.version 1) (behind_head (value_at vs 1) x (staged vs gs) v bs) (field 2 bs (after_stages (set vs 2 v) x)))

abbrev after_count : ℕ → ℕ → List ℕ → ReadResult
after_count version v bs = in_rule (leb v 16) (read_streams version v [] bs)

abbrev after_version : ℕ → List ℕ → ReadResult
after_version v bs = cond (within 1 v 2) (field 5 bs (after_count v)) (no_set BadVersion)

rest_after : ℕ → ℕ → List ℕ → List Stage → List TuplePlace → Set → ℕ → List ℕ → ReadResult
rest_after f n vs gs ts x =
    get_or
    (after_version
    ∷ after_count x.version
    ∷ after_deadline vs gs x
    ∷ after_stages vs x
    ∷ after_task n vs gs x
    ∷ after_cost n vs gs x
    ∷ after_tuples vs gs x
    ∷ after_cycle n vs gs ts x
    ∷ after_offset n vs gs ts x
    ∷ [])
    f (λ v bs. no_set OutOfRule)

-- the end, behind p padding bits
abbrev end_from : ℕ → Set → List ℕ → ReadResult
end_from p x bs = cond (ltb (p + length bs) 8 && list_all is_zero bs) (record { answer = Ok tt; set = x }) (no_set Leftover)

finish_by : ℕ → ℕ → List ℕ → List Stage → List TuplePlace → Set → ℕ → ℕ → List ℕ → ReadResult
finish_by f n vs gs ts x a l bs = cond (ltb f 9) (part a l bs (rest_after f n vs gs ts x)) (cond (ltb f 17) (end_from (f - 9) x bs) (no_set (why_of f)))

abbrev finish : Carried → List ℕ → ReadResult
finish c bs = finish_by c.point.row c.point.whole c.values c.stages c.places c.set c.point.acc c.point.left bs

module _ (f n : ℕ) (vs : List ℕ) (gs : List Stage) (ts : List TuplePlace) (x : Set) (a l : ℕ) (bs : List ℕ) where
  finish_value : f < 9 → finish_by f n vs gs ts x a l bs ≡ part a l bs (rest_after f n vs gs ts x)
  unfolding finish_by
  finish_value h = simp (lt-ltb f 9 h)

  finish_end : 9 ≤ f → f < 17 → finish_by f n vs gs ts x a l bs ≡ end_from (f - 9) x bs
  unfolding finish_by
  finish_end h k = simp (le-ltb f 9 h, lt-ltb f 17 k)

  finish_refused : 17 ≤ f → finish_by f n vs gs ts x a l bs ≡ no_set (why_of f)
  unfolding finish_by
  finish_refused h = simp (le-ltb f 9 (omega arith), le-ltb f 17 h)

-- ---- a field that is judged

judged : (bs : List ℕ) (b : Bool) (r q : ReadResult) (c d : Carried) → (b ≡ true → r ≡ finish c bs) → q ≡ finish d bs → cond b r q ≡ finish (cond b c d) bs
judged bs true r q c d e f = e refl
judged bs false r q c d e f = f

-- a way of either version
by_version : (x : Set) (bs : List ℕ) (r q : ReadResult) (n : ℕ) (vs : List ℕ) (gs : List Stage) (ts : List TuplePlace) (f d : ℕ) → (eqb x.version 1 ≡ true → r ≡ finish (begun (get_or (order_of true) f d) n vs gs ts x) bs)
    → (eqb x.version 1 ≡ false → q ≡ finish (begun (get_or (order_of false) f d) n vs gs ts x) bs) → cond (eqb x.version 1) r q ≡ finish (begun (get_or (order_of (eqb x.version 1)) f d) n vs gs ts x) bs
by_version x bs r q n vs gs ts f d a b =
    by_test (eqb x.version 1)
    (λ e. ap (λ (t : Bool). cond t r q) e ∙ a e ∙ ap (λ (t : Bool). finish (begun (get_or (order_of t) f d) n vs gs ts x) bs) (sym e))
    (λ e. ap (λ (t : Bool). cond t r q) e ∙ b e ∙ ap (λ (t : Bool). finish (begun (get_or (order_of t) f d) n vs gs ts x) bs) (sym e))

-- the set of a tidy one's streams
tidy_set : (x : Set) → Holds 16 no_stream x.count x.streams → set_of x.version (streams_of x) ≡ x
tidy_set x t =
    ap₂ (λ (n : ℕ) (l : List Stream). record { count = n; streams = l; version = x.version }) t.used
    (ap (λ (n : ℕ). streams_of x ++ replicate (16 - n) no_stream) t.used ∙ sym t.unused)

-- a stream of whole stages and tuples
tidy_stream : (d due n : ℕ) (gs : List Stage) (ts : List TuplePlace) → Holds 4 no_stage d gs → Holds 4 no_tuple n ts
    → stream_of (take d gs) due (take n ts) ≡ record { depth = d; stages = gs; deadline = due; count = n; tuples = ts }
tidy_stream d due n gs ts p q =
    ap₂ (λ (i : ℕ) (l : List Stage). record { depth = i; stages = l; deadline = due; count = length (take n ts); tuples = take n ts ++ replicate (4 - length (take n ts)) no_tuple }) p.used
    (ap (λ (i : ℕ). take d gs ++ replicate (4 - i) no_stage) p.used ∙ sym p.unused)
    ∙ ap₂ (λ (i : ℕ) (l : List TuplePlace). record { depth = d; stages = gs; deadline = due; count = i; tuples = l }) q.used
    (ap (λ (i : ℕ). take n ts ++ replicate (4 - i) no_tuple) q.used ∙ sym q.unused)

-- ---- streams, stages and tuples come

module _ (a b c d e f g h i : ℕ) (gs : List Stage) (ts : List TuplePlace) (x : Set) (bs : List ℕ) where
  abbrev given : List ℕ
  given = a ∷ b ∷ c ∷ d ∷ e ∷ f ∷ g ∷ h ∷ i ∷ []

  -- a stage comes
  stage_comes : (n : ℕ) → read_stages (suc (d - n)) (take n gs) bs (go_stages given x) ≡ finish (begun 4 n given gs ts x) bs
  unfolding read_stages finish_by rest_after row_of
  stage_comes n = refl

  -- a tuple comes
  tuple_comes : (n : ℕ) → read_tuples (suc (g - n)) i (greatest_of 8 n) (take n ts) bs (go_tuples given gs x) ≡ finish (begun 7 n given gs ts x) bs
  unfolding read_tuples finish_by rest_after row_of
  tuple_comes n = refl

  -- a stream's head: the one stage of version 1, or the deadline of version 2
  first_head : eqb x.version 1 ≡ true → d ≡ 0
      → read_stages 1 [] bs (λ hs bs₁. read_deadline bs₁ (λ due bs₂. behind_head b x hs due bs₂)) ≡ finish (begun 4 0 given gs ts x) bs
  first_head q z =
      ap (λ (t : Bool). read_stages 1 [] bs (λ hs bs₁. cond t (read_deadline bs₁ (behind_head b x hs)) (behind_head b x hs c bs₁))) (sym q)
      ∙ ap (λ (m : ℕ). read_stages (suc m) [] bs (go_stages given x)) (let k : 0 ≡ d - 0 = omega arith in k) ∙ stage_comes 0

  second_head : eqb x.version 1 ≡ false
      → read_deadline bs (λ due bs₁. field 2 bs₁ (λ n bs₂. read_stages (suc n) [] bs₂ (λ hs bs₃. behind_head b x hs due bs₃))) ≡ finish (begun 2 0 given gs ts x) bs
  unfolding read_deadline finish_by rest_after row_of
  second_head q =
      ap (λ (t : Bool). field 18 bs (λ v bs₁. in_rule (within 1 v 200000) (cond t (behind_head b x (staged given gs) v bs₁) (field 2 bs₁ (after_stages (set given 2 v) x))))) (sym q)

  opens_more : x.count < b → (x.version ≡ 1 → d ≡ 0) → read_streams x.version (b - x.count) (streams_of x) bs ≡ finish (begun (behind_of x.version 1) 0 given gs ts x) bs
  unfolding read_streams read_stream read_head behind_of
  opens_more k s =
      ap (λ (m : ℕ). read_streams x.version m (streams_of x) bs) (let q : b - x.count ≡ suc (b - suc x.count) = omega arith in q)
      ∙ by_version x bs _ _ 0 given gs ts 1 2 (λ q. first_head q (s (eqb-true x.version 1 q))) second_head

  opens_none : b ≤ x.count → Holds 16 no_stream x.count x.streams → read_streams x.version (b - x.count) (streams_of x) bs ≡ finish (begun 9 0 given gs ts x) bs
  unfolding read_streams read_end finish_by row_of
  opens_none k t =
      ap (λ (m : ℕ). read_streams x.version m (streams_of x) bs) (let q : b - x.count ≡ 0 = omega arith in q)
      ∙ ap₂ (λ (y : Set) (n : ℕ). cond (ltb n 8 && list_all is_zero bs) (record { answer = Ok tt; set = y }) (no_set Leftover)) (tidy_set x t) (sym (zero-add (length bs)))

  opens : (x.version ≡ 1 → d ≡ 0) → Holds 16 no_stream x.count x.streams → read_streams x.version (b - x.count) (streams_of x) bs ≡ finish (begun (opened_of x.version x.count b) 0 given gs ts x) bs
  unfolding opened_of
  opens s t =
      by_test (ltb x.count b)
      (λ q. opens_more (ltb-true x.count b q) s ∙ ap (λ (t : Bool). finish (begun (cond t (behind_of x.version 1) 9) 0 given gs ts x) bs) (sym q))
      (λ q. opens_none (ltb-false x.count b q) t ∙ ap (λ (t : Bool). finish (begun (cond t (behind_of x.version 1) 9) 0 given gs ts x) bs) (sym q))

-- ---- behind a cost

module _ (a b c d e f g h i n : ℕ) (gs : List Stage) (ts : List TuplePlace) (x : Set) (v : ℕ) (bs : List ℕ) where
  abbrev costed : List ℕ
  costed = a ∷ b ∷ c ∷ d ∷ e ∷ f ∷ g ∷ h ∷ i ∷ []

  abbrev staged_on : List ℕ
  staged_on = a ∷ b ∷ c ∷ d ∷ 0 ∷ f ∷ g ∷ h ∷ i ∷ []

  module _ (k : KeptAt 5 n costed gs ts x) where
    few_stages : n ≤ d
    unfolding most_whole
    few_stages = k.most

    more_stages : take (n + 1) (staged_in n costed gs v) ≡ take n gs ++ (stage_in e v ∷ [])
    unfolding stages_whole
    more_stages = taken_more 4 no_stage n gs k.stages (stage_in e v) (omega (arith, few_stages, k.deep))

    next_stage_lem : n < d → read_stages (d - n) (take n gs ++ (stage_in e v ∷ [])) bs (go_stages costed x) ≡ finish (next_stage n costed gs ts x v) bs
    unfolding next_stage
    next_stage_lem l =
        ap₂ (λ (m : ℕ) (hs : List Stage). read_stages m hs bs (go_stages costed x)) (let q : d - n ≡ suc (d - (n + 1)) = omega arith in q) (sym more_stages)
        ∙ stage_comes a b c d 0 f g h i (staged_in n costed gs v) ts x bs (n + 1)

    -- all stages are whole: the deadline of version 1, or the tuples less one
    last_stage_lem : d ≤ n → read_stages (d - n) (take n gs ++ (stage_in e v ∷ [])) bs (go_stages costed x) ≡ finish (last_stage n costed gs ts x v) bs
    unfolding last_stage read_stages read_deadline behind_of finish_by rest_after row_of
    last_stage_lem l =
        let hs : List Stage = staged_in n costed gs v in
        ap₂ (λ (m : ℕ) (us : List Stage). read_stages m us bs (go_stages costed x)) (let q : d - n ≡ 0 = omega arith in q)
        (sym more_stages ∙ ap (λ (j : ℕ). take (j + 1) hs) (let q : n ≡ d = omega (arith, few_stages) in q))
        ∙ by_version x bs (read_deadline bs (behind_head b x (take (d + 1) hs))) (behind_head b x (take (d + 1) hs) c bs) 0 staged_on hs ts 5 6
        (λ q. ap (λ (t : Bool). field 18 bs (λ u bs₁. in_rule (within 1 u 200000) (cond t (behind_head b x (take (d + 1) hs) u bs₁) (field 2 bs₁ (after_stages (set staged_on 2 u) x))))) (sym q)) (λ q. refl)

    behind_cost_lem : read_stages (d - n) (take n gs ++ (stage_in e v ∷ [])) bs (go_stages costed x) ≡ finish (behind_cost n costed gs ts x v) bs
    behind_cost_lem =
        by_test (ltb n d) (λ q. next_stage_lem (ltb-true n d q) ∙ ap (λ (t : Bool). finish (cond t (next_stage n costed gs ts x v) (last_stage n costed gs ts x v)) bs) (sym q))
        (λ q. last_stage_lem (ltb-false n d q) ∙ ap (λ (t : Bool). finish (cond t (next_stage n costed gs ts x v) (last_stage n costed gs ts x v)) bs) (sym q))

-- ---- behind an offset

module _ (a b c d e f g h i n : ℕ) (gs : List Stage) (ts : List TuplePlace) (x : Set) (v : ℕ) (bs : List ℕ) where
  abbrev read : List ℕ
  read = a ∷ b ∷ c ∷ d ∷ e ∷ f ∷ g ∷ h ∷ i ∷ []

  abbrev one : TuplePlace
  one = tuple_of h v

  module _ (k : KeptAt 8 n read gs ts x) where
    few_tuples : n ≤ g
    unfolding most_whole
    few_tuples = k.most

    placed : Holds 4 no_tuple n ts
    unfolding tuples_whole
    placed = k.tuples

    more_tuples : take (n + 1) (placed_in n read ts v) ≡ take n ts ++ (one ∷ [])
    more_tuples = taken_more 4 no_tuple n ts placed one (omega (arith, few_tuples, k.four))

    high_later : greatest_of 8 (n + 1) ≡ 100000
    unfolding greatest_of row_of
    high_later = ap (λ (t : Bool). cond t 0 100000) (ne_eqb (n + 1) 0 (λ q. omega arith))

    next_tuple_lem : n < g → read_tuples (g - n) v 100000 (take n ts ++ (one ∷ [])) bs (go_tuples read gs x) ≡ finish (next_tuple n read gs ts x v) bs
    unfolding next_tuple
    next_tuple_lem l =
        ap₂ (λ (m : ℕ) (ps : List TuplePlace). read_tuples m v 100000 ps bs (go_tuples read gs x)) (let q : g - n ≡ suc (g - (n + 1)) = omega arith in q) (sym more_tuples)
        ∙ ap (λ (u : ℕ). read_tuples (suc (g - (n + 1))) v u (take (n + 1) (placed_in n read ts v)) bs (go_tuples read gs x)) (sym high_later)
        ∙ tuple_comes a b c d e f g 0 v gs (placed_in n read ts v) x bs (n + 1)

    whole : stream_of (take (d + 1) gs) c (take n ts ++ (one ∷ [])) ≡ stream_in read gs (n + 1) (placed_in n read ts v)
    unfolding stages_whole
    whole =
        ap (stream_of (take (d + 1) gs) c) (sym more_tuples)
        ∙ tidy_stream (d + 1) c (n + 1) gs (placed_in n read ts v) k.stages (holds_more 4 no_tuple n ts placed one (omega (arith, few_tuples, k.four)))

    next_stream_lem : g ≤ n → read_tuples (g - n) v 100000 (take n ts ++ (one ∷ [])) bs (go_tuples read gs x) ≡ finish (next_stream n read gs ts x v) bs
    unfolding read_tuples next_stream
    next_stream_lem l =
        let s : Stream = stream_in read gs (n + 1) (placed_in n read ts v) in
        let r : x.count < b = k.room (omega arith) (omega arith) in
        ap (λ (m : ℕ). read_tuples m v 100000 (take n ts ++ (one ∷ [])) bs (go_tuples read gs x)) (let q : g - n ≡ 0 = omega arith in q)
        ∙ ap₂ (λ (m : ℕ) (ss : List Stream). read_streams x.version m ss bs) (let q : b - suc x.count ≡ b - (x.count + 1) = omega arith in q)
        (ap (λ (y : Stream). streams_of x ++ (y ∷ [])) whole ∙ sym (taken_more 16 no_stream x.count x.streams k.streams s (omega (arith, k.sixteen))))
        ∙ opens 0 b 0 0 0 0 0 0 0 no_stages no_tuples (with_stream x s) bs (λ _. refl)
        (holds_more 16 no_stream x.count x.streams k.streams s (omega (arith, k.sixteen)))

    behind_offset_lem : read_tuples (g - n) v 100000 (take n ts ++ (one ∷ [])) bs (go_tuples read gs x) ≡ finish (behind_offset n read gs ts x v) bs
    behind_offset_lem =
        by_test (ltb n g) (λ q. next_tuple_lem (ltb-true n g q) ∙ ap (λ (t : Bool). finish (cond t (next_tuple n read gs ts x v) (next_stream n read gs ts x v)) bs) (sym q))
        (λ q. next_stream_lem (ltb-false n g q) ∙ ap (λ (t : Bool). finish (cond t (next_tuple n read gs ts x v) (next_stream n read gs ts x v)) bs) (sym q))

-- ---- one field more, of nine values that were read

module _ (a b c d e f g h i n : ℕ) (gs : List Stage) (ts : List TuplePlace) (x : Set) (v : ℕ) (bs : List ℕ) where
  abbrev vs : List ℕ
  vs = a ∷ b ∷ c ∷ d ∷ e ∷ f ∷ g ∷ h ∷ i ∷ []

  abbrev Law : ℕ → Type 0
  Law r = KeptAt r n vs gs ts x → v < 2 ^ width_of r → rest_after r n vs gs ts x v bs ≡ finish (next_of r n vs gs ts x v) bs

  law_version : Law 0
  unfolding next_of goes_on behind_version in_rule_of least_of greatest_of refusal_of refused_of finish_by rest_after row_of why_of
  law_version k w = judged bs (within 1 v 2) _ _ (behind_version n vs gs ts x v) (refused_of 17) (λ e. refl) refl

  count_opens : KeptAt 1 n vs gs ts x → read_streams x.version v [] bs ≡ finish (begun (opened_of x.version 0 v) n (set vs 1 v) gs ts x) bs
  unfolding most_whole
  count_opens k =
      let z : x.count ≡ 0 = k.front (omega arith) in
      let w : 0 ≡ n = omega (arith, k.most) in
      ap (λ (m : ℕ). read_streams x.version m [] bs) (let q : v ≡ v - 0 = omega arith in q)
      ∙ ap (λ (j : ℕ). read_streams x.version (v - j) (take j x.streams) bs) (sym z)
      ∙ opens a v c d e f g h i gs ts x bs k.single k.streams
      ∙ ap₂ (λ (j m : ℕ). finish (begun (opened_of x.version j v) m (set vs 1 v) gs ts x) bs) z w

  law_count : Law 1
  unfolding next_of goes_on in_rule_of least_of greatest_of next_field following_of refusal_of refused_of finish_by rest_after row_of why_of
  law_count k w =
      ap (λ (t : Bool). in_rule t (read_streams x.version v [] bs)) (sym (within_zero v 16))
      ∙ judged bs (within 0 v 16) _ _ (next_field 1 n vs gs ts x v) (refused_of 18) (λ e. count_opens k) refl

  law_deadline : Law 2
  unfolding next_of goes_on in_rule_of least_of greatest_of next_field following_of behind_of refusal_of refused_of finish_by rest_after row_of why_of
  law_deadline k w =
      judged bs (within 1 v 200000) _ _ (next_field 2 n vs gs ts x v) (refused_of 18) (λ e. by_version x bs _ _ n (set vs 2 v) gs ts 2 3 (λ q. refl) (λ q. refl)) refl

  -- behind a field that comes next in either version
  next_is : (r : ℕ) (u : ReadResult) → get_or first_order r (r + 1) ≡ r + 1 → get_or second_order r (r + 1) ≡ r + 1 → u ≡ finish (begun (r + 1) n (set vs r v) gs ts x) bs → u ≡ finish (begun (behind_of x.version r) n (set vs r v) gs ts x) bs
  next_is r u p q s = s ∙ ap (λ (j : ℕ). finish (begun j n (set vs r v) gs ts x) bs) (sym (same_order r p q x.version))

  -- the first stage
  stages_come : KeptAt 3 n vs gs ts x → after_stages vs x v bs ≡ finish (begun 4 n (set vs 3 v) gs ts x) bs
  unfolding most_whole
  stages_come k =
      let z : 0 ≡ n = omega (arith, k.most) in
      ap (λ (t : Bool). read_stages (suc v) [] bs (λ hs bs₁. cond t (read_deadline bs₁ (behind_head b x hs)) (behind_head b x hs c bs₁))) (sym (ne_eqb x.version 1 (k.later refl)))
      ∙ ap (λ (m : ℕ). read_stages (suc m) [] bs (go_stages (set vs 3 v) x)) (let q : v ≡ v - 0 = omega arith in q)
      ∙ ap (λ (m : ℕ). read_stages (suc (v - m)) (take m gs) bs (go_stages (set vs 3 v) x)) z ∙ stage_comes a b c v e f g h i gs ts x bs n

  law_stages : Law 3
  unfolding next_of goes_on in_rule_of least_of greatest_of next_field following_of refusal_of refused_of rest_after row_of
  law_stages k w =
      next_is 3 (after_stages vs x v bs) refl refl (stages_come k)
      ∙ ap (λ (t : Bool). finish (cond t (next_field 3 n vs gs ts x v) (refused_of 18)) bs) (sym (within_all v 3 (omega arith)))

  law_task : Law 4
  unfolding next_of goes_on in_rule_of least_of greatest_of next_field following_of refusal_of refused_of finish_by rest_after row_of why_of
  law_task k w =
      next_is 4 (after_task n vs gs x v bs) refl refl refl
      ∙ ap (λ (t : Bool). finish (cond t (next_field 4 n vs gs ts x v) (refused_of 18)) bs) (sym (within_all v 15 (omega arith)))

  law_cost : Law 5
  unfolding next_of goes_on in_rule_of least_of greatest_of refusal_of refused_of finish_by rest_after row_of why_of
  law_cost k w =
      judged bs (within 1 v 65535) _ _ (behind_cost n vs gs ts x v) (refused_of 18) (λ q. behind_cost_lem a b c d e f g h i n gs ts x v bs k) refl

  -- the first tuple
  tuples_come : KeptAt 6 n vs gs ts x → after_tuples vs gs x v bs ≡ finish (begun 7 n (set vs 6 v) gs ts x) bs
  unfolding greatest_of row_of most_whole tuples_whole
  tuples_come k =
      let z : 0 ≡ n = omega (arith, k.most) in
      ap₂ (λ (m u : ℕ). read_tuples (suc m) u 0 [] bs (go_tuples vs gs x)) (let q : v ≡ v - 0 = omega arith in q) (sym (k.low refl))
      ∙ ap (λ (m : ℕ). read_tuples (suc (v - m)) i (greatest_of 8 m) (take m ts) bs (go_tuples vs gs x)) z ∙ tuple_comes a b c d e f v h i gs ts x bs n

  law_tuples : Law 6
  unfolding next_of goes_on in_rule_of least_of greatest_of next_field following_of refusal_of refused_of rest_after row_of
  law_tuples k w =
      next_is 6 (after_tuples vs gs x v bs) refl refl (tuples_come k)
      ∙ ap (λ (t : Bool). finish (cond t (next_field 6 n vs gs ts x v) (refused_of 18)) bs) (sym (within_all v 3 (omega arith)))

  law_cycle : Law 7
  unfolding next_of goes_on in_rule_of least_of greatest_of next_field following_of refusal_of refused_of finish_by rest_after row_of why_of
  law_cycle k w =
      ap (λ (t : Bool). in_rule t (field 17 bs (after_offset n (set vs 7 v) gs ts x))) (sym (within_zero v 1000000))
      ∙ judged bs (within 0 v 1000000) _ _ (next_field 7 n vs gs ts x v) (refused_of 18) (λ q. next_is 7 (field 17 bs (after_offset n (set vs 7 v) gs ts x)) refl refl refl) refl

  law_offset : Law 8
  unfolding next_of goes_on in_rule_of least_of refusal_of refused_of finish_by rest_after row_of why_of
  law_offset k w =
      judged bs (within i v (greatest_of 8 n)) _ _ (behind_offset n vs gs ts x v) (refused_of 18) (λ q. behind_offset_lem a b c d e f g h i n gs ts x v bs k) refl

  law_row : (r : ℕ) → r < 9 → Law r
  law_row r l = by_value_row Law law_version law_count law_deadline law_stages law_task law_cost law_tuples law_cycle law_offset r l

after_law : (f : ℕ) → f < 9 → (n : ℕ) (vs : List ℕ) (gs : List Stage) (ts : List TuplePlace) (x : Set) (v : ℕ) (bs : List ℕ) → KeptAt f n vs gs ts x → v < 2 ^ width_of f
    → rest_after f n vs gs ts x v bs ≡ finish (next_of f n vs gs ts x v) bs
after_law f l n vs gs ts x v bs k w =
    by_values (λ (us : List ℕ). KeptAt f n us gs ts x → rest_after f n us gs ts x v bs ≡ finish (next_of f n us gs ts x v) bs)
    (λ a b c d e f' g h i q. law_row a b c d e f' g h i n gs ts x v bs f l q w) vs k.nine k

-- ---- padding

pad_cases : {A : Type 0} (e q u z : Bool) (r f : A) → (q ≡ false → u ≡ false) → cond (u && (e && z)) r f ≡ cond (e && q) (cond (u && z) r f) f
pad_cases true true u z r f h = refl
pad_cases true false true z r f h = ap (λ (b : Bool). cond (b && z) r f) (h refl)
pad_cases true false false z r f h = refl
pad_cases false q true z r f h = refl
pad_cases false q false z r f h = refl

module _ (f n : ℕ) (vs : List ℕ) (gs : List Stage) (ts : List TuplePlace) (x : Set) (b : ℕ) (bs : List ℕ) (h : 9 ≤ f) (k : f < 17) where
  pad_next : f < 16 → end_from (f + 1 - 9) x bs ≡ finish (goes_on f n vs gs ts x b) bs
  unfolding goes_on next_field following_of
  pad_next l =
      sym (finish_end (f + 1) n (set vs f b) gs ts x 0 (width_of (f + 1)) bs (omega arith) (omega arith))
      ∙ ap (λ (j : ℕ). finish (begun j n (set vs f b) gs ts x) bs) (sym (behind_padding x.version f h))
      ∙ sym (simp (ne_eqb f 8 (λ e. omega arith), ne_eqb f 5 (λ e. omega arith), ne_eqb f 0 (λ e. omega arith), ne_eqb f 1 (λ e. omega arith)))

  pad_over : no_set Leftover ≡ finish (refused_of (refusal_of f)) bs
  unfolding refusal_of refused_of finish_by why_of
  pad_over = ap₂ (λ (t u : Bool). finish (refused_of (cond t 17 (cond u 18 19))) bs) (sym (ne_eqb f 0 (λ e. omega arith))) (sym (le-ltb f 9 h))

  pads : end_from (f - 9) x (b ∷ bs) ≡ finish (next_of f n vs gs ts x b) bs
  unfolding next_of
  pads =
      pad_cases (eqb b 0) (ltb (f - 9) 7) (ltb (f - 9 + suc (length bs)) 8) (list_all is_zero bs) (record { answer = Ok tt; set = x }) (no_set Leftover)
      (λ q. le-ltb (f - 9 + suc (length bs)) 8 (omega (arith, ltb-false (f - 9) 7 q)))
      ∙ ap₂ (λ (t : Bool) (m : ℕ). cond t (cond (ltb m 8 && list_all is_zero bs) (record { answer = Ok tt; set = x }) (no_set Leftover)) (no_set Leftover))
      (sym (pad_rule f n (value_at vs 8) b h k)) (let e : f - 9 + suc (length bs) ≡ f + 1 - 9 + length bs = omega arith in e)
      ∙ judged bs (in_rule_of f n (value_at vs 8) b) _ _ (goes_on f n vs gs ts x b) (refused_of (refusal_of f))
      (λ q. pad_next (omega (arith, ltb-true (f - 9) 7 (and_parts (eqb b 0) (ltb (f - 9) 7) (sym (pad_rule f n (value_at vs 8) b h k) ∙ q)).1))) pad_over

-- ---- one bit more

part_more : (a l b : ℕ) (bs : List ℕ) (next : ℕ → List ℕ → ReadResult) → part a (suc (suc l)) (b ∷ bs) next ≡ part (a * 2 + b) (suc l) bs next
unfolding onto
part_more a l b bs next = ap (λ (c : Bool). cond c (next (onto (a * 2 + b) (take (suc l) bs)) (drop (suc l) bs)) (no_set BitsMissing)) (leb-suc-suc (suc l) (length bs))

part_last : (a b : ℕ) (bs : List ℕ) (next : ℕ → List ℕ → ReadResult) → part a 1 (b ∷ bs) next ≡ next (a * 2 + b) bs
unfolding onto
part_last a b bs next = ap (λ (c : Bool). cond c (next (a * 2 + b) bs) (no_set BitsMissing)) (le-leb 1 (suc (length bs)) (omega arith))

part_none : (a l : ℕ) (next : ℕ → List ℕ → ReadResult) → 0 < l → part a l [] next ≡ no_set BitsMissing
part_none a l next h = simp (lt-leb l 0 h)

-- by where the field stands in the table
by_place : {A : Type 0} (f : ℕ) → (f < 9 → A) → (9 ≤ f → f < 17 → A) → (17 ≤ f → A) → A
by_place f a b c =
    by_test (ltb f 9) (λ e. a (ltb-true f 9 e)) (λ e. by_test (ltb f 17) (λ q. b (ltb-false f 9 e) (ltb-true f 17 q)) (λ q. c (ltb-false f 17 q)))

module _ (f n : ℕ) (vs : List ℕ) (gs : List Stage) (ts : List TuplePlace) (x : Set) where
  finish_step : (l a b : ℕ) (bs : List ℕ) → Kept (reading f n vs gs ts x a l) → b < 2 → finish_by f n vs gs ts x a l (b ∷ bs) ≡ finish (step_by l f n vs gs ts x a b) bs
  finish_step zero a b bs k h =
      by_test (ltb f 17) (λ e. absurd (omega (arith, k.some (width_some f (ltb-true f 17 e)))))
      (λ e. finish_refused f n vs gs ts x a 0 (b ∷ bs) (ltb-false f 17 e) ∙ sym (finish_refused f n vs gs ts x a 0 bs (ltb-false f 17 e)))
  finish_step (suc zero) a b bs k h =
      by_place f
      (λ u. finish_value f n vs gs ts x a 1 (b ∷ bs) u ∙ part_last a b bs (rest_after f n vs gs ts x)
      ∙ after_law f u n vs gs ts x (a * 2 + b) bs k.at (value_fits f a b k.left k.came h))
      (λ u w. finish_end f n vs gs ts x a 1 (b ∷ bs) u w ∙ pads f n vs gs ts x b bs u w
      ∙ ap (λ (v : ℕ). finish (next_of f n vs gs ts x v) bs) (let e : b ≡ a * 2 + b = omega (arith, k.came, k.left, width_pad f u, ap (λ (i : ℕ). 2 ^ i) (let q : width_of f - 1 ≡ 0 = omega (arith, width_pad f u) in q)) in e))
      (λ u. absurd (omega (arith, k.left, width_none f u)))
  finish_step (suc (suc l)) a b bs k h =
      by_place f
      (λ u. finish_value f n vs gs ts x a (suc (suc l)) (b ∷ bs) u ∙ part_more a l b bs (rest_after f n vs gs ts x) ∙ sym (finish_value f n vs gs ts x (a * 2 + b) (suc l) bs u))
      (λ u w. absurd (omega (arith, k.left, width_pad f u))) (λ u. absurd (omega (arith, k.left, width_none f u)))

  finish_none : (a l : ℕ) → Kept (reading f n vs gs ts x a l) → finish_by f n vs gs ts x a l [] ≡ close_of (reading f n vs gs ts x a l)
  unfolding close_of answer_of
  finish_none a l k =
      by_place f
      (λ u. finish_value f n vs gs ts x a l [] u ∙ part_none a l (rest_after f n vs gs ts x) (k.some (width_some f (omega arith))) ∙ sym (simp (lt-ltb f 9 u)))
      (λ u w. finish_end f n vs gs ts x a l [] u w ∙ simp (lt-ltb (f - 9 + 0) 8 (omega arith)) (sym (simp (le-ltb f 9 u, lt-ltb f 17 w))))
      (λ u. finish_refused f n vs gs ts x a l [] u ∙ sym (simp (le-ltb f 9 (omega arith), le-ltb f 17 u)))

-- the machine reads on as the definition does
finishes : (c : Carried) (bs : List ℕ) → Kept c → AreBits bs → finish c bs ≡ close_of (run c bs)
unfolding run step_of
finishes c [] k h = finish_none c.point.row c.point.whole c.values c.stages c.places c.set c.point.acc c.point.left k
finishes c (b ∷ bs) k h =
    finish_step c.point.row c.point.whole c.values c.stages c.places c.set c.point.left c.point.acc b bs k h.0
    ∙ finishes (step_of c b) bs (kept_step c b k h.0) h.1

-- "Reading goes field by field": what the reader closes with is what the sheet reads as
pub by_field_lem : (s : List ℕ) → close_of (run start_of (bits s)) ≡ read_of s
unfolding read_of read_bits finish_by rest_after row_of
by_field_lem s = sym (finishes start_of (bits s) kept_start (bits_bits s))
