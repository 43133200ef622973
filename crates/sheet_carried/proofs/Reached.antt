-- Bits that lead to a state: field by field, stage by stage, tuple by tuple, stream by stream. One argument for both versions; only the order of a
-- stream's head differs.
-- Assumes nothing.
use Prim.Native.Nat.{ℕ, suc, ◌+◌, ◌-◌, ◌*◌, ◌^◌, ◌≤◌, ◌<◌}
use mathlib.Core.List.{List, [], ◌∷◌, ◌++◌, append-nil}
use mathlib.Core.Path.{◌≡◌, refl, sym, ap, ap₂, ◌∙◌, subst}
use mathlib.Core.Bool.{Bool, true, cond}
use native.Mathlib.Omega.{arith}
use lib.ListN.{length, set, replicate, length-append}
use lib.Seq.{append_snoc, set_at}
use borrow.Author.Tests.{lt-ltb, le-ltb, ne_eqb}
use Rattle.laws.specs.Lists.{All, within}
use Rattle.laws.specs.Bits.{to_bits}
use Rattle.laws.proofs.Fields.{AreBits, IsBit, all_append, field_back, to_bits_bits, to_bits_length}
use Rattle.rules.specs.declared.Tuple.{Tuple}
use Rattle.rules.specs.declared.Tuple.TheVariants.{Once, Every}
use Rattle.rules.specs.declared.TuplePlace.{TuplePlace}
use Rattle.rules.specs.declared.Stage.{Stage}
use Rattle.rules.specs.declared.Set.{Set}
use Rattle.rules.specs.Streams.{no_stage, no_tuple, offset, offset_at}
use Rattle.rules.specs.Sheet.{stream_of, tuple_of}
use Rattle.rules.specs.Valid.{Between, ValidCycle, ValidPlace, ValidStage}
use Rattle.sheet_carried.specs.declared.Carried.{Carried}
use Rattle.sheet_carried.specs.Table.{behind_of, following_of, greatest_of, in_rule_of, least_of, opened_of, row_of, width_of}
use Rattle.sheet_carried.specs.Reader.{begun, goes_on, last_stage, next_field, next_of, next_stage, next_stream, next_tuple, no_stages, no_tuples, reading, run, start_of, value_at, with_stream}
use Rattle.sheet_carried.specs.Left.{last_of}
use Rattle.sheet_carried.proofs.Streams.{Chain, within_is}
use Rattle.sheet_carried.proofs.Chains.{last_snoc, top_is, top_snoc, top_of}
use Rattle.sheet_carried.proofs.Rows.{same_order, within_all}
use Rattle.sheet_carried.proofs.Chunks.{run_append, run_part, run_whole}

-- k bits lead from the start to c
pub record Reached (c : Carried) (k : ℕ) : Type 0 where
  pub came : List ℕ
  pub are : AreBits came
  pub leads : run start_of came ≡ c
  pub long : length came ≡ k

pub reach_start : Reached start_of 0
unfolding run
reach_start = record { came = []; are = tt; leads = refl; long = refl }

pub reach_as : {c d : Carried} {k j : ℕ} → c ≡ d → k ≡ j → Reached c k → Reached d j
reach_as e h r = record { came = r.came; are = r.are; leads = r.leads ∙ e; long = r.long ∙ h }

reach_run : (c : Carried) (k : ℕ) (bs : List ℕ) → AreBits bs → Reached c k → Reached (run c bs) (k + length bs)
reach_run c k bs b r =
    record {
      came = r.came ++ bs;
      are = all_append IsBit r.came bs r.are b;
      leads = run_append start_of r.came bs ∙ ap (λ (d : Carried). run d bs) r.leads;
      long = length-append r.came bs ∙ ap (λ (n : ℕ). n + length bs) r.long;
    }

-- ---- a field

module _ (f n : ℕ) (vs : List ℕ) (gs : List Stage) (ts : List TuplePlace) (x : Set) {k : ℕ} (r : Reached (begun f n vs gs ts x) k) where
  reach_next : (v : ℕ) → 0 < width_of f → v < 2 ^ width_of f → Reached (next_of f n vs gs ts x v) (k + width_of f)
  unfolding run
  reach_next v s h =
      let w : ℕ = width_of f in
      reach_as
      (ap (run (begun f n vs gs ts x)) (sym (append-nil (to_bits w v))) ∙ run_whole f n vs gs ts x 0 w (to_bits w v) [] (to_bits_length w v) s
      ∙ ap (next_of f n vs gs ts x) (field_back w v h))
      (ap (λ (j : ℕ). k + j) (to_bits_length w v))
      (reach_run (begun f n vs gs ts x) k (to_bits w v) (to_bits_bits w v) r)

  -- its value is in its rule
  pub reach_on : (v : ℕ) → 0 < width_of f → v < 2 ^ width_of f → in_rule_of f n (value_at vs 8) v ≡ true → Reached (goes_on f n vs gs ts x v) (k + width_of f)
  unfolding next_of
  reach_on v s h e = reach_as (simp e) refl (reach_next v s h)

  -- some bits of it
  pub reach_part : (a l : ℕ) → 0 < l → l ≤ width_of f → a < 2 ^ (width_of f - l) → Reached (reading f n vs gs ts x a l) (k + (width_of f - l))
  reach_part a l s h u =
      let w : ℕ = width_of f in
      let bs : List ℕ = to_bits (w - l) a in
      let e : length bs ≡ w - l = to_bits_length (w - l) a in
      reach_as
      (run_part f n vs gs ts x 0 w bs (omega arith)
      ∙ ap₂ (reading f n vs gs ts x) (field_back (w - l) a u) (let q : w - length bs ≡ l = omega arith in q))
      (ap (λ (j : ℕ). k + j) e)
      (reach_run (begun f n vs gs ts x) k bs (to_bits_bits (w - l) a) r)

-- ---- places of which the first are in use

abbrev pub padded : {A : Type 0} → ℕ → A → List A → List A
padded N none l = l ++ replicate (N - length l) none

pub snoc_length : {A : Type 0} (l : List A) (a : A) → length (l ++ (a ∷ [])) ≡ length l + 1
snoc_length l a = length-append l (a ∷ [])

pub set_padded : {A : Type 0} (N : ℕ) (none : A) (l : List A) (a : A) → length l < N → set (padded N none l) (length l) a ≡ padded N none (l ++ (a ∷ []))
set_padded {A} N none l a h =
    let r : List A = replicate (N - (length l + 1)) none in
    ap (λ (j : ℕ). set (l ++ replicate j none) (length l) a) (let e : N - length l ≡ suc (N - (length l + 1)) = omega arith in e)
    ∙ set_at l none r a (length l) refl ∙ sym (append_snoc l a r)
    ∙ ap (λ (j : ℕ). (l ++ (a ∷ [])) ++ replicate (N - j) none) (sym (snoc_length l a))

-- ---- a stream that is being read

-- the values of the fields, each in its place
abbrev pub vals : ℕ → ℕ → ℕ → ℕ → ℕ → ℕ → ℕ → List ℕ
vals N d s t m z low = 0 ∷ N ∷ d ∷ s ∷ t ∷ 0 ∷ m ∷ z ∷ low ∷ []

-- "cycle (20, 0 for once)"
abbrev pub cycle_in : Tuple → ℕ
cycle_in (Once a) = 0
cycle_in (Every z a) = z

cycle_few : (t : Tuple) → ValidCycle t → cycle_in t ≤ 1000000
cycle_few (Once a) v = omega arith
cycle_few (Every z a) v = v.high

tuple_again : (t : Tuple) → ValidCycle t → tuple_of (cycle_in t) (offset t) ≡ record { tuple = t }
tuple_again (Once a) v = refl
tuple_again (Every z a) v = ap (λ (b : Bool). record { tuple = cond b (Once a) (Every z a) }) (ne_eqb z 0 (λ e. omega (arith, v.low)))

module _ (N : ℕ) (x : Set) where
  -- before the field f of a stream, behind n stages or tuples
  abbrev pub At : ℕ → ℕ → ℕ → ℕ → ℕ → ℕ → ℕ → ℕ → List Stage → List TuplePlace → Carried
  At f n d s t m z low gs ts = begun f n (vals N d s t m z low) (padded 4 no_stage gs) (padded 4 no_tuple ts) x

  module _ (d s : ℕ) (few : s ≤ 3) (gs : List Stage) {k : ℕ} (r : Reached (At 4 (length gs) d s 0 0 0 0 gs []) k) where
    pub reach_task : (t : ℕ) → t ≤ 15 → Reached (At 5 (length gs) d s t 0 0 0 gs []) (k + 4)
    unfolding goes_on next_field following_of in_rule_of least_of greatest_of row_of
    reach_task t h =
        subst (λ (f : ℕ). Reached (At f (length gs) d s t 0 0 0 gs []) (k + 4)) (same_order 4 refl refl x.version)
        (reach_on 4 (length gs) (vals N d s 0 0 0 0) (padded 4 no_stage gs) no_tuples x r t (omega arith) (omega arith) (within_all t 15 h))

    module _ (g : Stage) (v : ValidStage g) where
      abbrev more : List Stage
      more = gs ++ (g ∷ [])

      stage_on : length gs < 4 → Reached (goes_on 5 (length gs) (vals N d s g.task 0 0 0) (padded 4 no_stage gs) no_tuples x g.cost) (k + 20)
      unfolding in_rule_of least_of greatest_of row_of
      stage_on h =
          reach_as refl (let e : k + 4 + 16 ≡ k + 20 = omega arith in e)
          (reach_on 5 (length gs) (vals N d s g.task 0 0 0) (padded 4 no_stage gs) no_tuples x (reach_task g.task v.task) g.cost (omega arith)
          (omega (arith, v.cost.high)) (within_is 1 g.cost 65535 v.cost.low v.cost.high))

      pub reach_stage : length gs < s → Reached (At 4 (length more) d s 0 0 0 0 more []) (k + 20)
      unfolding goes_on next_stage
      reach_stage h =
          reach_as
          (ap (λ (b : Bool). cond b (next_stage (length gs) (vals N d s g.task 0 0 0) (padded 4 no_stage gs) no_tuples x g.cost) (last_stage (length gs) (vals N d s g.task 0 0 0) (padded 4 no_stage gs) no_tuples x g.cost)) (lt-ltb (length gs) s h)
          ∙ ap₂ (λ (n : ℕ) (l : List Stage). begun 4 n (vals N d s 0 0 0 0) l no_tuples x) (sym (snoc_length gs g)) (set_padded 4 no_stage gs g (omega arith)))
          refl (stage_on (omega arith))

      pub reach_staged : length gs ≡ s → Reached (At (behind_of x.version 5) 0 d s 0 0 0 0 more []) (k + 20)
      unfolding goes_on last_stage
      reach_staged h =
          reach_as
          (ap (λ (b : Bool). cond b (next_stage (length gs) (vals N d s g.task 0 0 0) (padded 4 no_stage gs) no_tuples x g.cost) (last_stage (length gs) (vals N d s g.task 0 0 0) (padded 4 no_stage gs) no_tuples x g.cost)) (le-ltb (length gs) s (omega arith))
          ∙ ap (λ (l : List Stage). begun (behind_of x.version 5) 0 (vals N d s 0 0 0 0) l no_tuples x) (set_padded 4 no_stage gs g (omega arith)))
          refl (stage_on (omega arith))

  -- some stages more, and others to come
  pub reach_stages : (d s : ℕ) → s ≤ 3 → (hs gs : List Stage) → All ValidStage hs → length gs + length hs ≤ s → {k : ℕ} → Reached (At 4 (length gs) d s 0 0 0 0 gs []) k
      → Reached (At 4 (length (gs ++ hs)) d s 0 0 0 0 (gs ++ hs) []) (k + 20 * length hs)
  reach_stages d s few [] gs v h r = reach_as (ap (λ (l : List Stage). At 4 (length l) d s 0 0 0 0 l []) (sym (append-nil gs))) (omega arith) r
  reach_stages d s few (g ∷ hs) gs v h {k} r =
      reach_as (ap (λ (l : List Stage). At 4 (length l) d s 0 0 0 0 l []) (append_snoc gs g hs)) (let e : k + 20 + 20 * length hs ≡ k + 20 * suc (length hs) = omega arith in e)
      (reach_stages d s few hs (gs ++ (g ∷ [])) v.1 (omega (arith, snoc_length gs g)) (reach_stage d s few gs r g v.0 (omega arith)))

  module _ (d : ℕ) (date : Between 1 d 200000) where
    -- the deadline
    pub reach_dated : (gs : List Stage) {k : ℕ} → Reached (At 2 0 0 0 0 0 0 0 gs []) k → Reached (At (behind_of x.version 2) 0 d 0 0 0 0 0 gs []) (k + 18)
    unfolding goes_on next_field following_of in_rule_of least_of greatest_of row_of
    reach_dated gs r =
        reach_on 2 0 (vals N 0 0 0 0 0 0) (padded 4 no_stage gs) no_tuples x r d (omega arith) (omega (arith, date.high)) (within_is 1 d 200000 date.low date.high)

  -- stages less one
  pub reach_deep : (d s : ℕ) → s ≤ 3 → {k : ℕ} → Reached (At 3 0 d 0 0 0 0 0 [] []) k → Reached (At 4 0 d s 0 0 0 0 [] []) (k + 2)
  unfolding goes_on next_field following_of in_rule_of least_of greatest_of row_of
  reach_deep d s few {k} r =
      subst (λ (f : ℕ). Reached (At f 0 d s 0 0 0 0 [] []) (k + 2)) (same_order 3 refl refl x.version)
      (reach_on 3 0 (vals N d 0 0 0 0 0) no_stages no_tuples x r s (omega arith) (omega arith) (within_all s 3 few))

  module _ (d s : ℕ) (gs : List Stage) where
    -- tuples less one
    pub reach_limited : (m : ℕ) → m ≤ 3 → {k : ℕ} → Reached (At 6 0 d s 0 0 0 0 gs []) k → Reached (At 7 0 d s 0 m 0 0 gs []) (k + 2)
    unfolding goes_on next_field following_of in_rule_of least_of greatest_of row_of
    reach_limited m few {k} r =
        subst (λ (f : ℕ). Reached (At f 0 d s 0 m 0 0 gs []) (k + 2)) (same_order 6 refl refl x.version)
        (reach_on 6 0 (vals N d s 0 0 0 0) (padded 4 no_stage gs) no_tuples x r m (omega arith) (omega arith) (within_all m 3 few))

    module _ (m : ℕ) (few : m ≤ 3) (ps : List TuplePlace) {k : ℕ} (r : Reached (At 7 (length ps) d s 0 m 0 (last_of 0 ps) gs ps) k) where
      pub reach_cycle : (z : ℕ) → z ≤ 1000000 → Reached (At 8 (length ps) d s 0 m z (last_of 0 ps) gs ps) (k + 20)
      unfolding goes_on next_field following_of in_rule_of least_of greatest_of row_of
      reach_cycle z h =
          subst (λ (f : ℕ). Reached (At f (length ps) d s 0 m z (last_of 0 ps) gs ps) (k + 20)) (same_order 7 refl refl x.version)
          (reach_on 7 (length ps) (vals N d s 0 m 0 (last_of 0 ps)) (padded 4 no_stage gs) (padded 4 no_tuple ps) x r z (omega arith) (omega arith) (within_all z 1000000 h))

      module _ (p : TuplePlace) (w : within (last_of 0 ps) (offset_at p) (top_of 0 ps) ≡ true) (v : ValidPlace p) where
        abbrev z : ℕ
        z = cycle_in p.tuple

        abbrev next : List TuplePlace
        next = ps ++ (p ∷ [])

        tuple_on : Reached (goes_on 8 (length ps) (vals N d s 0 m z (last_of 0 ps)) (padded 4 no_stage gs) (padded 4 no_tuple ps) x (offset_at p)) (k + 37)
        unfolding in_rule_of least_of row_of
        tuple_on =
            reach_as refl (let e : k + 20 + 17 ≡ k + 37 = omega arith in e)
            (reach_on 8 (length ps) (vals N d s 0 m z (last_of 0 ps)) (padded 4 no_stage gs) (padded 4 no_tuple ps) x (reach_cycle z (cycle_few p.tuple v.cycle)) (offset_at p) (omega arith)
            (omega (arith, v.offset)) (ap (within (last_of 0 ps) (offset_at p)) (top_is ps) ∙ w))

        placed_more : length ps < 4 → set (padded 4 no_tuple ps) (length ps) (tuple_of z (offset_at p)) ≡ padded 4 no_tuple next
        placed_more h = ap (set (padded 4 no_tuple ps) (length ps)) (tuple_again p.tuple v.cycle) ∙ set_padded 4 no_tuple ps p h

        pub reach_tuple : length ps < m → Reached (At 7 (length next) d s 0 m 0 (last_of 0 next) gs next) (k + 37)
        unfolding goes_on next_tuple
        reach_tuple h =
            reach_as
            (ap (λ (b : Bool). cond b (next_tuple (length ps) (vals N d s 0 m z (last_of 0 ps)) (padded 4 no_stage gs) (padded 4 no_tuple ps) x (offset_at p)) (next_stream (length ps) (vals N d s 0 m z (last_of 0 ps)) (padded 4 no_stage gs) (padded 4 no_tuple ps) x (offset_at p))) (lt-ltb (length ps) m h)
            ∙ ap₂ (λ (n : ℕ) (l : List TuplePlace). begun 7 n (vals N d s 0 m 0 (offset_at p)) (padded 4 no_stage gs) l x) (sym (snoc_length ps p)) (placed_more (omega arith))
            ∙ ap (λ (a : ℕ). At 7 (length next) d s 0 m 0 a gs next) (sym (last_snoc 0 ps p)))
            refl tuple_on

        -- the stream is whole
        pub reach_last : length ps ≡ m → length gs ≡ s + 1
            → Reached (begun (opened_of x.version (x.count + 1) N) 0 (vals N 0 0 0 0 0 0) no_stages no_tuples (with_stream x (stream_of gs d next))) (k + 37)
        unfolding goes_on next_stream
        reach_last h e =
            reach_as
            (ap (λ (b : Bool). cond b (next_tuple (length ps) (vals N d s 0 m z (last_of 0 ps)) (padded 4 no_stage gs) (padded 4 no_tuple ps) x (offset_at p)) (next_stream (length ps) (vals N d s 0 m z (last_of 0 ps)) (padded 4 no_stage gs) (padded 4 no_tuple ps) x (offset_at p))) (le-ltb (length ps) m (omega arith))
            ∙ ap₂ (λ (j : ℕ) (l : List TuplePlace). begun (opened_of x.version (x.count + 1) N) 0 (vals N 0 0 0 0 0 0) no_stages no_tuples (with_stream x (record { depth = s + 1; stages = padded 4 no_stage gs; deadline = d; count = j; tuples = l }))) (sym (snoc_length ps p)) (placed_more (omega arith))
            ∙ ap (λ (j : ℕ). begun (opened_of x.version (x.count + 1) N) 0 (vals N 0 0 0 0 0 0) no_stages no_tuples (with_stream x (record { depth = j; stages = padded 4 no_stage gs; deadline = d; count = length next; tuples = padded 4 no_tuple next }))) (sym e))
            refl tuple_on

    -- some tuples more, and others to come
    pub reach_tuples : (m : ℕ) → m ≤ 3 → (qs ps : List TuplePlace) → Chain (last_of 0 ps) (top_of 0 ps) qs → length ps + length qs ≤ m → {k : ℕ} → Reached (At 7 (length ps) d s 0 m 0 (last_of 0 ps) gs ps) k
        → Reached (At 7 (length (ps ++ qs)) d s 0 m 0 (last_of 0 (ps ++ qs)) gs (ps ++ qs)) (k + 37 * length qs)
    reach_tuples m few [] ps c h r = reach_as (ap (λ (l : List TuplePlace). At 7 (length l) d s 0 m 0 (last_of 0 l) gs l) (sym (append-nil ps))) (omega arith) r
    reach_tuples m few (q ∷ qs) ps c h {k} r =
        reach_as (ap (λ (l : List TuplePlace). At 7 (length l) d s 0 m 0 (last_of 0 l) gs l) (append_snoc ps q qs)) (let e : k + 37 + 37 * length qs ≡ k + 37 * suc (length qs) = omega arith in e)
        (reach_tuples m few qs (ps ++ (q ∷ [])) (subst (λ (a : ℕ). Chain a (top_of 0 (ps ++ (q ∷ []))) qs) (sym (last_snoc 0 ps q)) (subst (λ (b : ℕ). Chain (offset_at q) b qs) (sym (top_snoc ps q)) c.1.1))
        (omega (arith, snoc_length ps q)) (reach_tuple m few ps r q c.0 c.1.0 (omega arith)))
