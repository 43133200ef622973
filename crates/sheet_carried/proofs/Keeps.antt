-- Every bit keeps what the reader's states keep.
-- Assumes nothing.
use Prim.Native.Nat.{ℕ, zero, suc, ◌+◌, ◌-◌, ◌*◌, ◌^◌, ◌≤◌, ◌<◌}
use mathlib.Core.List.{List, [], ◌∷◌}
use mathlib.Core.Path.{◌≡◌, refl, sym, ap, ◌∙◌, subst}
use mathlib.Core.Bool.{Bool, true, false, cond}
use native.Mathlib.Omega.{arith}
use native.Mathlib.Nat.{pow-suc}
use lib.ListN.{length, set, get_or, length-set, get_or-eq_default}
use lib.Seq.{get_or-set_other, get_or-set_same, set_out}
use lib.Dec.{eqb, ltb}
use lib.Pow.{pow_pos}
use borrow.Author.Tests.{eqb-false, eqb-true, ltb-false, ltb-true, ne_eqb}
use Rattle.laws.proofs.Sums.{by_test}
use Rattle.laws.proofs.Fields.{AreBits}
use Rattle.rules.specs.declared.Stage.{Stage}
use Rattle.rules.specs.declared.Stream.{Stream}
use Rattle.rules.specs.declared.TuplePlace.{TuplePlace}
use Rattle.rules.specs.declared.Set.{Set}
use Rattle.rules.specs.Streams.{empty_set, no_stage, no_stream, no_tuple}
use Rattle.rules.specs.Sheet.{tuple_of}
use Rattle.sheet_carried.specs.declared.Carried.{Carried}
use Rattle.sheet_carried.specs.Table.{behind_of, following_of, greatest_of, in_rule_of, first_order, opened_of, order_of, refusal_of, row_of, second_order, width_of}
use Rattle.sheet_carried.specs.Reader.{begun, behind_cost, behind_offset, behind_version, front_of, goes_on, last_stage, next_field, next_of, next_stage, next_stream, next_tuple, no_stages, no_tuples, no_values, placed_in, reading, refused_of, run, stage_in, start_of, step_by, step_of, stream_in, tupled, value_at, with_stream, with_version}
use Rattle.sheet_carried.specs.Kept.{Holds, Kept, KeptAt, most_whole, stages_whole, tuples_whole}
use Rattle.sheet_carried.proofs.Filled.{cond_elim, holds_more, holds_none}
use Rattle.sheet_carried.proofs.Rows.{behind_padding, by_value_row, by_values, refusal_row, row_some, rule_high, same_order}

pub kept_begun : (f n : ℕ) (vs : List ℕ) (gs : List Stage) (ts : List TuplePlace) (x : Set) → KeptAt f n vs gs ts x → Kept (begun f n vs gs ts x)
kept_begun f n vs gs ts x k = record { at = k; some = λ h. h; left = omega arith; came = pow_pos (width_of f - width_of f) }

-- ---- from the padding on no stream is being read

pub padding_stages : (version less f n : ℕ) → 9 ≤ f → stages_whole version less f n ≡ 0
unfolding stages_whole
padding_stages version less f n h = get_or-eq_default (0 ∷ 0 ∷ cond (eqb version 1) (less + 1) 0 ∷ 0 ∷ n ∷ n ∷ (less + 1) ∷ (less + 1) ∷ (less + 1) ∷ []) 0 {n = f} (omega arith)

pub padding_tuples : (f n : ℕ) → 9 ≤ f → tuples_whole f n ≡ 0
unfolding tuples_whole
padding_tuples f n h = get_or-eq_default (0 ∷ 0 ∷ 0 ∷ 0 ∷ 0 ∷ 0 ∷ 0 ∷ n ∷ n ∷ []) 0 {n = f} (omega arith)

pub padding_most : (f : ℕ) (vs : List ℕ) → 9 ≤ f → most_whole f vs ≡ 0
unfolding most_whole
padding_most f vs h =
    get_or-eq_default (0 ∷ 0 ∷ 0 ∷ 0 ∷ value_at vs 3 ∷ value_at vs 3 ∷ 0 ∷ value_at vs 6 ∷ value_at vs 6 ∷ []) 0 {n = f} (omega arith)

-- ---- streams come, or the padding: nothing is read yet of the stream that comes

record Opening (j m : ℕ) (vs : List ℕ) (gs : List Stage) (ts : List TuplePlace) (x : Set) : Type 0 where
  nine : length vs ≡ 9
  streams : Holds 16 no_stream x.count x.streams
  stages : Holds 4 no_stage 0 gs
  tuples : Holds 4 no_tuple 0 ts
  count : x.count ≡ j
  all : value_at vs 1 ≡ m
  fits : j ≤ m
  few : m ≤ 16
  deep : value_at vs 3 ≤ 3
  four : value_at vs 6 ≤ 3
  single : x.version ≡ 1 → value_at vs 3 ≡ 0
  low : value_at vs 8 ≡ 0

kept_open : (f j m : ℕ) (vs : List ℕ) (gs : List Stage) (ts : List TuplePlace) (x : Set) → Opening j m vs gs ts x → 2 ≤ f → f < 20 → (f ≡ 3 → ⊥) → (f < 9 → j < m)
    → stages_whole x.version (value_at vs 3) f 0 ≡ 0 → tuples_whole f 0 ≡ 0 → KeptAt f 0 vs gs ts x
kept_open f j m vs gs ts x o a b d r e q =
    record {
      row = b;
      nine = o.nine;
      streams = o.streams;
      stages = subst (λ (i : ℕ). Holds 4 no_stage i gs) (sym e) o.stages;
      tuples = subst (λ (i : ℕ). Holds 4 no_tuple i ts) (sym q) o.tuples;
      few = omega (arith, o.count, o.fits, o.few);
      sixteen = omega (arith, o.all, o.few);
      deep = o.deep;
      four = o.four;
      front = λ h. absurd (omega arith);
      room = λ h g. omega (arith, o.count, o.all, r g);
      most = omega arith;
      first = λ z. absurd (omega arith);
      single = o.single;
      later = λ z. absurd (d z);
      low = λ z. o.low;
    }

-- the first field of a stream is of no stage that is whole
open_row : (version less : ℕ) (t : Bool) → eqb version 1 ≡ t → stages_whole version less (get_or (order_of t) 1 2) 0 ≡ 0
unfolding stages_whole
open_row version less true e = refl
open_row version less false e = ap (λ (t : Bool). cond t (less + 1) 0) e

kept_opened : (j m : ℕ) (vs : List ℕ) (gs : List Stage) (ts : List TuplePlace) (x : Set) → Opening j m vs gs ts x → KeptAt (opened_of x.version j m) 0 vs gs ts x
unfolding opened_of behind_of tuples_whole
kept_opened j m vs gs ts x o =
    cond_elim (λ (f : ℕ). KeptAt f 0 vs gs ts x) (ltb j m) (behind_of x.version 1) 9
    (λ e. by_test (eqb x.version 1)
    (λ q. subst (λ (t : Bool). KeptAt (get_or (order_of t) 1 2) 0 vs gs ts x) (sym q)
    (kept_open 4 j m vs gs ts x o (omega arith) (omega arith) (λ z. omega arith) (λ _. ltb-true j m e) (open_row x.version (value_at vs 3) true q) refl))
    (λ q. subst (λ (t : Bool). KeptAt (get_or (order_of t) 1 2) 0 vs gs ts x) (sym q)
    (kept_open 2 j m vs gs ts x o (omega arith) (omega arith) (λ z. omega arith) (λ _. ltb-true j m e) (open_row x.version (value_at vs 3) false q) refl)))
    (λ e. kept_open 9 j m vs gs ts x o (omega arith) (omega arith) (λ z. omega arith) (λ h. absurd (omega arith)) (padding_stages x.version (value_at vs 3) 9 0 (omega arith)) refl)

-- ---- nothing read yet, and nothing kept

kept_none : (f : ℕ) → f < 20 → (2 ≤ f → f < 9 → ⊥) → stages_whole 1 0 f 0 ≡ 0 → tuples_whole f 0 ≡ 0 → Kept (begun f 0 no_values no_stages no_tuples empty_set)
kept_none f b r e q =
    kept_begun f 0 no_values no_stages no_tuples empty_set
    (record {
      row = b;
      nine = refl;
      streams = holds_none 16 no_stream;
      stages = subst (λ (i : ℕ). Holds 4 no_stage i no_stages) (sym e) (holds_none 4 no_stage);
      tuples = subst (λ (i : ℕ). Holds 4 no_tuple i no_tuples) (sym q) (holds_none 4 no_tuple);
      few = omega arith;
      sixteen = omega arith;
      deep = omega arith;
      four = omega arith;
      front = λ h. refl;
      room = λ h g. absurd (r h g);
      most = omega arith;
      first = λ z. refl;
      single = λ z. refl;
      later = λ z. absurd (r (omega arith) (omega arith));
      low = λ z. refl;
    })

pub kept_start : Kept start_of
unfolding stages_whole tuples_whole
kept_start = kept_none 0 (omega arith) (λ h g. omega arith) refl refl

pub kept_refused : (f : ℕ) → 17 ≤ f → f < 20 → Kept (refused_of f)
unfolding refused_of
kept_refused f a b = kept_none f b (λ h g. omega arith) (padding_stages 1 0 f 0 (omega arith)) (padding_tuples f 0 (omega arith))

-- ---- behind a padding bit comes the next row

pub goes_pad : (f n : ℕ) (vs : List ℕ) (gs : List Stage) (ts : List TuplePlace) (x : Set) (v : ℕ) → 9 ≤ f → goes_on f n vs gs ts x v ≡ begun (f + 1) n (set vs f v) gs ts x
unfolding goes_on next_field following_of
goes_pad f n vs gs ts x v a =
    ap (λ (t : Bool). cond t (behind_offset n vs gs ts x v) (cond (eqb f 5) (behind_cost n vs gs ts x v) (cond (eqb f 0) (behind_version n vs gs ts x v) (next_field f n vs gs ts x v)))) (ne_eqb f 8 (λ e. omega arith))
    ∙ ap (λ (t : Bool). cond t (behind_cost n vs gs ts x v) (cond (eqb f 0) (behind_version n vs gs ts x v) (next_field f n vs gs ts x v))) (ne_eqb f 5 (λ e. omega arith))
    ∙ ap (λ (t : Bool). cond t (behind_version n vs gs ts x v) (next_field f n vs gs ts x v)) (ne_eqb f 0 (λ e. omega arith))
    ∙ ap (λ (i : ℕ). begun i n (set vs f v) gs ts x)
    (ap (λ (t : Bool). cond t (opened_of x.version 0 v) (behind_of x.version f)) (ne_eqb f 1 (λ e. omega arith)) ∙ behind_padding x.version f a)

-- ---- behind a field of a stream whose value goes to its own place

module _ (f n : ℕ) (vs : List ℕ) (gs : List Stage) (ts : List TuplePlace) (x : Set) (v : ℕ) (k : KeptAt f n vs gs ts x) where
  -- the other values stay
  other : (j : ℕ) → (j ≡ f → ⊥) → value_at (set vs f v) j ≡ value_at vs j
  other j h = get_or-set_other vs f j v 0 h

  here : f < 9 → value_at (set vs f v) f ≡ v
  here h = get_or-set_same vs f v 0 (omega (arith, k.nine))

  long : length (set vs f v) ≡ 9
  long = length-set vs f v ∙ k.nine

  -- stages less one and tuples less one, or any other value
  three_still : (j : ℕ) → j < 9 → value_at vs j ≤ 3 → (f ≡ j → v ≤ 3) → value_at (set vs f v) j ≤ 3
  three_still j l m h =
      by_test (eqb f j) (λ e. let q : f ≡ j = eqb-true f j e in omega (arith, h q, here (omega arith), ap (value_at (set vs f v)) q))
      (λ e. omega (arith, other j (λ q. eqb-false f j e (sym q))))

  single_still : x.version ≡ 1 → value_at (set vs f v) 3 ≡ 0
  single_still w = other 3 (λ q. k.later (sym q) w) ∙ k.single w

  kept_on_lem : (g : ℕ) → 2 ≤ f → f < 8 → 2 ≤ g → g < 9 → (f ≡ 3 → v ≤ 3) → (f ≡ 6 → v ≤ 3) → (g ≡ 3 → x.version ≡ 1 → ⊥) → n ≤ most_whole g (set vs f v)
      → stages_whole x.version (value_at vs 3) f n ≡ stages_whole x.version (value_at (set vs f v) 3) g n → tuples_whole f n ≡ tuples_whole g n → KeptAt g n (set vs f v) gs ts x
  kept_on_lem g a b c d p q w m e z =
      let one : value_at (set vs f v) 1 ≡ value_at vs 1 = other 1 (λ i. omega arith) in
      record {
        row = omega arith;
        nine = long;
        streams = k.streams;
        stages = subst (λ (i : ℕ). Holds 4 no_stage i gs) e k.stages;
        tuples = subst (λ (i : ℕ). Holds 4 no_tuple i ts) z k.tuples;
        few = k.few;
        sixteen = omega (arith, k.sixteen);
        deep = three_still 3 (omega arith) k.deep p;
        four = three_still 6 (omega arith) k.four q;
        front = λ h. absurd (omega arith);
        room = λ h i. omega (arith, k.room (omega arith) (omega arith));
        most = m;
        first = λ i. absurd (omega arith);
        single = single_still;
        later = w;
        low = λ i. other 8 (λ j. omega arith) ∙ k.low (z ∙ i);
      }

  -- padding has no value to keep
  kept_padding : 9 ≤ f → f < 17 → KeptAt (f + 1) n (set vs f v) gs ts x
  kept_padding a b =
      subst (λ (l : List ℕ). KeptAt (f + 1) n l gs ts x) (sym (set_out vs f v (omega (arith, k.nine))))
      (record {
        row = omega arith;
        nine = k.nine;
        streams = k.streams;
        stages =
            subst (λ (i : ℕ). Holds 4 no_stage i gs)
            (padding_stages x.version (value_at vs 3) f n a ∙ sym (padding_stages x.version (value_at vs 3) (f + 1) n (omega arith))) k.stages;
        tuples = subst (λ (i : ℕ). Holds 4 no_tuple i ts) (padding_tuples f n a ∙ sym (padding_tuples (f + 1) n (omega arith))) k.tuples;
        few = k.few;
        sixteen = k.sixteen;
        deep = k.deep;
        four = k.four;
        front = λ h. absurd (omega arith);
        room = λ h g. absurd (omega arith);
        most = omega (arith, k.most, padding_most f vs a);
        first = λ z. absurd (omega arith);
        single = k.single;
        later = λ z. absurd (omega arith);
        low = λ z. k.low (padding_tuples f n a);
      })

  kept_pads : 9 ≤ f → f < 17 → Kept (goes_on f n vs gs ts x v)
  kept_pads a b = subst Kept (sym (goes_pad f n vs gs ts x v a)) (kept_begun (f + 1) n (set vs f v) gs ts x (kept_padding a b))

-- ---- each row

module _ (a b c d e f g h i n : ℕ) (gs : List Stage) (ts : List TuplePlace) (x : Set) (v : ℕ) where
  abbrev given : List ℕ
  given = a ∷ b ∷ c ∷ d ∷ e ∷ f ∷ g ∷ h ∷ i ∷ []

  abbrev Next : ℕ → Type 0
  Next r = KeptAt r n given gs ts x → v ≤ greatest_of r n → Kept (goes_on r n given gs ts x v)

  on_version : Next 0
  unfolding goes_on behind_version stages_whole tuples_whole most_whole
  on_version k w =
      kept_begun 1 n given gs ts (with_version x v)
      (record {
        row = omega arith;
        nine = refl;
        streams = k.streams;
        stages = k.stages;
        tuples = k.tuples;
        few = k.few;
        sixteen = k.sixteen;
        deep = k.deep;
        four = k.four;
        front = λ z. k.front (omega arith);
        room = λ y z. absurd (omega arith);
        most = k.most;
        first = λ z. absurd (omega arith);
        single = λ z. k.single (k.first refl);
        later = λ z. absurd (omega arith);
        low = k.low;
      })

  on_count : Next 1
  unfolding goes_on next_field following_of greatest_of row_of stages_whole tuples_whole most_whole
  on_count k w =
      let z : n ≡ 0 = omega (arith, k.most) in
      subst (λ (m : ℕ). Kept (begun (opened_of x.version 0 v) m (set given 1 v) gs ts x)) (sym z)
      (kept_begun (opened_of x.version 0 v) 0 (set given 1 v) gs ts x
      (kept_opened 0 v (set given 1 v) gs ts x
      (record {
        nine = refl;
        streams = k.streams;
        stages = k.stages;
        tuples = k.tuples;
        count = k.front (omega arith);
        all = refl;
        fits = omega arith;
        few = w;
        deep = k.deep;
        four = k.four;
        single = k.single;
        low = k.low refl;
      })))

  on_deadline : Next 2
  unfolding goes_on next_field following_of behind_of stages_whole tuples_whole most_whole
  on_deadline k w =
      let z : n ≤ 0 = k.most in
      kept_begun (behind_of x.version 2) n (set given 2 v) gs ts x
      (by_test (eqb x.version 1)
      (λ q. subst (λ (t : Bool). KeptAt (get_or (order_of t) 2 3) n (set given 2 v) gs ts x) (sym q)
      (kept_on_lem 2 n given gs ts x v k 6 (omega arith) (omega arith) (omega arith) (omega arith) (λ y. absurd (omega arith)) (λ y. absurd (omega arith)) (λ y. absurd (omega arith)) z (ap (λ (t : Bool). cond t (d + 1) 0) q) refl))
      (λ q. subst (λ (t : Bool). KeptAt (get_or (order_of t) 2 3) n (set given 2 v) gs ts x) (sym q)
      (kept_on_lem 2 n given gs ts x v k 3 (omega arith) (omega arith) (omega arith) (omega arith) (λ y. absurd (omega arith)) (λ y. absurd (omega arith)) (λ _. eqb-false x.version 1 q) z (ap (λ (t : Bool). cond t (d + 1) 0) q) refl)))

  -- in either version the row is the next
  on_next : (r : ℕ) → get_or first_order r (r + 1) ≡ r + 1 → get_or second_order r (r + 1) ≡ r + 1 → KeptAt (r + 1) n (set given r v) gs ts x → Kept (begun (behind_of x.version r) n (set given r v) gs ts x)
  on_next r p q k = kept_begun (behind_of x.version r) n (set given r v) gs ts x (subst (λ (j : ℕ). KeptAt j n (set given r v) gs ts x) (sym (same_order r p q x.version)) k)

  on_stages : Next 3
  unfolding goes_on next_field following_of greatest_of row_of stages_whole tuples_whole most_whole
  on_stages k w =
      let z : n ≤ 0 = k.most in
      on_next 3 refl refl
      (kept_on_lem 3 n given gs ts x v k 4 (omega arith) (omega arith) (omega arith) (omega arith) (λ _. w) (λ y. absurd (omega arith)) (λ y. absurd (omega arith)) (omega arith) (let q : 0 ≡ n = omega arith in q) refl)

  on_task_lem : Next 4
  unfolding goes_on next_field following_of stages_whole tuples_whole most_whole
  on_task_lem k w =
      on_next 4 refl refl
      (kept_on_lem 4 n given gs ts x v k 5 (omega arith) (omega arith) (omega arith) (omega arith) (λ y. absurd (omega arith)) (λ y. absurd (omega arith)) (λ y. absurd (omega arith)) k.most refl refl)

  on_tuples : Next 6
  unfolding goes_on next_field following_of greatest_of row_of stages_whole tuples_whole most_whole
  on_tuples k w =
      let z : n ≤ 0 = k.most in
      on_next 6 refl refl
      (kept_on_lem 6 n given gs ts x v k 7 (omega arith) (omega arith) (omega arith) (omega arith) (λ y. absurd (omega arith)) (λ _. w) (λ y. absurd (omega arith)) (omega arith) refl (let q : 0 ≡ n = omega arith in q))

  on_cycle : Next 7
  unfolding goes_on next_field following_of stages_whole tuples_whole most_whole
  on_cycle k w =
      on_next 7 refl refl
      (kept_on_lem 7 n given gs ts x v k 8 (omega arith) (omega arith) (omega arith) (omega arith) (λ y. absurd (omega arith)) (λ y. absurd (omega arith)) (λ y. absurd (omega arith)) k.most refl refl)

  -- a stage is whole
  module _ (k : KeptAt 5 n given gs ts x) where
    abbrev staged : List ℕ
    staged = a ∷ b ∷ c ∷ d ∷ 0 ∷ f ∷ g ∷ h ∷ i ∷ []

    few_stages : n ≤ d
    unfolding most_whole
    few_stages = k.most

    held : Holds 4 no_stage (n + 1) (set gs n (stage_in e v))
    unfolding stages_whole
    held = holds_more 4 no_stage n gs k.stages (stage_in e v) (omega (arith, few_stages, k.deep))

    kept_stage : (r m : ℕ) → 2 ≤ r → r < 9 → (r ≡ 3 → ⊥) → n + 1 ≡ stages_whole x.version d r m → 0 ≡ tuples_whole r m → m ≤ most_whole r staged → KeptAt r m staged (set gs n (stage_in e v)) ts x
    unfolding tuples_whole
    kept_stage r m p q w s t u =
        record {
          row = omega arith;
          nine = refl;
          streams = k.streams;
          stages = subst (λ (j : ℕ). Holds 4 no_stage j (set gs n (stage_in e v))) s held;
          tuples = subst (λ (j : ℕ). Holds 4 no_tuple j ts) t k.tuples;
          few = k.few;
          sixteen = k.sixteen;
          deep = k.deep;
          four = k.four;
          front = λ z. absurd (omega arith);
          room = λ y z. k.room (omega arith) (omega arith);
          most = u;
          first = λ z. absurd (omega arith);
          single = k.single;
          later = λ z. absurd (w z);
          low = λ z. k.low refl;
        }

    stage_more : n < d → KeptAt 4 (n + 1) staged (set gs n (stage_in e v)) ts x
    unfolding stages_whole tuples_whole most_whole
    stage_more l = kept_stage 4 (n + 1) (omega arith) (omega arith) (λ z. omega arith) refl refl (omega arith)

    stage_last : d ≤ n → KeptAt (behind_of x.version 5) 0 staged (set gs n (stage_in e v)) ts x
    unfolding behind_of stages_whole tuples_whole
    stage_last l =
        let z : n + 1 ≡ d + 1 = omega (arith, few_stages) in
        by_test (eqb x.version 1)
        (λ q. subst (λ (t : Bool). KeptAt (get_or (order_of t) 5 6) 0 staged (set gs n (stage_in e v)) ts x) (sym q)
        (kept_stage 2 0 (omega arith) (omega arith) (λ y. omega arith) (z ∙ ap (λ (t : Bool). cond t (d + 1) 0) (sym q)) refl (omega arith)))
        (λ q. subst (λ (t : Bool). KeptAt (get_or (order_of t) 5 6) 0 staged (set gs n (stage_in e v)) ts x) (sym q)
        (kept_stage 6 0 (omega arith) (omega arith) (λ y. omega arith) z refl (omega arith)))

  on_cost : Next 5
  unfolding goes_on next_stage last_stage
  on_cost k w =
      cond_elim Kept (ltb n d) (next_stage n given gs ts x v) (last_stage n given gs ts x v)
      (λ q. kept_begun 4 (n + 1) (staged k) (set gs n (stage_in e v)) ts x (stage_more k (ltb-true n d q)))
      (λ q. kept_begun (behind_of x.version 5) 0 (staged k) (set gs n (stage_in e v)) ts x (stage_last k (ltb-false n d q)))

  -- a tuple is whole, and perhaps the stream
  kept_tuple : KeptAt 8 n given gs ts x → n < g → Kept (next_tuple n given gs ts x v)
  unfolding next_tuple stages_whole tuples_whole most_whole
  kept_tuple k l =
      kept_begun 7 (n + 1) (tupled given v) gs (placed_in n given ts v) x
      (record {
        row = omega arith;
        nine = refl;
        streams = k.streams;
        stages = k.stages;
        tuples = holds_more 4 no_tuple n ts k.tuples (tuple_of h v) (omega (arith, k.four));
        few = k.few;
        sixteen = k.sixteen;
        deep = k.deep;
        four = k.four;
        front = λ z. absurd (omega arith);
        room = λ y z. k.room (omega arith) (omega arith);
        most = omega arith;
        first = λ z. absurd (omega arith);
        single = k.single;
        later = λ z. absurd (omega arith);
        low = λ z. absurd (omega arith);
      })

  kept_stream : KeptAt 8 n given gs ts x → Kept (next_stream n given gs ts x v)
  unfolding next_stream
  kept_stream k =
      let s : Stream = stream_in given gs (n + 1) (placed_in n given ts v) in
      let r : x.count < b = k.room (omega arith) (omega arith) in
      kept_begun (opened_of x.version (x.count + 1) b) 0 (front_of given) no_stages no_tuples (with_stream x s)
      (kept_opened (x.count + 1) b (front_of given) no_stages no_tuples (with_stream x s)
      (record {
        nine = refl;
        streams = holds_more 16 no_stream x.count x.streams k.streams s (omega (arith, k.sixteen));
        stages = holds_none 4 no_stage;
        tuples = holds_none 4 no_tuple;
        count = refl;
        all = refl;
        fits = omega arith;
        few = k.sixteen;
        deep = omega arith;
        four = omega arith;
        single = λ z. refl;
        low = refl;
      }))

  on_offset : Next 8
  unfolding goes_on
  on_offset k w =
      cond_elim Kept (ltb n g) (next_tuple n given gs ts x v) (next_stream n given gs ts x v) (λ q. kept_tuple k (ltb-true n g q)) (λ q. kept_stream k)

  on_row : (r : ℕ) → r < 9 → Next r
  on_row r = by_value_row Next on_version on_count on_deadline on_stages on_task_lem on_cost on_tuples on_cycle on_offset r

pub next_kept : (f n : ℕ) (vs : List ℕ) (gs : List Stage) (ts : List TuplePlace) (x : Set) (v : ℕ) → KeptAt f n vs gs ts x → f < 17 → Kept (next_of f n vs gs ts x v)
unfolding next_of
next_kept f n vs gs ts x v k b =
    cond_elim Kept (in_rule_of f n (value_at vs 8) v) (goes_on f n vs gs ts x v) (refused_of (refusal_of f))
    (λ r. by_test (ltb f 9)
    (λ e. by_values (λ (l : List ℕ). KeptAt f n l gs ts x → Kept (goes_on f n l gs ts x v)) (λ a b c d e' f' g h i q. on_row a b c d e' f' g h i n gs ts x v f (ltb-true f 9 e) q (rule_high f n (value_at vs 8) v r)) vs k.nine k)
    (λ e. kept_pads f n vs gs ts x v k (ltb-false f 9 e) b))
    (λ r. kept_refused (refusal_of f) (refusal_row f).0 (refusal_row f).1)

-- ---- one bit more

-- a field's value fits its width
pub value_fits : (f a b : ℕ) → 1 ≤ width_of f → a < 2 ^ (width_of f - 1) → b < 2 → a * 2 + b < 2 ^ width_of f
value_fits f a b k h c = omega (arith, pow-suc 2 (width_of f - 1), ap (λ (n : ℕ). 2 ^ n) (let e : suc (width_of f - 1) ≡ width_of f = omega arith in e))

by_left : (l f n : ℕ) (vs : List ℕ) (gs : List Stage) (ts : List TuplePlace) (x : Set) (a b : ℕ) → Kept (reading f n vs gs ts x a l) → b < 2 → Kept (step_by l f n vs gs ts x a b)
by_left zero f n vs gs ts x a b k h = k
by_left (suc zero) f n vs gs ts x a b k h = next_kept f n vs gs ts x (a * 2 + b) k.at (row_some f (omega (arith, k.left)))
by_left (suc (suc l)) f n vs gs ts x a b k h =
    record {
      at = k.at;
      some = λ z. omega arith;
      left = omega (arith, k.left);
      came = omega (arith, k.came, k.left, pow-suc 2 (width_of f - suc (suc l)), ap (λ (n : ℕ). 2 ^ n) (let e : suc (width_of f - suc (suc l)) ≡ width_of f - suc l = omega (arith, k.left) in e));
    }

pub kept_step : (c : Carried) (b : ℕ) → Kept c → b < 2 → Kept (step_of c b)
unfolding step_of
kept_step c b k h = by_left c.point.left c.point.row c.point.whole c.values c.stages c.places c.set c.point.acc b k h

pub kept_run : (c : Carried) (bs : List ℕ) → Kept c → AreBits bs → Kept (run c bs)
unfolding run
kept_run c [] k h = k
kept_run c (b ∷ bs) k h = kept_run (step_of c b) bs (kept_step c b k h.0) h.1
