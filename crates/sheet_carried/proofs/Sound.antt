-- What passes the test has been left by some bytes.
-- Assumes nothing.
use Prim.Native.Nat.{ℕ, zero, suc, ◌+◌, ◌-◌, ◌*◌, ◌^◌, ◌≤◌, ◌<◌}
use mathlib.Core.List.{List, [], ◌∷◌}
use mathlib.Core.Path.{◌≡◌, refl, sym, ap, ap₂, ◌∙◌, subst}
use mathlib.Core.Bool.{Bool, true, false, cond, ◌&&◌, ◌||◌, false≢true}
use mathlib.Core.Logic.{◌⊎◌, inl, inr, ⊎_elim}
use native.Mathlib.Omega.{arith}
use lib.ListN.{length, get_or, take, drop, get_or-eq_default}
use lib.Seq.{set_out}
use lib.Dec.{eqb, leb, ltb}
use lib.Pow.{pow_pos}
use borrow.Author.Tests.{eqb-true, lt-leb, le-ltb, leb-true, ltb-false, ltb-true, lt-ltb, ne_eqb}
use Rattle.std.specs.List.{list_all}
use Rattle.laws.specs.Lists.{All, within}
use Rattle.laws.proofs.Sums.{Holds as Passes, all_all, all_at, all_zip, and_parts, by_test, every_all}
use Rattle.laws.proofs.Fields.{all_take}
use Rattle.rules.specs.declared.TuplePlace.{TuplePlace}
use Rattle.rules.specs.declared.Stage.{Stage}
use Rattle.rules.specs.declared.Stream.{Stream}
use Rattle.rules.specs.declared.Set.{Set}
use Rattle.rules.specs.Streams.{FourPlaces, Placed, empty_set, no_stage, no_stream, no_streams, no_tuple, offset_at, one_stage, set_tests, stage_ok, stage_unused, stream_ok, streams_of, tuple_unused, tuples_ok, valid}
use Rattle.rules.specs.Sheet.{set_of}
use Rattle.rules.specs.Valid.{Between, FirstZero, ValidSet, ValidStage}
use Rattle.rules.proofs.Valid.{valid_set, valid_stage, valid_stream}
use Rattle.sheet_carried.specs.declared.Carried.{Carried}
use Rattle.sheet_carried.specs.Table.{behind_of, opened_of, width_of}
use Rattle.sheet_carried.specs.Reader.{begun, no_stages, no_tuples, reading, refused_of}
use Rattle.sheet_carried.specs.Kept.{Holds, most_whole, stages_whole, tuples_whole}
use Rattle.sheet_carried.specs.Left.{before_row, count_fits, dated, deepened, fit_tests, held, kept_fits, last_of, part_room, stages_fit, streams_room, tuples_fit, value_tests, values_fit, version_fits}
use Rattle.sheet_carried.proofs.Whole.{Staged, all_none, holds_of, no_stage_lem, no_tuple_lem, set_holds, set_staged, version_cases, whole_places, whole_set}
use Rattle.sheet_carried.proofs.Streams.{Chain, chain_first, within_high, within_is, within_low}
use Rattle.sheet_carried.proofs.Rows.{by_value_row, pad_rule, width_pad, width_some}
use Rattle.sheet_carried.proofs.Keeps.{goes_pad, padding_most, padding_stages, padding_tuples}
use Rattle.sheet_carried.proofs.Reached.{At, Reached, padded, reach_as, reach_cycle, reach_on, reach_part, reach_start, reach_task, vals}
use Rattle.sheet_carried.proofs.Streamed.{Either, Fine, Opened, first_staged, open_first, open_second, reach_head, reach_open, reach_some, reach_version, second_dated, second_stages}

-- ---- values

pub held_zero : (low high v : ℕ) → held false low high v ≡ true → v ≡ 0
unfolding held
held_zero low high v e = eqb-true v 0 e

pub held_low : (low high v : ℕ) → held true low high v ≡ true → low ≤ v
unfolding held
held_low low high v e = within_low low v high e

pub held_high : (low high v : ℕ) → held true low high v ≡ true → v ≤ high
unfolding held
held_high low high v e = within_high low v high e

pub held_between : (low high v : ℕ) → held true low high v ≡ true → Between low v high
held_between low high v e = record { low = held_low low high v e; high = held_high low high v e }

pub outside : (a f b : ℕ) → b < f → within a f b ≡ false
outside a f b h = ap (λ (t : Bool). leb a f && t) (lt-leb f b h) ∙ and_false (leb a f)
  where
    and_false : (t : Bool) → t && false ≡ false
    and_false true = refl
    and_false false = refl

-- where a test is not of the version
pub dated_is : (version f : ℕ) (b : Bool) → within 6 f 8 ≡ b → within 3 f 8 ≡ b → dated version f ≡ b
unfolding dated
dated_is version f b h k = go (eqb version 1)
  where
    go : (t : Bool) → cond t (within 6 f 8) (within 3 f 8) ≡ b
    go true = h
    go false = k

pub deep_none : (version f : ℕ) → within 4 f 8 ≡ false → deepened version f ≡ false
unfolding deepened
deep_none version f h = go (eqb version 1)
  where
    go : (t : Bool) → cond t false (within 4 f 8) ≡ false
    go true = refl
    go false = h

-- from the padding on the bits of padding count
pub padding_room : (version less f n : ℕ) → 9 ≤ f → part_room version less f n ≡ f - 9
unfolding part_room
padding_room version less f n h = go (eqb version 1)
  where
    go : (t : Bool) → cond t (get_or (0 ∷ 0 ∷ 20 ∷ 0 ∷ 0 ∷ 4 ∷ 38 ∷ (40 + 37 * n) ∷ (60 + 37 * n) ∷ []) f (f - 9))
        (get_or (0 ∷ 0 ∷ 0 ∷ 18 ∷ (20 + 20 * n) ∷ (24 + 20 * n) ∷ (40 + 20 * less) ∷ (42 + 20 * less + 37 * n) ∷ (62 + 20 * less + 37 * n) ∷ []) f (f - 9)) ≡ f - 9
    go true = get_or-eq_default (0 ∷ 0 ∷ 20 ∷ 0 ∷ 0 ∷ 4 ∷ 38 ∷ (40 + 37 * n) ∷ (60 + 37 * n) ∷ []) (f - 9) {n = f} (omega arith)
    go false = get_or-eq_default (0 ∷ 0 ∷ 0 ∷ 18 ∷ (20 + 20 * n) ∷ (24 + 20 * n) ∷ (40 + 20 * less) ∷ (42 + 20 * less + 37 * n) ∷ (62 + 20 * less + 37 * n) ∷ []) (f - 9) {n = f} (omega arith)

-- a list that has no elements
pub none_of : {A : Type 0} (l : List A) → length l ≡ 0 → l ≡ []
none_of [] e = refl
none_of (a ∷ l) e = absurd (omega arith)

-- ---- what the tests say of a state before the row f

abbrev Passed : Stream → Type 0
Passed s = stream_ok s ≡ true

-- of the streams that are whole
pub record Streams (x : Set) : Type 0 where
  pub either : Either x.version
  pub whole : set_of x.version (streams_of x) ≡ x
  pub fine : All (Fine x.version) (streams_of x)
  pub used : length (streams_of x) ≡ x.count

pub record Said (f n N d s t m z : ℕ) (gs : List Stage) (ts : List TuplePlace) (x : Set) : Type 0 where
  pub set : Streams x
  pub version : version_fits x.version f ≡ true
  pub count : count_fits f x.count N ≡ true
  pub most : n ≤ most_whole f (vals N d s t m z (last_of 0 ts))
  pub long : length gs ≡ stages_whole x.version s f n
  pub staged : All ValidStage gs
  pub many : length ts ≡ tuples_whole f n
  pub chain : Chain 0 0 ts
  pub values : All Passes (value_tests x.version f (last_of 0 ts) (vals N d s t m z (last_of 0 ts)))

module _ (n N d s t m z : ℕ) (gs : List Stage) (ts : List TuplePlace) (x : Set) where
  abbrev vs : List ℕ
  vs = vals N d s t m z (last_of 0 ts)

  abbrev before : ℕ → Carried
  before f = begun f n vs (padded 4 no_stage gs) (padded 4 no_tuple ts) x

  abbrev Law : ℕ → Type 0
  Law f = Said f n N d s t m z gs ts x → Reached (before f) (before_row f n vs x)

  -- what stands for each place
  module _ (f : ℕ) (q : Said f n N d s t m z gs ts x) where
    abbrev count_at : Type 0
    count_at = held (within 2 f 16) 0 16 N ≡ true

    pub count_test : count_at
    count_test = q.values.1.0

    pub date_test : held (dated x.version f) 1 200000 d ≡ true
    date_test = q.values.1.1.0

    pub deep_test : held (deepened x.version f) 0 3 s ≡ true
    deep_test = q.values.1.1.1.0

    pub task_test : held (eqb f 5) 0 15 t ≡ true
    task_test = q.values.1.1.1.1.0

    pub limit_test : held (within 7 f 8) 0 3 m ≡ true
    limit_test = q.values.1.1.1.1.1.1.0

    pub cycle_test : held (eqb f 8) 0 1000000 z ≡ true
    cycle_test = q.values.1.1.1.1.1.1.1.0

    -- behind the streams that are whole
    base : N ≤ 16 → x.count ≤ N → Reached (Opened N x) (9 + streams_room x)
    unfolding streams_room
    base few h =
        reach_as (ap (Opened N) q.set.whole) refl (reach_open N x.version few q.set.either (streams_of x) q.set.fine (omega (arith, q.set.used)))

    -- in a stream
    module _ (a : within 2 f 16 ≡ true) (b : within 2 f 8 ≡ true) where
      pub few : N ≤ 16
      few = held_high 0 16 N (subst (λ (u : Bool). held u 0 16 N ≡ true) a count_test)

      pub room : x.count < N
      unfolding count_fits
      room = ltb-true x.count N (subst (λ (u : Bool). cond u (ltb x.count N) (eqb x.count N) ≡ true) b q.count)

      opened : Reached (Opened N x) (9 + streams_room x)
      opened = base few (omega (arith, room))

    -- version 1 has no stages less one
    pub deep_few : s ≤ 3
    unfolding held
    deep_few = by_test (deepened x.version f) (λ e. held_high 0 3 s (subst (λ (u : Bool). held u 0 3 s ≡ true) e deep_test)) (λ e. omega (arith, held_zero 0 3 s (subst (λ (u : Bool). held u 0 3 s ≡ true) e deep_test)))

    pub deep_one : x.version ≡ 1 → s ≡ 0
    unfolding deepened
    deep_one e = held_zero 0 3 s (subst (λ (v : ℕ). held (deepened v f) 0 3 s ≡ true) e deep_test)

  -- how many bits have come of the stream
  pub part_is : (f k : ℕ) → eqb f 0 ≡ false → eqb f 1 ≡ false → part_room x.version s f n ≡ k → 9 + streams_room x + k ≡ before_row f n vs x
  unfolding before_row
  part_is f k a b e = ap (λ (j : ℕ). 9 + streams_room x + j) (sym e) ∙ sym (simp (a, b))

  empty_set_lem : x.count ≡ 0 → (q : set_of x.version (streams_of x) ≡ x) → no_streams x.version ≡ x
  empty_set_lem e q = ap (λ (j : ℕ). set_of x.version (take j x.streams)) (sym e) ∙ q

  -- the same state, place by place
  as_row : (f a b c e g h : ℕ) (l : List Stage) (r : List TuplePlace) → a ≡ n → b ≡ d → c ≡ s → e ≡ t → g ≡ m → h ≡ z → l ≡ gs → r ≡ ts → At N x f a b c e g h (last_of 0 r) l r ≡ before f
  as_row f a b c e g h l r i j k o p q u v = cc

  -- nothing has been read of a stream
  module _ (f : ℕ) (q : Said f n N d s t m z gs ts x) (dates : within 6 f 8 ≡ false) (dates₂ : within 3 f 8 ≡ false) (deep : within 4 f 8 ≡ false) (task : eqb f 5 ≡ false) (limit : within 7 f 8 ≡ false) (cycle : eqb f 8 ≡ false)
      (most : most_whole f vs ≡ 0) (stages : stages_whole x.version s f n ≡ 0) (tuples : tuples_whole f n ≡ 0) where
    pub unread : At N x f 0 0 0 0 0 0 0 [] [] ≡ before f
    unfolding last_of
    unread =
        as_row f 0 0 0 0 0 0 [] [] (let e : 0 ≡ n = omega (arith, q.most) in e)
        (sym (held_zero 1 200000 d (subst (λ (u : Bool). held u 1 200000 d ≡ true) (dated_is x.version f false dates dates₂) (date_test f q))))
        (sym (held_zero 0 3 s (subst (λ (u : Bool). held u 0 3 s ≡ true) (deep_none x.version f deep) (deep_test f q))))
        (sym (held_zero 0 15 t (subst (λ (u : Bool). held u 0 15 t ≡ true) task (task_test f q))))
        (sym (held_zero 0 3 m (subst (λ (u : Bool). held u 0 3 m ≡ true) limit (limit_test f q))))
        (sym (held_zero 0 1000000 z (subst (λ (u : Bool). held u 0 1000000 z ≡ true) cycle (cycle_test f q))))
        (sym (none_of gs (q.long ∙ stages))) (sym (none_of ts (q.many ∙ tuples)))

  module _ (f : ℕ) (q : Said f n N d s t m z gs ts x) (a : within 2 f 16 ≡ false) (b : within 2 f 8 ≡ false) where
    pub no_count : N ≡ 0
    no_count = held_zero 0 16 N (subst (λ (u : Bool). held u 0 16 N ≡ true) a (count_test f q))

    pub no_streams_lem : x.count ≡ 0
    unfolding count_fits
    no_streams_lem = eqb-true x.count N (subst (λ (u : Bool). cond u (ltb x.count N) (eqb x.count N) ≡ true) b q.count) ∙ no_count

    pub first_version : within 1 f 16 ≡ false → x.version ≡ 1
    unfolding version_fits
    first_version c =
        by_test (eqb x.version 1) (eqb-true x.version 1)
        (λ u. absurd (false≢true (sym c ∙ subst (λ (w : Bool). cond w (ltb f 3 || ltb 3 f) (within 1 f 16) ≡ true) u q.version)))

  row_version : Law 0
  unfolding before_row stages_whole tuples_whole most_whole
  row_version q =
      let y : empty_set ≡ x = ap no_streams (sym (first_version 0 q refl refl refl)) ∙ empty_set_lem (no_streams_lem 0 q refl refl) q.set.whole in
      reach_as
      (ap₂ (λ (u : ℕ) (w : Set). At u w 0 0 0 0 0 0 0 0 [] []) (sym (no_count 0 q refl refl)) y
      ∙ unread 0 q refl refl refl refl refl refl refl refl refl)
      refl reach_start

  row_count : Law 1
  unfolding before_row stages_whole tuples_whole most_whole
  row_count q =
      reach_as
      (ap₂ (λ (u : ℕ) (w : Set). At u w 1 0 0 0 0 0 0 0 [] []) (sym (no_count 1 q refl refl)) (empty_set_lem (no_streams_lem 1 q refl refl) q.set.whole)
      ∙ unread 1 q refl refl refl refl refl refl refl refl refl)
      refl (reach_version x.version q.set.either)

  -- a value that has been read in the one version, or in either
  module _ (f v : ℕ) (e : x.version ≡ v) (q : Said f n N d s t m z gs ts x) where
    pub date_in : dated v f ≡ true → Between 1 d 200000
    date_in h = held_between 1 200000 d (subst (λ (u : Bool). held u 1 200000 d ≡ true) (ap (λ (w : ℕ). dated w f) e ∙ h) (date_test f q))

    pub date_not : dated v f ≡ false → 0 ≡ d
    date_not h = sym (held_zero 1 200000 d (subst (λ (u : Bool). held u 1 200000 d ≡ true) (ap (λ (w : ℕ). dated w f) e ∙ h) (date_test f q)))

    pub deep_not : deepened v f ≡ false → 0 ≡ s
    deep_not h = sym (held_zero 0 3 s (subst (λ (u : Bool). held u 0 3 s ≡ true) (ap (λ (w : ℕ). deepened w f) e ∙ h) (deep_test f q)))

    pub long_is : length gs ≡ stages_whole v s f n
    long_is = q.long ∙ ap (λ (w : ℕ). stages_whole w s f n) e

    pub part_in : (k : ℕ) → eqb f 0 ≡ false → eqb f 1 ≡ false → part_room v s f n ≡ k → 9 + streams_room x + k ≡ before_row f n vs x
    part_in k a b h = part_is f k a b (ap (λ (w : ℕ). part_room w s f n) e ∙ h)

  module _ (f : ℕ) (q : Said f n N d s t m z gs ts x) where
    pub task_not : eqb f 5 ≡ false → 0 ≡ t
    task_not h = sym (held_zero 0 15 t (subst (λ (u : Bool). held u 0 15 t ≡ true) h (task_test f q)))

    pub limit_not : within 7 f 8 ≡ false → 0 ≡ m
    limit_not h = sym (held_zero 0 3 m (subst (λ (u : Bool). held u 0 3 m ≡ true) h (limit_test f q)))

    pub cycle_not : eqb f 8 ≡ false → 0 ≡ z
    cycle_not h = sym (held_zero 0 1000000 z (subst (λ (u : Bool). held u 0 1000000 z ≡ true) h (cycle_test f q)))

  pub one_of : {A : Type 0} (none : A) (l : List A) → length l ≡ 1 → get_or l 0 none ∷ [] ≡ l
  one_of none [] e = absurd (omega arith)
  one_of none (a ∷ []) e = refl
  one_of none (a ∷ b ∷ l) e = absurd (omega arith)

  row_deadline : Law 2
  unfolding stages_whole tuples_whole most_whole dated deepened part_room last_of
  row_deadline q =
      let i : 0 ≡ n = omega (arith, q.most) in
      let k : [] ≡ ts = sym (none_of ts q.many) in
      ⊎_elim
      (λ (e : x.version ≡ 1).
      let one : length gs ≡ 1 = long_is 2 1 e q ∙ ap (λ (j : ℕ). j + 1) (deep_one 2 q e) in
      reach_as (as_row 2 0 0 0 0 0 0 (get_or gs 0 no_stage ∷ []) [] i (date_not 2 1 e q refl) (deep_not 2 1 e q refl) (task_not 2 q refl) (limit_not 2 q refl) (cycle_not 2 q refl) (one_of no_stage gs one) k)
      (part_in 2 1 e q 20 refl refl refl)
      (first_staged N x (room 2 q refl refl) (opened 2 q refl refl) e (get_or gs 0 no_stage) (all_at ValidStage gs 0 no_stage (omega arith) q.staged)))
      (λ (e : x.version ≡ 2).
      reach_as (as_row 2 0 0 0 0 0 0 [] [] i (date_not 2 2 e q refl) (deep_not 2 2 e q refl) (task_not 2 q refl) (limit_not 2 q refl) (cycle_not 2 q refl) (sym (none_of gs (long_is 2 2 e q))) k)
      ((let u : 9 + streams_room x ≡ 9 + streams_room x + 0 = omega arith in u) ∙ part_in 2 2 e q 0 refl refl refl)
      (open_second N x (room 2 q refl refl) (opened 2 q refl refl) e))
      q.set.either

  row_stages : Law 3
  unfolding stages_whole tuples_whole most_whole dated deepened part_room last_of version_fits
  row_stages q =
      ⊎_elim
      (λ (e : x.version ≡ 1). absurd (false≢true (subst (λ (v : ℕ). version_fits v 3 ≡ true) e q.version)))
      (λ (e : x.version ≡ 2).
      reach_as (as_row 3 0 d 0 0 0 0 [] [] (let u : 0 ≡ n = omega (arith, q.most) in u) refl (deep_not 3 2 e q refl) (task_not 3 q refl) (limit_not 3 q refl) (cycle_not 3 q refl) (sym (none_of gs (long_is 3 2 e q))) (sym (none_of ts q.many)))
      (part_in 3 2 e q 18 refl refl refl)
      (second_dated N x (room 3 q refl refl) (opened 3 q refl refl) e d (date_in 3 2 e q refl)))
      q.set.either

  -- before a task, and before a cost
  module _ (f : ℕ) (a : within 2 f 16 ≡ true) (b : within 2 f 8 ≡ true) (q : Said f n N d s t m z gs ts x) (here : length gs ≡ n) (most : n ≤ s) where
    staged_first : x.version ≡ 1 → 0 ≡ d → 0 ≡ s → Reached (At N x 4 (length gs) d s 0 0 0 0 gs []) (9 + streams_room x)
    staged_first e g h =
        let l : gs ≡ [] = none_of gs (omega arith) in
        reach_as (ap₂ (λ (i j : ℕ). At N x 4 0 i j 0 0 0 0 [] []) g h ∙ ap (λ (r : List Stage). At N x 4 (length r) d s 0 0 0 0 r []) (sym l)) refl (open_first N x (room f q a b) (opened f q a b) e)

    staged_second : x.version ≡ 2 → Between 1 d 200000 → Reached (At N x 4 (length gs) d s 0 0 0 0 gs []) (9 + streams_room x + 20 + 20 * n)
    staged_second e g =
        reach_as refl (ap (λ (j : ℕ). 9 + streams_room x + 20 + 20 * j) here)
        (second_stages N x (room f q a b) (opened f q a b) e d s g (deep_few f q) gs q.staged (omega arith))

  row_task : Law 4
  unfolding stages_whole tuples_whole most_whole dated deepened part_room last_of
  row_task q =
      let k : [] ≡ ts = sym (none_of ts q.many) in
      ⊎_elim
      (λ (e : x.version ≡ 1).
      reach_as (as_row 4 (length gs) d s 0 0 0 gs [] q.long refl refl (task_not 4 q refl) (limit_not 4 q refl) (cycle_not 4 q refl) refl k)
      ((let u : 9 + streams_room x ≡ 9 + streams_room x + 0 = omega arith in u) ∙ part_in 4 1 e q 0 refl refl refl)
      (staged_first 4 refl refl q q.long q.most e (date_not 4 1 e q refl) (deep_not 4 1 e q refl)))
      (λ (e : x.version ≡ 2).
      reach_as (as_row 4 (length gs) d s 0 0 0 gs [] q.long refl refl (task_not 4 q refl) (limit_not 4 q refl) (cycle_not 4 q refl) refl k)
      ((let u : 9 + streams_room x + 20 + 20 * n ≡ 9 + streams_room x + (20 + 20 * n) = omega arith in u) ∙ part_in 4 2 e q (20 + 20 * n) refl refl refl)
      (staged_second 4 refl refl q q.long q.most e (date_in 4 2 e q refl)))
      q.set.either

  row_cost : Law 5
  unfolding stages_whole tuples_whole most_whole dated deepened part_room last_of
  row_cost q =
      let k : [] ≡ ts = sym (none_of ts q.many) in
      let c : t ≤ 15 = held_high 0 15 t (task_test 5 q) in
      ⊎_elim
      (λ (e : x.version ≡ 1).
      reach_as (as_row 5 (length gs) d s t 0 0 gs [] q.long refl refl refl (limit_not 5 q refl) (cycle_not 5 q refl) refl k)
      (part_in 5 1 e q 4 refl refl refl)
      (reach_task N x d s (deep_few 5 q) gs (staged_first 5 refl refl q q.long q.most e (date_not 5 1 e q refl) (deep_not 5 1 e q refl)) t c))
      (λ (e : x.version ≡ 2).
      reach_as (as_row 5 (length gs) d s t 0 0 gs [] q.long refl refl refl (limit_not 5 q refl) (cycle_not 5 q refl) refl k)
      ((let u : 9 + streams_room x + 20 + 20 * n + 4 ≡ 9 + streams_room x + (24 + 20 * n) = omega arith in u) ∙ part_in 5 2 e q (24 + 20 * n) refl refl refl)
      (reach_task N x d s (deep_few 5 q) gs (staged_second 5 refl refl q q.long q.most e (date_in 5 2 e q refl)) t c))
      q.set.either

  -- behind the head of a stream
  module _ (f : ℕ) (a : within 2 f 16 ≡ true) (b : within 2 f 8 ≡ true) (c : within 6 f 8 ≡ true) (i : within 3 f 8 ≡ true) (q : Said f n N d s t m z gs ts x) where
    date : Between 1 d 200000
    date = held_between 1 200000 d (subst (λ (u : Bool). held u 1 200000 d ≡ true) (dated_is x.version f true c i) (date_test f q))

    headed : length gs ≡ s + 1 → Reached (At N x 6 0 d s 0 0 0 0 gs []) (9 + streams_room x + cond (eqb x.version 1) 38 (40 + 20 * s))
    headed h = reach_head N x (room f q a b) (opened f q a b) d s date (deep_few f q) gs q.staged h q.set.either (deep_one f q)

    tupled : length gs ≡ s + 1 → m ≤ 3 → length ts ≤ m → Reached (At N x 7 (length ts) d s 0 m 0 (last_of 0 ts) gs ts) (9 + streams_room x + cond (eqb x.version 1) 38 (40 + 20 * s) + 2 + 37 * length ts)
    tupled h g j = reach_some N x (room f q a b) (opened f q a b) d s date (deep_few f q) gs q.staged h q.set.either (deep_one f q) m g ts q.chain j

  row_tuples : Law 6
  unfolding stages_whole tuples_whole most_whole part_room last_of
  row_tuples q =
      reach_as (as_row 6 0 d s 0 0 0 gs [] (let u : 0 ≡ n = omega (arith, q.most) in u) refl refl (task_not 6 q refl) (limit_not 6 q refl) (cycle_not 6 q refl) refl (sym (none_of ts q.many)))
      (part_is 6 (cond (eqb x.version 1) 38 (40 + 20 * s)) refl refl refl)
      (headed 6 refl refl refl refl q q.long)

  room_7 : (b : Bool) (k j : ℕ) → j ≡ n → k + cond b 38 (40 + 20 * s) + 2 + 37 * j ≡ k + cond b (40 + 37 * n) (42 + 20 * s + 37 * n)
  room_7 true k j e = omega arith
  room_7 false k j e = omega arith

  room_8 : (b : Bool) (k j : ℕ) → j ≡ n → k + cond b 38 (40 + 20 * s) + 2 + 37 * j + 20 ≡ k + cond b (60 + 37 * n) (62 + 20 * s + 37 * n)
  room_8 true k j e = omega arith
  room_8 false k j e = omega arith

  row_cycle : Law 7
  unfolding stages_whole tuples_whole most_whole part_room
  row_cycle q =
      reach_as (as_row 7 (length ts) d s 0 m 0 gs ts q.many refl refl (task_not 7 q refl) refl (cycle_not 7 q refl) refl refl)
      (room_7 (eqb x.version 1) (9 + streams_room x) (length ts) q.many ∙ part_is 7 (cond (eqb x.version 1) (40 + 37 * n) (42 + 20 * s + 37 * n)) refl refl refl)
      (tupled 7 refl refl refl refl q q.long (held_high 0 3 m (limit_test 7 q)) (omega (arith, q.many, q.most)))

  row_offset : Law 8
  unfolding stages_whole tuples_whole most_whole part_room
  row_offset q =
      let few : m ≤ 3 = held_high 0 3 m (limit_test 8 q) in
      reach_as (as_row 8 (length ts) d s 0 m z gs ts q.many refl refl (task_not 8 q refl) refl refl refl refl)
      (room_8 (eqb x.version 1) (9 + streams_room x) (length ts) q.many ∙ part_is 8 (cond (eqb x.version 1) (60 + 37 * n) (62 + 20 * s + 37 * n)) refl refl refl)
      (reach_cycle N x d s gs m few ts (tupled 8 refl refl refl refl q q.long few (omega (arith, q.many, q.most))) z (held_high 0 1000000 z (cycle_test 8 q)))

  -- ---- padding

  reach_pads : (j : ℕ) → j < 8 → {k : ℕ} → Reached (At N x 9 0 0 0 0 0 0 0 [] []) k → Reached (At N x (9 + j) 0 0 0 0 0 0 0 [] []) (k + j)
  reach_pads zero h r = reach_as refl (omega arith) r
  reach_pads (suc j) h {k} r =
      let f : ℕ = 9 + j in
      let w : width_of f ≡ 1 = omega (arith, width_pad f (omega arith), width_some f (omega arith)) in
      reach_as
      (goes_pad f 0 (vals N 0 0 0 0 0 0) no_stages no_tuples x 0 (omega arith)
      ∙ ap₂ (λ (i : ℕ) (l : List ℕ). begun i 0 l no_stages no_tuples x) (let e : f + 1 ≡ 9 + suc j = omega arith in e) (set_out (vals N 0 0 0 0 0 0) f 0 (omega arith)))
      (let e : k + j + width_of f ≡ k + suc j = omega arith in e)
      (reach_on f 0 (vals N 0 0 0 0 0 0) no_stages no_tuples x (reach_pads j (omega arith) r) 0 (omega arith) (pow_pos (width_of f))
      (pad_rule f 0 0 0 (omega arith) (omega arith) ∙ lt-ltb (f - 9) 7 (omega arith)))

  pub all_read : (f : ℕ) → 9 ≤ f → Said f n N d s t m z gs ts x → eqb x.count N ≡ true
  unfolding count_fits
  all_read f a q = subst (λ (u : Bool). cond u (ltb x.count N) (eqb x.count N) ≡ true) (outside 2 f 8 (omega arith)) q.count

  row_padding : (f : ℕ) → 9 ≤ f → f < 17 → Law f
  unfolding opened_of
  row_padding f a b q =
      let i : within 2 f 16 ≡ true = within_is 2 f 16 (omega arith) (omega arith) in
      let few : N ≤ 16 = held_high 0 16 N (subst (λ (u : Bool). held u 0 16 N ≡ true) i (count_test f q)) in
      let c : x.count ≡ N = eqb-true x.count N (all_read f a q) in
      reach_as
      (ap (λ (j : ℕ). At N x j 0 0 0 0 0 0 0 [] []) (let e : 9 + (f - 9) ≡ f = omega arith in e)
      ∙ unread f q (outside 6 f 8 (omega arith)) (outside 3 f 8 (omega arith)) (outside 4 f 8 (omega arith)) (ne_eqb f 5 (λ e. omega arith)) (outside 7 f 8 (omega arith)) (ne_eqb f 8 (λ e. omega arith))
      (padding_most f vs a) (padding_stages x.version s f n a) (padding_tuples f n a))
      (part_is f (f - 9) (ne_eqb f 0 (λ e. omega arith)) (ne_eqb f 1 (λ e. omega arith)) (padding_room x.version s f n a))
      (reach_pads (f - 9) (omega arith)
      (reach_as (ap (λ (u : Bool). begun (cond u (behind_of x.version 1) 9) 0 (vals N 0 0 0 0 0 0) no_stages no_tuples x) (le-ltb x.count N (omega arith))) refl (base f q few (omega arith))))

  -- ---- refusals

  row_refused : (f : ℕ) → 17 ≤ f → Said f n N d s t m z gs ts x → refused_of f ≡ before f
  unfolding refused_of
  row_refused f a q =
      let i : within 2 f 16 ≡ false = outside 2 f 16 (omega arith) in
      let j : within 2 f 8 ≡ false = outside 2 f 8 (omega arith) in
      let y : empty_set ≡ x = ap no_streams (sym (first_version f q i j (outside 1 f 16 (omega arith)))) ∙ empty_set_lem (no_streams_lem f q i j) q.set.whole in
      ap₂ (λ (u : ℕ) (w : Set). At u w f 0 0 0 0 0 0 0 [] []) (sym (no_count f q i j)) y
      ∙ unread f q (outside 6 f 8 (omega arith)) (outside 3 f 8 (omega arith)) (outside 4 f 8 (omega arith)) (ne_eqb f 5 (λ e. omega arith)) (outside 7 f 8 (omega arith)) (ne_eqb f 8 (λ e. omega arith))
      (padding_most f vs (omega arith)) (padding_stages x.version s f n (omega arith)) (padding_tuples f n (omega arith))

  row_reached : (f : ℕ) → f < 17 → Law f
  row_reached f h q =
      by_test (ltb f 9)
      (λ e. by_value_row Law row_version row_count row_deadline row_stages row_task row_cost row_tuples row_cycle row_offset f (ltb-true f 9 e) q)
      (λ e. row_padding f (ltb-false f 9 e) h q)

-- ---- all that the test says

pub cond_left : (b a : Bool) → cond b a false ≡ true → b ≡ true
cond_left true a e = refl
cond_left false a e = e

pub cond_right : (b a : Bool) → cond b a false ≡ true → a ≡ true
cond_right true a e = e
cond_right false a e = absurd (false≢true e)

pub or_parts : (a b : Bool) → a || b ≡ true → (a ≡ true) ⊎ (b ≡ true)
or_parts true b e = inl refl
or_parts false b e = inr e

pub get_d_le : (b f : ℕ) (l : List ℕ) → All (λ (v : ℕ). v ≤ b) l → get_or l f 0 ≤ b
get_d_le b f [] a = omega arith
get_d_le b zero (v ∷ l) a = a.0
get_d_le b (suc f) (v ∷ l) a = get_d_le b f l a.1

cond_le : (t : Bool) (b u v : ℕ) → u ≤ b → v ≤ b → cond t u v ≤ b
cond_le true b u v h k = h
cond_le false b u v h k = k

first_zero : (n : ℕ) (ts : List TuplePlace) → eqb (offset_at (get_or ts 0 no_tuple)) 0 ≡ true → FirstZero (take n ts)
first_zero zero ts e = tt
first_zero (suc n) [] e = tt
first_zero (suc n) (p ∷ ts) e = eqb-true (offset_at p) 0 e

module _ (f n N d s t m z low a h : ℕ) (gs : List Stage) (ts : List TuplePlace) (x : Set) where
  -- as they stand in the array
  abbrev given : List ℕ
  given = a ∷ N ∷ d ∷ s ∷ t ∷ h ∷ m ∷ z ∷ low ∷ []

  module _ (four : length gs ≡ 4) (places : length ts ≡ 4) (placed : Placed x) (e : kept_fits f n given gs ts x ≡ true) where
    tests : All Passes (fit_tests f n given gs ts x)
    unfolding kept_fits
    tests = every_all (fit_tests f n given gs ts x) e

    abbrev K : ℕ
    K = stages_whole x.version s f n

    abbrev J : ℕ
    J = tuples_whole f n

    values : All Passes (value_tests x.version f (last_of 0 (take J ts)) given)
    unfolding values_fit
    values = every_all (value_tests x.version f (last_of 0 (take J ts)) given) tests.1.1.1.1.1.1.0

    less_few : s ≤ 3
    less_few =
        by_test (deepened x.version f) (λ q. held_high 0 3 s (subst (λ (u : Bool). held u 0 3 s ≡ true) q values.1.1.1.0))
        (λ q. omega (arith, held_zero 0 3 s (subst (λ (u : Bool). held u 0 3 s ≡ true) q values.1.1.1.0)))

    limit_few : m ≤ 3
    limit_few =
        by_test (within 7 f 8) (λ q. held_high 0 3 m (subst (λ (u : Bool). held u 0 3 m ≡ true) q values.1.1.1.1.1.1.0))
        (λ q. omega (arith, held_zero 0 3 m (subst (λ (u : Bool). held u 0 3 m ≡ true) q values.1.1.1.1.1.1.0)))

    most : n ≤ most_whole f given
    most = leb-true n (most_whole f given) tests.1.1.1.0

    n_few : n ≤ 3
    unfolding most_whole
    n_few = omega (arith, most, get_d_le 3 f (0 ∷ 0 ∷ 0 ∷ 0 ∷ s ∷ s ∷ 0 ∷ m ∷ m ∷ []) (omega arith, (omega arith, (omega arith, (omega arith, (less_few, (less_few, (omega arith, (limit_few, (limit_few, tt))))))))))

    K_few : K ≤ 4
    unfolding stages_whole
    K_few =
        get_d_le 4 f (0 ∷ 0 ∷ cond (eqb x.version 1) (s + 1) 0 ∷ 0 ∷ n ∷ n ∷ (s + 1) ∷ (s + 1) ∷ (s + 1) ∷ [])
        (omega arith, (omega arith, (cond_le (eqb x.version 1) 4 (s + 1) 0 (omega (arith, less_few)) (omega arith), (omega arith, (omega (arith, n_few), (omega (arith, n_few), (omega (arith, less_few), (omega (arith, less_few), (omega (arith, less_few), tt)))))))))

    J_few : J ≤ 4
    unfolding tuples_whole
    J_few =
        get_d_le 4 f (0 ∷ 0 ∷ 0 ∷ 0 ∷ 0 ∷ 0 ∷ 0 ∷ n ∷ n ∷ []) (omega arith, (omega arith, (omega arith, (omega arith, (omega arith, (omega arith, (omega arith, (omega (arith, n_few), (omega (arith, n_few), tt)))))))))

    stage_parts : (list_all stage_ok (take K gs) ≡ true) × (list_all stage_unused (drop K gs) ≡ true)
    unfolding stages_fit
    stage_parts = and_parts (list_all stage_ok (take K gs)) (list_all stage_unused (drop K gs)) tests.1.1.1.1.0

    tuple_parts : (eqb (offset_at (get_or ts 0 no_tuple)) 0 ≡ true) × ((tuples_ok (take J ts) ≡ true) × (list_all tuple_unused (drop J ts) ≡ true))
    unfolding tuples_fit
    tuple_parts =
        let u = and_parts (eqb (offset_at (get_or ts 0 no_tuple)) 0) (tuples_ok (take J ts) && list_all tuple_unused (drop J ts)) tests.1.1.1.1.1.0 in
        (u.0, and_parts (tuples_ok (take J ts)) (list_all tuple_unused (drop J ts)) u.1)

    stages_held : Holds 4 no_stage K gs
    stages_held = holds_of 4 K no_stage gs four K_few (all_none stage_unused no_stage no_stage_lem (drop K gs) stage_parts.1)

    tuples_held : Holds 4 no_tuple J ts
    tuples_held = holds_of 4 J no_tuple ts places J_few (all_none tuple_unused no_tuple no_tuple_lem (drop J ts) tuple_parts.1.1)

    set_valid : ValidSet x
    set_valid = valid_set x tests.0

    set_either : Either x.version
    set_either = ⊎_elim (λ (q : (x.version ≡ 1) × (list_all one_stage (streams_of x) ≡ true)). inl q.0) (λ (q : x.version ≡ 2). inr q) (version_cases x set_valid)

    low_is : low ≡ last_of 0 (take J ts)
    low_is = eqb-true low (last_of 0 (take J ts)) values.1.1.1.1.1.1.1.1.0

    given_is : given ≡ vals N d s t m z (last_of 0 (take J ts))
    given_is =
        let i : a ≡ 0 = eqb-true a 0 values.0 in
        let j : h ≡ 0 = eqb-true h 0 values.1.1.1.1.1.0 in
        let k : low ≡ last_of 0 (take J ts) = low_is in
        cc

    streams_pass : All Passed (streams_of x)
    unfolding valid
    streams_pass = all_all stream_ok Passed (λ y v. v) (streams_of x) (every_all (set_tests x) tests.0).1.0

    streams_held : Holds 16 no_stream x.count x.streams
    streams_held = set_holds x set_valid placed

    said : Said f n N d s t m z (take K gs) (take J ts) x
    unfolding most_whole
    said =
        record {
          set =
              record {
                either = set_either;
                whole = whole_set x streams_held;
                fine =
                    all_zip Passed (λ (y : Stream). FourPlaces y × Staged x.version y) (Fine x.version) (streams_of x) (λ y v w. record { ok = v; valid = valid_stream y v; four = w.0; staged = w.1 }) streams_pass
                    (all_zip FourPlaces (Staged x.version) (λ (y : Stream). FourPlaces y × Staged x.version y) (streams_of x) (λ y v w. (v, w)) (all_take FourPlaces x.count x.streams placed.four) (set_staged x set_valid));
                used = streams_held.used;
              };
          version = tests.1.0;
          count = tests.1.1.0;
          most = most;
          long = stages_held.used;
          staged = all_all stage_ok ValidStage valid_stage (take K gs) stage_parts.0;
          many = tuples_held.used;
          chain = chain_first (take J ts) (first_zero J ts tuple_parts.0) tuple_parts.1.0;
          values = subst (λ (l : List ℕ). All Passes (value_tests x.version f (last_of 0 (take J ts)) l)) given_is values;
        }

    -- the state as it stands is the one that is reached
    same_state : (i j : ℕ) → reading f n (vals N d s t m z (last_of 0 (take J ts))) (padded 4 no_stage (take K gs)) (padded 4 no_tuple (take J ts)) x i j ≡ reading f n given gs ts x i j
    same_state i j =
        ap₂ (λ (l : List Stage) (r : List TuplePlace). reading f n (vals N d s t m z (last_of 0 (take J ts))) l r x i j) (whole_places 4 no_stage K gs stages_held) (whole_places 4 no_tuple J ts tuples_held)
        ∙ ap (λ (l : List ℕ). reading f n l gs ts x i j) (sym given_is)

    before_is : before_row f n (vals N d s t m z (last_of 0 (take J ts))) x ≡ before_row f n given x
    before_is = ap (λ (l : List ℕ). before_row f n l x) (sym given_is)

    pub fits_reached : (i j : ℕ) → f < 17 → 0 < j → j ≤ width_of f → i < 2 ^ (width_of f - j) → Reached (reading f n given gs ts x i j) (before_row f n given x + (width_of f - j))
    fits_reached i j b u v w =
        reach_as (same_state i j) (ap (λ (k : ℕ). k + (width_of f - j)) before_is)
        (reach_part f n (vals N d s t m z (last_of 0 (take J ts))) (padded 4 no_stage (take K gs)) (padded 4 no_tuple (take J ts)) x
        (row_reached n N d s t m z (take K gs) (take J ts) x f b said) i j u v w)

    pub fits_refused : 17 ≤ f → refused_of f ≡ begun f n given gs ts x
    fits_refused b = row_refused n N d s t m z (take K gs) (take J ts) x f b said ∙ same_state 0 (width_of f)
