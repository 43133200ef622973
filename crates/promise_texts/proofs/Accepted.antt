-- What a text reads as is a valid set.
-- Assumes nothing.
use Prim.Native.Nat.{ℕ, zero, suc, ◌+◌, ◌-◌, ◌*◌, ◌≤◌, ◌<◌}
use native.Mathlib.Omega.{arith}
use mathlib.Core.Path.{◌≡◌, refl, ap, ◌∙◌}
use mathlib.Core.Bool.{true, false, cond}
use mathlib.Core.List.{List, [], ◌∷◌, ◌++◌, append-nil}
use lib.ListN.{length, drop, length-append}
use lib.Seq.{append_snoc}
use lib.Dec.{leb, ltb, eqb}
use borrow.Author.Tests.{le-leb, leb-true, ltb-true, eqb-true, eqb-false}
use Rattle.laws.specs.Lists.{All, within}
use Rattle.laws.proofs.Sums.{by_test, and_parts, every_all}
use Rattle.laws.proofs.Fields.{all_append}
use Rattle.rules.specs.declared.Tuple.{Tuple}
use Rattle.rules.specs.declared.Tuple.TheVariants.{Once, Every}
use Rattle.rules.specs.declared.TuplePlace.{TuplePlace}
use Rattle.rules.specs.declared.Stage.{Stage}
use Rattle.rules.specs.declared.Stream.{Stream}
use Rattle.std.specs.Prelude.{Result, Ok, Err, Option, Some, None}
use Rattle.rules.specs.declared.Refusal.{Refusal}
use Rattle.rules.specs.declared.Refusal.TheVariants.{OutOfRule}
use Rattle.rules.specs.Streams.{offset, jitter_ok, jitter_of}
use Rattle.rules.specs.Sheet.{stream_of}
use Rattle.rules.specs.Valid.{Between, ValidCycle, ValidStage}
use Rattle.sheet_carried.proofs.Filled.{cond_elim}
use Rattle.sheet_carried.proofs.Streams.{Chain, GoodStream, set_ok, set_placed, stream_four, stream_ok_lem}
use Rattle.ascii.specs.Decimal.{letters, read_on}
use Rattle.ascii.specs.Same.{same}
use Rattle.text_line.specs.declared.Fault.{Fault}
use Rattle.text_line.specs.declared.Fault.TheVariants.{NotTask, Task, NotCost, Cost, NotDeadline, Deadline, NotTuple, Cycle, Offset, FiveTuples, NotJitter, Jitter, LongLine, LateVersion, ManyStreams}
use Rattle.text_line.specs.declared.NumberFault.{NumberFault}
use Rattle.text_line.specs.declared.NumberFault.TheVariants.{Missing, Outside}
use Rattle.text_line.specs.declared.Said.{Said}
use Rattle.text_line.specs.declared.Said.TheVariants.{Stream as IsStream, Version}
use Rattle.text_line.specs.Lines.{digits, starts_at, ended_at, number_at, field_at, by_field, needed, leads, by_stage, every_at, tuple_at, added, finished, tuples_at, by_jitter, alone, jitter_said, each_way_at, jitter_at, limit_at, with_deadline, deadline_at, stages_end, space_at, cost_at, pair_at, staged, most_stages, too_many, stages_at, version_text, line_read, longest}
use Rattle.text_line.specs.Lines as lines
use Rattle.text_tidy.specs.Tidied.{tidied}
use Rattle.rules.specs.declared.Set.{Set}
use Rattle.text_read.specs.declared.BadLine.{BadLine}
use Rattle.text_read.specs.Texts.{first_line, more_lines, line_says, by_said, untold, following, is_bad, lines_read, text_read}
use Rattle.promise_texts.specs.Returns.{Fit, ReadValid}
use Rattle.promise_texts.proofs.Lines.{added_more, staged_more}

-- ---- a property of every way that a field can end

module _ {A : Type 0} (P : A → Type 0) (missing outside : A) (next : ℕ → ℕ → A) where
  field_ends : (w : List ℕ) (low high : ℕ) (l : List ℕ) (at : ℕ) → P missing → P outside → ((n e : ℕ) → within low n high ≡ true → P (next n e))
      → P (by_field (field_at w low high l at) missing outside next)
  unfolding field_at number_at ended_at by_field
  field_ends w low high l at m o is =
      let Q : Result (ℕ × ℕ) NumberFault → Type 0 = λ f. P (by_field f missing outside next) in
      let from : ℕ = at + length w in
      let end : ℕ = from + length (digits (drop from l)) in
      let n : ℕ = read_on 0 (digits (drop from l)) in
      cond_elim Q (starts_at w l at) (number_at low high l from) (Err Missing)
      (λ s. cond_elim Q (eqb end from) (Err Missing) (cond (within low n high) (Ok (n, end)) (Err Outside)) (λ e. m)
      (λ e. cond_elim Q (within low n high) (Ok (n, end)) (Err Outside) (λ i. is n end i) (λ i. o)))
      (λ s. m)

-- and of every way that a field that a line needs can end
module _ {A : Type 0} (P : Result A Fault → Type 0) (missing outside : Fault) (next : (ℕ × ℕ) → Result A Fault) where
  need_ends : (w : List ℕ) (low high : ℕ) (l : List ℕ) (at : ℕ) → P (Err missing) → P (Err outside) → ((n e : ℕ) → within low n high ≡ true → P (next (n, e)))
      → P (leads (needed (field_at w low high l at) missing outside) next)
  unfolding needed leads
  need_ends w low high l at m o is =
      field_ends (λ (r : Result (ℕ × ℕ) Fault). P (leads r next)) (Err missing) (Err outside) (λ n e. Ok (n, e)) w low high l at m o is

between : (a x b : ℕ) → within a x b ≡ true → Between a x b
between a x b e =
    let u : (leb a x ≡ true) × (leb x b ≡ true) = and_parts (leb a x) (leb x b) e in
    record { low = leb-true a x u.0; high = leb-true x b u.1 }

-- ---- of a tuple

module _ (Q : Result (Tuple × ℕ) Fault → Type 0) (low high : ℕ) (l : List ℕ) (wrong : (why : Fault) → Q (Err why))
    (right : (t : Tuple) (end : ℕ) → within low (offset t) high ≡ true → ValidCycle t → Q (Ok (t, end))) where
  tuple_ends : (at : ℕ) → Q (tuple_at low high l at)
  unfolding tuple_at every_at lines.offset_at
  tuple_ends at =
      field_ends Q (every_at low high l at) (Err Offset) (λ a end. Ok (Once a, end)) (letters " once@") low high l at
      (need_ends Q NotTuple Cycle (λ (z, end). lines.offset_at z low high l end) (letters " every ") 1 1000000 l at (wrong NotTuple) (wrong Cycle)
      (λ z end e. need_ends Q NotTuple Offset (λ (a, last). Ok (Every z a, last)) (letters "@") low high l end (wrong NotTuple) (wrong Offset)
      (λ a last f. right (Every z a) last f (between 1 z 1000000 e))))
      (wrong Offset)
      (λ a end e. right (Once a) end e tt)

-- ---- of a stage

high_of : (a x b : ℕ) → within a x b ≡ true → x ≤ b
high_of a x b e = (between a x b e).high

module _ (Q : Result (Option (Stage × ℕ)) Fault → Type 0) (l : List ℕ) (none : Q (Ok None)) (wrong : (why : Fault) → Q (Err why))
    (right : (g : Stage) (end : ℕ) → ValidStage g → Q (Ok (Some (g, end)))) where
  some_stage : (Stage × ℕ) → Result (Option (Stage × ℕ)) Fault
  some_stage g = Ok (Some g)

  pair_ends : (at : ℕ) → Q (pair_at l at)
  unfolding pair_at cost_at space_at leads some_stage
  pair_ends at =
      let R : Result (Stage × ℕ) Fault → Type 0 = λ r. Q (leads r some_stage) in
      field_ends Q (Ok None) (Err Task) (λ task end. leads (cost_at task l end) some_stage) (letters "task ") 0 15 l at none (wrong Task)
      (λ task end t. need_ends R NotCost Cost (λ (cost, last). space_at task cost l last) (letters " cost ") 1 65535 l end (wrong NotCost) (wrong Cost)
      (λ cost last c. cond_elim R (starts_at (letters " ") l last) (Ok (record { task = task; cost = cost }, last + 1)) (Err NotDeadline)
      (λ e. right (record { task = task; cost = cost }) (last + 1) (record { task = high_of 0 task 15 t; cost = between 1 cost 65535 c })) (λ e. wrong NotDeadline)))

-- ---- of a line

positive : (n : ℕ) → (n ≡ 0 → ⊥) → 0 < n
positive zero h = absurd (h refl)
positive (suc n) h = omega arith

-- with no tuple more
whole : (ts : List TuplePlace) (low high : ℕ) → ((qs : List TuplePlace) → Chain low high qs → Chain 0 0 (ts ++ qs)) → Chain 0 0 ts
whole ts low high h = rw (append-nil ts) at (h [] tt)

-- stages that a stream of the version may have
pub record GoodStages (version : ℕ) (gs : List Stage) : Type 0 where
  pub deep : 0 < length gs
  pub shallow : length gs ≤ 4
  pub one : version ≡ 1 → length gs ≡ 1
  pub valid : All ValidStage gs

module _ (version : ℕ) where
  abbrev Good : Result Stream Fault → Type 0
  Good (Ok s) = GoodStream version s
  Good (Err why) = Unit {0}

  no_stream_lem : (why : Fault) → Good (Err why)
  no_stream_lem why = tt

  module _ (gs : List Stage) (v : GoodStages version gs) (d : ℕ) (f : within 1 d 200000 ≡ true) (l : List ℕ) where
    ended : (ts : List TuplePlace) → length ts ≤ 4 → Chain 0 0 ts → Good (finished (stream_of gs d ts))
    ended ts few h =
        cond_elim Good (eqb (length ts) 0) (Err NotTuple) (Ok (stream_of gs d ts)) (λ e. no_stream_lem NotTuple)
        (λ e. record {
          ok = stream_ok_lem gs d ts v.shallow few v.deep v.valid f (some e) h;
          four = stream_four gs d ts v.shallow few;
          staged = v.one;
        })
      where
        some : eqb (length ts) 0 ≡ false → 0 < length ts
        some e = positive (length ts) (eqb-false (length ts) 0 e)

    tuples_end : (n : ℕ) (ts : List TuplePlace) (low high at : ℕ) → length ts + n ≤ 4 → high ≤ 100000
        → ((qs : List TuplePlace) → Chain low high qs → Chain 0 0 (ts ++ qs)) → Good (tuples_at n (stream_of gs d ts) low high l at)
    unfolding tuples_at leads
    tuples_end zero ts low high at few k h =
        cond_elim Good (leb (length l) at) (finished (stream_of gs d ts)) (Err FiveTuples) (λ e. ended ts (omega arith) (whole ts low high h)) (λ e. no_stream_lem FiveTuples)
    tuples_end (suc n) ts low high at few k h =
        let next : (Tuple × ℕ) → Result Stream Fault = λ (u, end). tuples_at n (added (stream_of gs d ts) u) (offset u) 100000 l end in
        cond_elim Good (leb (length l) at) (finished (stream_of gs d ts)) (leads (tuple_at low high l at) next) (λ e. ended ts (omega arith) (whole ts low high h))
        (λ e. tuple_ends (λ r. Good (leads r next)) low high l (λ why. no_stream_lem why)
        (λ u end i w. rw (added_more gs d ts (record { tuple = u }) (omega arith))
        (tuples_end n (ts ++ (record { tuple = u } ∷ [])) (offset u) 100000 end (omega (arith, length-append ts (record { tuple = u } ∷ []))) (omega arith)
        (λ qs q. rw (append_snoc ts (record { tuple = u }) qs) (h (record { tuple = u } ∷ qs) (i, (record { offset = omega (arith, high_of low (offset u) high i); cycle = w }, q))))))
        at)

    -- the two tuples of a jitter
    both_end : (z a at : ℕ) → within 1 z 1000000 ≡ true → a ≤ 100000 → Good (alone (added (added (stream_of gs d []) (Once 0)) (Every z a)) l at)
    both_end z a at h g =
        let o : TuplePlace = record { tuple = Once 0 } in
        let y : TuplePlace = record { tuple = Every z a } in
        let two : added (added (stream_of gs d []) (Once 0)) (Every z a) ≡ stream_of gs d (o ∷ (y ∷ [])) =
        ap (λ (s : Stream). added s (Every z a)) (added_more gs d [] o (omega arith)) ∙ added_more gs d (o ∷ []) y (omega arith) in
        let chain : Chain 0 0 (o ∷ (y ∷ [])) =
        (refl, (record { offset = omega arith; cycle = tt }, (rw (le-leb 0 a (omega arith), le-leb a 100000 g), (record { offset = g; cycle = between 1 z 1000000 h }, tt)))) in
        rw two (cond_elim Good (leb (length l) at) (Ok (stream_of gs d (o ∷ (y ∷ [])))) (Err NotJitter) (λ e. ended (o ∷ (y ∷ [])) (omega arith) chain) (λ e. no_stream_lem NotJitter))

    jitter_ends : (z j at : ℕ) → Good (jitter_said (stream_of gs d []) z j l at)
    unfolding jitter_said jitter_of jitter_ok by_jitter
    jitter_ends z j at =
        let next : Tuple → Tuple → Result Stream Fault = λ t u. alone (added (added (stream_of gs d []) t) u) l at in
        cond_elim (λ (w : Result (Tuple × Tuple) Refusal). Good (by_jitter w next)) (jitter_ok z j) (Ok (Once 0, Every z (z - 2 * j))) (Err OutOfRule)
        (λ e. let u = every_all (within 1 z 1000000 ∷ leb (2 * j) z ∷ leb (z - 2 * j) 100000 ∷ []) e in
        both_end z (z - 2 * j) at u.0 (leb-true (z - 2 * j) 100000 u.1.1.0))
        (λ e. no_stream_lem Jitter)

    limit_ends : (at : ℕ) → Good (limit_at (stream_of gs d []) l at)
    unfolding limit_at jitter_at each_way_at
    limit_ends at =
        let s : Stream = stream_of gs d [] in
        cond_elim Good (starts_at (letters " jitter") l at) (jitter_at s l at) (tuples_at 4 s 0 0 l at)
        (λ e. need_ends Good NotJitter Jitter (λ (z, end). each_way_at s z l end) (letters " jitter ") 0 4294967295 l at (no_stream_lem NotJitter) (no_stream_lem Jitter)
        (λ z end h. need_ends Good NotJitter Jitter (λ (j, last). jitter_said s z j l last) (letters " ") 0 4294967295 l end (no_stream_lem NotJitter) (no_stream_lem Jitter)
        (λ j last g. jitter_ends z j last)))
        (λ e. tuples_end 4 [] 0 0 at (omega arith) (omega arith) (λ qs q. q))

  -- behind the stages
  over_ends : (gs : List Stage) (l : List ℕ) (at : ℕ) → length gs ≤ 4 → (version ≡ 1 → length gs ≤ 1) → All ValidStage gs → Good (stages_end (stream_of gs 0 []) l at)
  unfolding deadline_at
  over_ends gs l at few one v =
      let s : Stream = stream_of gs 0 [] in
      cond_elim Good (eqb (length gs) 0) (Err NotTask) (deadline_at s l at) (λ e. no_stream_lem NotTask)
      (λ e. need_ends Good NotDeadline Deadline (λ (d, end). limit_at (with_deadline s d) l end) (letters "deadline ") 1 200000 l at (no_stream_lem NotDeadline) (no_stream_lem Deadline)
      (λ d end f. limit_ends gs (good e) d f l end))
    where
      good : eqb (length gs) 0 ≡ false → GoodStages version gs
      good e =
          let deep : 0 < length gs = positive (length gs) (eqb-false (length gs) 0 e) in
          record { deep = deep; shallow = few; one = λ h. let most : length gs ≤ 1 = one h in omega arith; valid = v }

  stages_end_lem : (n : ℕ) (gs : List Stage) (l : List ℕ) (at : ℕ) → length gs + n ≤ 4 → (version ≡ 1 → length gs + n ≤ 1) → All ValidStage gs
      → Good (stages_at version n (stream_of gs 0 []) l at)
  unfolding stages_at by_stage
  stages_end_lem zero gs l at few one v =
      cond_elim Good (starts_at (letters "task ") l at) (Err (too_many version)) (stages_end (stream_of gs 0 []) l at) (λ e. no_stream_lem (too_many version))
      (λ e. over_ends gs l at (omega arith) (λ h. let most : length gs + 0 ≤ 1 = one h in omega arith) v)
  stages_end_lem (suc n) gs l at few one v =
      let next : Stage → ℕ → Result Stream Fault = λ g end. stages_at version n (staged (stream_of gs 0 []) g) l end in
      pair_ends (λ r. Good (by_stage r (stages_end (stream_of gs 0 []) l at) next)) l
      (over_ends gs l at (omega arith) (λ h. let most : length gs + suc n ≤ 1 = one h in omega arith) v)
      (λ why. no_stream_lem why)
      (λ g end w. rw (staged_more gs 0 [] g (omega arith))
      (let size : length (gs ++ (g ∷ [])) ≡ length gs + 1 = length-append gs (g ∷ []) in
      stages_end_lem n (gs ++ (g ∷ [])) l end (omega arith) (λ h. let most : length gs + suc n ≤ 1 = one h in omega arith) (all_append ValidStage gs (g ∷ []) v (w, tt))))
      at

  abbrev GoodSaid : Result (Option Said) Fault → Type 0
  GoodSaid (Ok (Some (IsStream s))) = GoodStream version s
  GoodSaid (Ok (Some Version)) = Unit {0}
  GoodSaid (Ok None) = Unit {0}
  GoodSaid (Err why) = Unit {0}

  said_good : (r : Result Stream Fault) → Good r → GoodSaid (leads r (λ s. Ok (Some (IsStream s))))
  unfolding leads
  said_good (Ok s) g = g
  said_good (Err why) g = tt

  line_ends : (l : List ℕ) → GoodSaid (line_says version l)
  unfolding line_says line_read
  line_ends l =
      cond_elim GoodSaid (leb (length l) (longest version)) (line_read version l) (Err LongLine)
      (λ e. cond_elim GoodSaid (eqb (length l) 0) (Ok None) _ (λ n. tt)
      (λ n. cond_elim GoodSaid (same l version_text) (Ok (Some Version)) _ (λ t. tt)
      (λ t. said_good (stages_at version (most_stages version) (stream_of [] 0 []) l 0)
      (stages_end_lem (most_stages version) [] l 0 (omega (arith, most)) (λ h. let z : most_stages version ≡ 1 = rw h in omega arith) tt))))
      (λ e. tt)
    where
      most : most_stages version ≤ 4
      most = by_test (eqb version 1) (λ e. rw e (omega arith)) (λ e. rw e (omega arith))

-- ---- of a text

abbrev Fits : Result Set BadLine → Type 0
Fits (Ok x) = Fit x
Fits (Err bad) = Unit {0}

no_set_lem : (n : ℕ) (why : Fault) → Fits (is_bad n why)
no_set_lem n why = tt

-- no stream is a stream of any version
none_good : (version : ℕ) (ss : List Stream) → length ss ≡ 0 → All (GoodStream version) ss
none_good version [] e = tt
none_good version (s ∷ ss) e = absurd (omega arith)

lines_end : (ls : List (List ℕ)) (version n : ℕ) (ss : List Stream) → within 1 version 2 ≡ true → length ss ≤ 16 → All (GoodStream version) ss
    → Fits (lines_read version n ss ls)
unfolding lines_read
lines_end [] version n ss w few g = record { placed = set_placed version ss few g; ok = set_ok version ss w few g }
lines_end (l ∷ ls) version n ss w few g =
    said_ends (line_says version (tidied l)) (line_ends version (tidied l))
    (λ s h k. lines_end ls version (following n) (ss ++ (s ∷ [])) w (omega (arith, length-append ss (s ∷ []))) (all_append (GoodStream version) ss (s ∷ []) g (k, tt)))
    (λ e. lines_end ls 2 (following n) ss refl few (none_good 2 ss e))
    (lines_end ls version (following n) ss w few g)
  where
    said_ends : (r : Result (Option Said) Fault) → GoodSaid version r
        → ((s : Stream) → length ss < 16 → GoodStream version s → Fits (lines_read version (following n) (ss ++ (s ∷ [])) ls))
        → (length ss ≡ 0 → Fits (lines_read 2 (following n) ss ls))
        → Fits (lines_read version (following n) ss ls)
        → Fits (by_said r (λ s. cond (ltb (length ss) 16) (lines_read version (following n) (ss ++ (s ∷ [])) ls) (is_bad n ManyStreams)) (cond (untold version (length ss)) (lines_read 2 (following n) ss ls) (is_bad n LateVersion)) (lines_read version (following n) ss ls) (λ why. is_bad n why))
    said_ends (Ok (Some (IsStream s))) good more two on =
        cond_elim Fits (ltb (length ss) 16) (lines_read version (following n) (ss ++ (s ∷ [])) ls) (is_bad n ManyStreams)
        (λ e. more s (ltb-true (length ss) 16 e) good) (λ e. no_set_lem n ManyStreams)
    said_ends (Ok (Some Version)) good more two on =
        cond_elim Fits (untold version (length ss)) (lines_read 2 (following n) ss ls) (is_bad n LateVersion)
        (λ e. two (eqb-true (length ss) 0 (and_parts (eqb version 1) (eqb (length ss) 0) e).1)) (λ e. no_set_lem n LateVersion)
    said_ends (Ok None) good more two on = on
    said_ends (Err why) good more two on = no_set_lem n why

pub read_valid : ReadValid
unfolding ReadValid text_read
read_valid l x e = let f : Fits (text_read l) = lines_end (first_line l ∷ more_lines l) 1 1 [] refl (omega arith) tt in rw e at f
