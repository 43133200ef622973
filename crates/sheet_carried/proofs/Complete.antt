-- Every field that is in its rule leads from a state of which the tests say what they say to another one, and its bits are counted.
-- Assumes nothing.
use Prim.Native.Nat.{ℕ, ◌+◌, ◌-◌, ◌*◌, ◌≤◌, ◌<◌}
use mathlib.Core.List.{List, [], ◌∷◌, ◌++◌}
use mathlib.Core.Path.{◌≡◌, refl, sym, ap, ap₂, ◌∙◌, subst}
use mathlib.Core.Bool.{Bool, true, false, cond, ◌||◌, false≢true}
use mathlib.Core.Logic.{inl, inr, ⊎_elim}
use native.Mathlib.Omega.{arith}
use lib.ListN.{length, get_or, set, take, replicate}
use lib.Seq.{set_out, take-append_seam}
use lib.Dec.{eqb, ltb}
use borrow.Author.Tests.{eq-eqb, eqb-false, eqb-true, le-ltb, lt-ltb, ltb-false, ltb-true, ne_eqb}
use Rattle.laws.specs.Lists.{All, sum, within}
use Rattle.laws.proofs.Sums.{Holds as Passes, and_parts, by_test}
use Rattle.laws.proofs.Gates.{sum_last}
use Rattle.laws.proofs.Fields.{all_append}
use Rattle.rules.specs.declared.TuplePlace.{TuplePlace}
use Rattle.rules.specs.declared.Stage.{Stage}
use Rattle.rules.specs.declared.Stream.{Stream}
use Rattle.rules.specs.declared.Set.{Set}
use Rattle.rules.specs.Streams.{no_stage, no_stream, no_tuple, offset_at, stream_ok, streams_of}
use Rattle.rules.specs.Sheet.{set_of, stream_of, tuple_of}
use Rattle.rules.specs.Valid.{ValidPlace, ValidStage}
use Rattle.rules.proofs.Valid.{valid_stream}
use Rattle.sheet_carried.specs.declared.Carried.{Carried}
use Rattle.sheet_carried.specs.Table.{behind_of, following_of, greatest_of, in_rule_of, least_of, opened_of, row_of, width_of}
use Rattle.sheet_carried.specs.Reader.{begun, behind_version, goes_on, last_stage, next_field, next_stage, next_stream, next_tuple, no_stages, no_tuples, with_stream, with_version}
use Rattle.sheet_carried.specs.Kept.{most_whole, stages_whole, tuples_whole}
use Rattle.sheet_carried.specs.Left.{before_row, count_fits, dated, deepened, held, last_of, part_room, stream_room, streams_room, value_tests, version_fits}
use Rattle.sheet_carried.proofs.Filled.{cond_elim}
use Rattle.sheet_carried.proofs.Streams.{Chain, cycle_of_lem, offset_of, stream_four, stream_ok_lem, within_high, within_is, within_low}
use Rattle.sheet_carried.proofs.Chains.{chain_snoc, last_snoc, top_is, top_of}
use Rattle.sheet_carried.proofs.Rows.{by_value_row, pad_rule, same_order, width_pad, width_some}
use Rattle.sheet_carried.proofs.Keeps.{goes_pad, padding_most, padding_stages, padding_tuples}
use Rattle.sheet_carried.proofs.Reached.{padded, set_padded, snoc_length, vals}
use Rattle.sheet_carried.proofs.Streamed.{Either, Fine, one_more}
use Rattle.sheet_carried.proofs.Sound as sound
use Rattle.sheet_carried.proofs.Sound.{Said, Streams, dated_is, deep_none, held_high, held_zero, none_of, outside, padding_room}

-- ---- values

values_of : (version f N d s t m z low : ℕ) → held (within 2 f 16) 0 16 N ≡ true → held (dated version f) 1 200000 d ≡ true → held (deepened version f) 0 3 s ≡ true
    → held (eqb f 5) 0 15 t ≡ true → held (within 7 f 8) 0 3 m ≡ true → held (eqb f 8) 0 1000000 z ≡ true → All Passes (value_tests version f low (vals N d s t m z low))
values_of version f N d s t m z low a b c e g h = (refl, (a, (b, (c, (e, (refl, (g, (h, (eq-eqb low low refl, tt)))))))))

held_not : (b : Bool) (low high : ℕ) → b ≡ false → held b low high 0 ≡ true
unfolding held
held_not b low high e = ap (λ (u : Bool). cond u (within low 0 high) true) e

held_is : (b : Bool) (low high v : ℕ) → b ≡ true → within low v high ≡ true → held b low high v ≡ true
unfolding held
held_is b low high v e h = ap (λ (u : Bool). cond u (within low v high) (eqb v 0)) e ∙ h

-- ---- a state of which the tests say what they say, behind k bits, and no bit of its next field

pub record Reads (c : Carried) (k : ℕ) : Type 0 where
  pub f : ℕ
  pub n : ℕ
  pub N : ℕ
  pub d : ℕ
  pub s : ℕ
  pub t : ℕ
  pub m : ℕ
  pub z : ℕ
  pub gs : List Stage
  pub ts : List TuplePlace
  pub x : Set
  pub said : Said f n N d s t m z gs ts x
  pub row : f < 17
  pub same : c ≡ begun f n (vals N d s t m z (last_of 0 ts)) (padded 4 no_stage gs) (padded 4 no_tuple ts) x
  pub room : before_row f n (vals N d s t m z (last_of 0 ts)) x ≡ k

reads_as : {c e : Carried} {k j : ℕ} → c ≡ e → k ≡ j → Reads e k → Reads c j
reads_as p q r =
    record {
      f = r.f;
      n = r.n;
      N = r.N;
      d = r.d;
      s = r.s;
      t = r.t;
      m = r.m;
      z = r.z;
      gs = r.gs;
      ts = r.ts;
      x = r.x;
      said = r.said;
      row = r.row;
      same = p ∙ r.same;
      room = r.room ∙ q;
    }

either_fits : (version f : ℕ) → ltb f 3 || ltb 3 f ≡ true → within 1 f 16 ≡ true → version_fits version f ≡ true
unfolding version_fits
either_fits version f a b = by_bool (eqb version 1)
  where
    by_bool : (t : Bool) → cond t (ltb f 3 || ltb 3 f) (within 1 f 16) ≡ true
    by_bool true = a
    by_bool false = b

either_of : (v : ℕ) → within 1 v 2 ≡ true → Either v
either_of v e = by_test (eqb v 1) (λ q. inl (eqb-true v 1 q)) (λ q. inr (omega (arith, eqb-false v 1 q, within_low 1 v 2 e, within_high 1 v 2 e)))

-- a value stays as it is, read before or not
stays : (a b : Bool) (low high v : ℕ) → a ≡ b → held a low high v ≡ true → held b low high v ≡ true
stays a b low high v e h = subst (λ (u : Bool). held u low high v ≡ true) e h

-- ---- a stream comes, or the padding

module _ (N : ℕ) (x : Set) (few : N ≤ 16) (ss : Streams x) where
  -- nothing has been read of a stream
  zero_at : (f : ℕ) → f < 17 → version_fits x.version f ≡ true → count_fits f x.count N ≡ true → stages_whole x.version 0 f 0 ≡ 0 → tuples_whole f 0 ≡ 0 → within 2 f 16 ≡ true → dated x.version f ≡ false
      → deepened x.version f ≡ false → eqb f 5 ≡ false → within 7 f 8 ≡ false → eqb f 8 ≡ false
      → Reads (begun f 0 (vals N 0 0 0 0 0 0) no_stages no_tuples x) (before_row f 0 (vals N 0 0 0 0 0 0) x)
  unfolding last_of
  zero_at f l a b c e g h i j k o =
      record {
        f = f;
        n = 0;
        N = N;
        d = 0;
        s = 0;
        t = 0;
        m = 0;
        z = 0;
        gs = [];
        ts = [];
        x = x;
        said =
            record {
              set = ss;
              version = a;
              count = b;
              most = omega arith;
              long = sym c;
              staged = tt;
              many = sym e;
              chain = tt;
              values =
                  values_of x.version f N 0 0 0 0 0 0 (held_is (within 2 f 16) 0 16 N g (within_is 0 N 16 (omega arith) few)) (held_not (dated x.version f) 1 200000 h) (held_not (deepened x.version f) 0 3 i) (held_not (eqb f 5) 0 15 j)
                  (held_not (within 7 f 8) 0 3 k) (held_not (eqb f 8) 0 1000000 o);
            };
        row = l;
        same = refl;
        room = refl;
      }

  open_at : (f : ℕ) → f < 17 → version_fits x.version f ≡ true → count_fits f x.count N ≡ true → stages_whole x.version 0 f 0 ≡ 0 → tuples_whole f 0 ≡ 0 → within 2 f 16 ≡ true → dated x.version f ≡ false
      → deepened x.version f ≡ false → eqb f 5 ≡ false → within 7 f 8 ≡ false → eqb f 8 ≡ false → eqb f 0 ≡ false → eqb f 1 ≡ false → part_room x.version 0 f 0 ≡ 0 → opened_of x.version x.count N ≡ f
      → Reads (begun (opened_of x.version x.count N) 0 (vals N 0 0 0 0 0 0) no_stages no_tuples x) (9 + streams_room x)
  unfolding before_row
  open_at f l a b c e g h i j k o p q u w =
      reads_as (ap (λ (y : ℕ). begun y 0 (vals N 0 0 0 0 0 0) no_stages no_tuples x) w) (simp (p, q, u) (let y : 9 + streams_room x + 0 ≡ 9 + streams_room x = omega arith in y))
      (zero_at f l a b c e g h i j k o)

  opens_room : x.count < N → (f : ℕ) → behind_of x.version 1 ≡ f → opened_of x.version x.count N ≡ f
  unfolding opened_of
  opens_room h f e = ap (λ (b : Bool). cond b (behind_of x.version 1) 9) (lt-ltb x.count N h) ∙ e

  reads_open : x.count ≤ N → Reads (begun (opened_of x.version x.count N) 0 (vals N 0 0 0 0 0 0) no_stages no_tuples x) (9 + streams_room x)
  unfolding opened_of behind_of version_fits count_fits stages_whole tuples_whole dated deepened part_room
  reads_open h =
      by_test (ltb x.count N)
      (λ e. ⊎_elim
      (λ (v : x.version ≡ 1).
      open_at 4 (omega arith) (ap (λ (u : ℕ). version_fits u 4) v) e refl refl refl (ap (λ (u : ℕ). dated u 4) v) (ap (λ (u : ℕ). deepened u 4) v) refl refl refl refl refl (ap (λ (u : ℕ). part_room u 0 4 0) v)
      (opens_room (ltb-true x.count N e) 4 (ap (λ (u : ℕ). behind_of u 1) v)))
      (λ (v : x.version ≡ 2).
      open_at 2 (omega arith) (ap (λ (u : ℕ). version_fits u 2) v) e (ap (λ (u : ℕ). stages_whole u 0 2 0) v) refl refl (ap (λ (u : ℕ). dated u 2) v) (ap (λ (u : ℕ). deepened u 2) v) refl refl refl refl refl (ap (λ (u : ℕ). part_room u 0 2 0) v)
      (opens_room (ltb-true x.count N e) 2 (ap (λ (u : ℕ). behind_of u 1) v)))
      ss.either)
      (λ e. let a : x.count ≡ N = omega (arith, ltb-false x.count N e) in
      open_at 9 (omega arith) (either_fits x.version 9 refl refl) (eq-eqb x.count N a) refl refl refl (dated_is x.version 9 false refl refl) (deep_none x.version 9 refl) refl refl refl refl refl (padding_room x.version 0 9 0 (omega arith))
      (ap (λ (b : Bool). cond b (behind_of x.version 1) 9) e))

no_room : (x : Set) → x.count ≡ 0 → streams_room x ≡ 0
unfolding streams_room sum
no_room x e = ap (λ (j : ℕ). sum (stream_room x.version) (take j x.streams)) e

-- ---- one stream more

streams_in : (version : ℕ) (l : List Stream) → streams_of (set_of version l) ≡ l
streams_in version l = take-append_seam l (replicate (16 - length l) no_stream)

module _ (x : Set) (ss : Streams x) (s : Stream) (w : Fine x.version s) (room : x.count < 16) where
  abbrev more : List Stream
  more = streams_of x ++ (s ∷ [])

  next_set : with_stream x s ≡ set_of x.version more
  next_set = ap (λ (y : Set). with_stream y s) (sym ss.whole) ∙ one_more x.version (streams_of x) s (omega (arith, ss.used))

  streams_more : Streams (with_stream x s)
  streams_more =
      subst Streams (sym next_set)
      (record {
        either = ss.either;
        whole = ap (set_of x.version) (streams_in x.version more);
        fine = subst (All (Fine x.version)) (sym (streams_in x.version more)) (all_append (Fine x.version) (streams_of x) (s ∷ []) ss.fine (w, tt));
        used = ap length (streams_in x.version more);
      })

  room_streams : streams_room (with_stream x s) ≡ streams_room x + stream_room x.version s
  unfolding streams_room
  room_streams = ap (λ (y : Set). sum (stream_room x.version) (streams_of y)) next_set ∙ ap (sum (stream_room x.version)) (streams_in x.version more) ∙ sum_last (stream_room x.version) (streams_of x) s

-- ---- a field that is in its rule

module _ (n N d s t m z : ℕ) (gs : List Stage) (ts : List TuplePlace) (x : Set) (v : ℕ) where
  abbrev low : ℕ
  low = last_of 0 ts

  abbrev vs : List ℕ
  vs = vals N d s t m z low

  abbrev now : ℕ → Carried
  now r = goes_on r n vs (padded 4 no_stage gs) (padded 4 no_tuple ts) x v

  abbrev Told : ℕ → Type 0
  Told r = Said r n N d s t m z gs ts x

  abbrev Step : ℕ → Type 0
  Step r = Told r → in_rule_of r n low v ≡ true → Reads (now r) (before_row r n vs x + width_of r)

  module _ (f : ℕ) (q : Told f) where
    abbrev count_held : held (within 2 f 16) 0 16 N ≡ true
    count_held = q.values.1.0

    abbrev date_held : held (dated x.version f) 1 200000 d ≡ true
    date_held = q.values.1.1.0

    abbrev deep_held : held (deepened x.version f) 0 3 s ≡ true
    deep_held = q.values.1.1.1.0

    abbrev task_held : held (eqb f 5) 0 15 t ≡ true
    task_held = q.values.1.1.1.1.0

    abbrev limit_held : held (within 7 f 8) 0 3 m ≡ true
    limit_held = q.values.1.1.1.1.1.1.0

    abbrev cycle_held : held (eqb f 8) 0 1000000 z ≡ true
    cycle_held = q.values.1.1.1.1.1.1.1.0

  step_version : Step 0
  unfolding goes_on behind_version in_rule_of least_of greatest_of row_of before_row count_fits stages_whole tuples_whole most_whole
  step_version q r =
      let none : x.count ≡ 0 = sound.no_streams_lem n N d s t m z gs ts x 0 q refl refl in
      record {
        f = 1;
        n = n;
        N = N;
        d = d;
        s = s;
        t = t;
        m = m;
        z = z;
        gs = gs;
        ts = ts;
        x = with_version x v;
        said =
            record {
              set =
                  record {
                    either = either_of v r;
                    whole = ap (λ (y : Set). with_version y v) q.set.whole;
                    fine = subst (λ (j : ℕ). All (Fine v) (take j x.streams)) (sym none) tt;
                    used = q.set.used;
                  };
              version = either_fits v 1 refl refl;
              count = q.count;
              most = q.most;
              long = q.long;
              staged = q.staged;
              many = q.many;
              chain = q.chain;
              values =
                  values_of v 1 N d s t m z low (count_held 0 q) (stays (dated x.version 0) (dated v 1) 1 200000 d (dated_is x.version 0 false refl refl ∙ sym (dated_is v 1 false refl refl)) (date_held 0 q))
                  (stays (deepened x.version 0) (deepened v 1) 0 3 s (deep_none x.version 0 refl ∙ sym (deep_none v 1 refl)) (deep_held 0 q)) (task_held 0 q) (limit_held 0 q) (cycle_held 0 q);
            };
        row = omega arith;
        same = refl;
        room = refl;
      }

  step_count : Step 1
  unfolding goes_on next_field following_of in_rule_of least_of greatest_of row_of before_row last_of stages_whole tuples_whole most_whole
  step_count q r =
      let none : x.count ≡ 0 = sound.no_streams_lem n N d s t m z gs ts x 1 q refl refl in
      let i : n ≡ 0 = omega (arith, q.most) in
      let b : d ≡ 0 = held_zero 1 200000 d (stays (dated x.version 1) false 1 200000 d (dated_is x.version 1 false refl refl) (date_held 1 q)) in
      let c : s ≡ 0 = held_zero 0 3 s (stays (deepened x.version 1) false 0 3 s (deep_none x.version 1 refl) (deep_held 1 q)) in
      let e : t ≡ 0 = held_zero 0 15 t (task_held 1 q) in
      let g : m ≡ 0 = held_zero 0 3 m (limit_held 1 q) in
      let h : z ≡ 0 = held_zero 0 1000000 z (cycle_held 1 q) in
      let j : gs ≡ [] = none_of gs q.long in
      let k : ts ≡ [] = none_of ts q.many in
      reads_as
      (ap₂ (λ (l : List Stage) (w : List TuplePlace). begun (opened_of x.version 0 v) n (vals v d s t m z (last_of 0 w)) (padded 4 no_stage l) (padded 4 no_tuple w) x) j k
      ∙ ap₂ (λ (u : ℕ) (w : ℕ). begun (opened_of x.version u v) w (vals v d s t m z 0) no_stages no_tuples x) (sym none) i
      ∙ ap (λ (l : List ℕ). begun (opened_of x.version x.count v) 0 l no_stages no_tuples x) (cc))
      (let u : 9 + streams_room x ≡ 9 = omega (arith, no_room x none) in u)
      (reads_open v x (within_high 0 v 16 r) q.set (omega arith))

  -- how many bits have come, with those of the field
  before_more : (f g a e : ℕ) (us : List ℕ) → eqb f 0 ≡ false → eqb f 1 ≡ false → eqb g 0 ≡ false → eqb g 1 ≡ false → part_room x.version (get_or us 3 0) g e ≡ part_room x.version s f n + a
      → before_row g e us x ≡ before_row f n vs x + a
  unfolding before_row
  before_more f g a e us i j k o h = simp (i, j, k, o) (omega arith)

  -- the next state, place by place
  reads_at : {c : Carried} {k : ℕ} (f n' d' s' t' m' z' : ℕ) (gs' : List Stage) (ts' : List TuplePlace) → Said f n' N d' s' t' m' z' gs' ts' x → f < 17
      → c ≡ begun f n' (vals N d' s' t' m' z' (last_of 0 ts')) (padded 4 no_stage gs') (padded 4 no_tuple ts') x → before_row f n' (vals N d' s' t' m' z' (last_of 0 ts')) x ≡ k → Reads c k
  reads_at f n' d' s' t' m' z' gs' ts' q l e h =
      record { f = f; n = n'; N = N; d = d'; s = s'; t = t'; m = m'; z = z'; gs = gs'; ts = ts'; x = x; said = q; row = l; same = e; room = h }

  -- the deadline: behind it comes the number of tuples in version 1, of stages in version 2
  dated_on : (u g : ℕ) → x.version ≡ u → Told 2 → within 1 v 200000 ≡ true → g < 9 → behind_of u 2 ≡ g → version_fits u g ≡ true → count_fits g x.count N ≡ count_fits 2 x.count N → most_whole g (vals N v s t m z low) ≡ 0
      → stages_whole u s 2 n ≡ stages_whole u s g n → tuples_whole g n ≡ 0 → within 2 g 16 ≡ true → dated u g ≡ true → deepened u 2 ≡ deepened u g → eqb g 5 ≡ false → within 7 g 8 ≡ false → eqb g 8 ≡ false → eqb g 0 ≡ false → eqb g 1 ≡ false
      → part_room u s g n ≡ part_room u s 2 n + 18 → Reads (begun (behind_of x.version 2) n (vals N v s t m z low) (padded 4 no_stage gs) (padded 4 no_tuple ts) x) (before_row 2 n vs x + 18)
  unfolding tuples_whole most_whole
  dated_on u g e q r l a b c h i j k o p y w aa bb cc' dd =
      reads_at g n v s t m z gs ts
      (record {
        set = q.set;
        version = ap (λ (y : ℕ). version_fits y g) e ∙ b;
        count = c ∙ q.count;
        most = omega (arith, h, q.most);
        long = q.long ∙ ap (λ (y : ℕ). stages_whole y s 2 n) e ∙ i ∙ sym (ap (λ (y : ℕ). stages_whole y s g n) e);
        staged = q.staged;
        many = q.many ∙ sym j;
        chain = q.chain;
        values =
            values_of x.version g N v s t m z low (stays true (within 2 g 16) 0 16 N (sym k) (count_held 2 q)) (held_is (dated x.version g) 1 200000 v (ap (λ (y : ℕ). dated y g) e ∙ o) r)
            (stays (deepened x.version 2) (deepened x.version g) 0 3 s (ap (λ (y : ℕ). deepened y 2) e ∙ p ∙ sym (ap (λ (y : ℕ). deepened y g) e)) (deep_held 2 q)) (stays false (eqb g 5) 0 15 t (sym y) (task_held 2 q))
            (stays false (within 7 g 8) 0 3 m (sym w) (limit_held 2 q)) (stays false (eqb g 8) 0 1000000 z (sym aa) (cycle_held 2 q));
      })
      (omega arith) (ap (λ (y : ℕ). begun y n (vals N v s t m z low) (padded 4 no_stage gs) (padded 4 no_tuple ts) x) (ap (λ (y : ℕ). behind_of y 2) e ∙ a))
      (before_more 2 g 18 n (vals N v s t m z low) refl refl bb cc' (ap (λ (y : ℕ). part_room y s g n) e ∙ dd ∙ sym (ap (λ (y : ℕ). part_room y s 2 n + 18) e)))

  step_deadline : Step 2
  unfolding goes_on next_field following_of behind_of in_rule_of least_of greatest_of row_of count_fits version_fits stages_whole tuples_whole most_whole dated deepened part_room
  step_deadline q r =
      ⊎_elim
      (λ (e : x.version ≡ 1). dated_on 1 6 e q r (omega arith) refl refl refl refl refl refl refl refl refl refl refl refl refl refl refl)
      (λ (e : x.version ≡ 2). dated_on 2 3 e q r (omega arith) refl refl refl refl refl refl refl refl refl refl refl refl refl refl refl)
      q.set.either

  step_stages : Step 3
  unfolding goes_on next_field following_of in_rule_of least_of greatest_of row_of count_fits version_fits stages_whole tuples_whole most_whole dated deepened part_room
  step_stages q r =
      ⊎_elim
      (λ (e : x.version ≡ 1). absurd (false≢true (ap (λ (u : ℕ). version_fits u 3) (sym e) ∙ q.version)))
      (λ (e : x.version ≡ 2).
      let i : n ≡ 0 = omega (arith, q.most) in
      reads_at 4 n d v t m z gs ts
      (record {
        set = q.set;
        version = ap (λ (u : ℕ). version_fits u 4) e;
        count = q.count;
        most = omega arith;
        long = q.long ∙ sym i;
        staged = q.staged;
        many = q.many;
        chain = q.chain;
        values = values_of x.version 4 N d v t m z low (count_held 3 q) (date_held 3 q) (held_is (deepened x.version 4) 0 3 v (ap (λ (u : ℕ). deepened u 4) e) r) (task_held 3 q) (limit_held 3 q) (cycle_held 3 q);
      })
      (omega arith) (ap (λ (y : ℕ). begun y n (vals N d v t m z low) (padded 4 no_stage gs) (padded 4 no_tuple ts) x) (same_order 3 refl refl x.version))
      (before_more 3 4 2 n (vals N d v t m z low) refl refl refl refl (ap (λ (y : ℕ). part_room y v 4 n) e ∙ (let u : 20 + 20 * n ≡ 18 + 2 = omega arith in u) ∙ sym (ap (λ (y : ℕ). part_room y s 3 n + 2) e))))
      q.set.either

  -- a sum that holds in either version
  in_either : (a b c e w : ℕ) → a ≡ b + w → c ≡ e + w → (t : Bool) → cond t a c ≡ cond t b e + w
  in_either a b c e w h k true = h
  in_either a b c e w h k false = k

  step_task : Step 4
  unfolding goes_on next_field following_of in_rule_of least_of greatest_of row_of count_fits version_fits stages_whole tuples_whole most_whole dated deepened part_room
  step_task q r =
      reads_at 5 n d s v m z gs ts
      (record {
        set = q.set;
        version = either_fits x.version 5 refl refl;
        count = q.count;
        most = q.most;
        long = q.long;
        staged = q.staged;
        many = q.many;
        chain = q.chain;
        values = values_of x.version 5 N d s v m z low (count_held 4 q) (date_held 4 q) (deep_held 4 q) (held_is true 0 15 v refl r) (limit_held 4 q) (cycle_held 4 q);
      })
      (omega arith) (ap (λ (y : ℕ). begun y n (vals N d s v m z low) (padded 4 no_stage gs) (padded 4 no_tuple ts) x) (same_order 4 refl refl x.version))
      (before_more 4 5 4 n (vals N d s v m z low) refl refl refl refl (in_either 4 0 (24 + 20 * n) (20 + 20 * n) 4 refl (omega arith) (eqb x.version 1)))

  step_tuples : Step 6
  unfolding goes_on next_field following_of in_rule_of least_of greatest_of row_of count_fits version_fits stages_whole tuples_whole most_whole dated deepened part_room
  step_tuples q r =
      let i : n ≡ 0 = omega (arith, q.most) in
      reads_at 7 n d s t v z gs ts
      (record {
        set = q.set;
        version = either_fits x.version 7 refl refl;
        count = q.count;
        most = omega arith;
        long = q.long;
        staged = q.staged;
        many = q.many ∙ sym i;
        chain = q.chain;
        values = values_of x.version 7 N d s t v z low (count_held 6 q) (date_held 6 q) (deep_held 6 q) (task_held 6 q) (held_is true 0 3 v refl r) (cycle_held 6 q);
      })
      (omega arith) (ap (λ (y : ℕ). begun y n (vals N d s t v z low) (padded 4 no_stage gs) (padded 4 no_tuple ts) x) (same_order 6 refl refl x.version))
      (before_more 6 7 2 n (vals N d s t v z low) refl refl refl refl (in_either (40 + 37 * n) 38 (42 + 20 * s + 37 * n) (40 + 20 * s) 2 (omega arith) (omega arith) (eqb x.version 1)))

  step_cycle : Step 7
  unfolding goes_on next_field following_of in_rule_of least_of greatest_of row_of count_fits version_fits stages_whole tuples_whole most_whole dated deepened part_room
  step_cycle q r =
      reads_at 8 n d s t m v gs ts
      (record {
        set = q.set;
        version = either_fits x.version 8 refl refl;
        count = q.count;
        most = q.most;
        long = q.long;
        staged = q.staged;
        many = q.many;
        chain = q.chain;
        values = values_of x.version 8 N d s t m v low (count_held 7 q) (date_held 7 q) (deep_held 7 q) (task_held 7 q) (limit_held 7 q) (held_is true 0 1000000 v refl r);
      })
      (omega arith) (ap (λ (y : ℕ). begun y n (vals N d s t m v low) (padded 4 no_stage gs) (padded 4 no_tuple ts) x) (same_order 7 refl refl x.version))
      (before_more 7 8 20 n (vals N d s t m v low) refl refl refl refl (in_either (60 + 37 * n) (40 + 37 * n) (62 + 20 * s + 37 * n) (42 + 20 * s + 37 * n) 20 (omega arith) (omega arith) (eqb x.version 1)))

  -- ---- a stage is whole

  module _ (q : Told 5) (r : within 1 v 65535 ≡ true) where
    abbrev stage : Stage
    stage = record { task = t; cost = v }

    abbrev stages : List Stage
    stages = gs ++ (stage ∷ [])

    stage_valid : ValidStage stage
    stage_valid = record { task = held_high 0 15 t (task_held 5 q); cost = record { low = within_low 1 v 65535 r; high = within_high 1 v 65535 r } }

    less_few : s ≤ 3
    less_few = sound.deep_few n N d s t m z gs ts x 5 q

    most_5 : n ≤ s
    unfolding most_whole
    most_5 = q.most

    long_5 : length gs ≡ n
    unfolding stages_whole
    long_5 = q.long

    stages_valid : All ValidStage stages
    stages_valid = all_append ValidStage gs (stage ∷ []) q.staged (stage_valid, tt)

    stages_set : set (padded 4 no_stage gs) n stage ≡ padded 4 no_stage stages
    stages_set = ap (λ (j : ℕ). set (padded 4 no_stage gs) j stage) (sym long_5) ∙ set_padded 4 no_stage gs stage (omega (arith, long_5, most_5, less_few))

    stages_long : length stages ≡ n + 1
    stages_long = snoc_length gs stage ∙ ap (λ (j : ℕ). j + 1) long_5

    -- another stage comes: only in version 2
    stage_next : n < s → Reads (next_stage n vs (padded 4 no_stage gs) (padded 4 no_tuple ts) x v) (before_row 5 n vs x + 16)
    unfolding next_stage count_fits version_fits stages_whole tuples_whole most_whole dated deepened part_room
    stage_next h =
        ⊎_elim
        (λ (e : x.version ≡ 1). absurd (omega (arith, sound.deep_one n N d s t m z gs ts x 5 q e)))
        (λ (e : x.version ≡ 2).
        reads_at 4 (n + 1) d s 0 m z stages ts
        (record {
          set = q.set;
          version = either_fits x.version 4 refl refl;
          count = q.count;
          most = omega arith;
          long = stages_long;
          staged = stages_valid;
          many = q.many;
          chain = q.chain;
          values = values_of x.version 4 N d s 0 m z low (count_held 5 q) (date_held 5 q) (deep_held 5 q) (held_not false 0 15 refl) (limit_held 5 q) (cycle_held 5 q);
        })
        (omega arith) (ap (λ (l : List Stage). begun 4 (n + 1) (vals N d s 0 m z low) l (padded 4 no_tuple ts) x) stages_set)
        (before_more 5 4 16 (n + 1) (vals N d s 0 m z low) refl refl refl refl (ap (λ (y : ℕ). part_room y s 4 (n + 1)) e ∙ (let u : 20 + 20 * (n + 1) ≡ 24 + 20 * n + 16 = omega arith in u) ∙ sym (ap (λ (y : ℕ). part_room y s 5 n + 16) e))))
        q.set.either

    -- the last one: the deadline comes in version 1, the number of tuples in version 2
    staged_on_lem : (u g : ℕ) → x.version ≡ u → s ≤ n → g < 9 → behind_of u 5 ≡ g → version_fits u g ≡ true → count_fits g x.count N ≡ count_fits 5 x.count N → stages_whole u s g 0 ≡ s + 1 → tuples_whole g 0 ≡ 0 → within 2 g 16 ≡ true
        → dated u 5 ≡ dated u g → deepened u 5 ≡ deepened u g → eqb g 5 ≡ false → within 7 g 8 ≡ false → eqb g 8 ≡ false → eqb g 0 ≡ false → eqb g 1 ≡ false → part_room u s g 0 ≡ part_room u s 5 n + 16
        → Reads (last_stage n vs (padded 4 no_stage gs) (padded 4 no_tuple ts) x v) (before_row 5 n vs x + 16)
    unfolding last_stage tuples_whole
    staged_on_lem u g e h l a b c i j k o p y w aa bb cc' dd =
        reads_at g 0 d s 0 m z stages ts
        (record {
          set = q.set;
          version = ap (λ (y : ℕ). version_fits y g) e ∙ b;
          count = c ∙ q.count;
          most = omega arith;
          long = stages_long ∙ (let f : n + 1 ≡ s + 1 = omega (arith, most_5) in f) ∙ sym (ap (λ (y : ℕ). stages_whole y s g 0) e ∙ i);
          staged = stages_valid;
          many = q.many ∙ sym j;
          chain = q.chain;
          values =
              values_of x.version g N d s 0 m z low (stays true (within 2 g 16) 0 16 N (sym k) (count_held 5 q)) (stays (dated x.version 5) (dated x.version g) 1 200000 d (ap (λ (y : ℕ). dated y 5) e ∙ o ∙ sym (ap (λ (y : ℕ). dated y g) e)) (date_held 5 q))
              (stays (deepened x.version 5) (deepened x.version g) 0 3 s (ap (λ (y : ℕ). deepened y 5) e ∙ p ∙ sym (ap (λ (y : ℕ). deepened y g) e)) (deep_held 5 q)) (held_not (eqb g 5) 0 15 y)
              (stays false (within 7 g 8) 0 3 m (sym w) (limit_held 5 q)) (stays false (eqb g 8) 0 1000000 z (sym aa) (cycle_held 5 q));
        })
        (omega arith)
        (ap₂ (λ (y : ℕ) (l : List Stage). begun y 0 (vals N d s 0 m z low) l (padded 4 no_tuple ts) x) (ap (λ (y : ℕ). behind_of y 5) e ∙ a) stages_set)
        (before_more 5 g 16 0 (vals N d s 0 m z low) refl refl bb cc' (ap (λ (y : ℕ). part_room y s g 0) e ∙ dd ∙ sym (ap (λ (y : ℕ). part_room y s 5 n + 16) e)))

    stage_last : s ≤ n → Reads (last_stage n vs (padded 4 no_stage gs) (padded 4 no_tuple ts) x v) (before_row 5 n vs x + 16)
    unfolding behind_of count_fits version_fits stages_whole tuples_whole dated deepened part_room
    stage_last h =
        ⊎_elim
        (λ (e : x.version ≡ 1). staged_on_lem 1 2 e h (omega arith) refl refl refl refl refl refl refl refl refl refl refl refl refl refl)
        (λ (e : x.version ≡ 2). staged_on_lem 2 6 e h (omega arith) refl refl refl refl refl refl refl refl refl refl refl refl refl (let u : 40 + 20 * s ≡ 24 + 20 * n + 16 = omega (arith, most_5) in u))
        q.set.either

  step_cost : Step 5
  unfolding goes_on in_rule_of least_of greatest_of row_of
  step_cost q r =
      cond_elim (λ (c : Carried). Reads c (before_row 5 n vs x + 16)) (ltb n s) (next_stage n vs (padded 4 no_stage gs) (padded 4 no_tuple ts) x v) (last_stage n vs (padded 4 no_stage gs) (padded 4 no_tuple ts) x v)
      (λ e. stage_next q r (ltb-true n s e)) (λ e. stage_last q r (ltb-false n s e))

  -- ---- a tuple is whole

  module _ (q : Told 8) (r : within low v (greatest_of 8 n) ≡ true) where
    abbrev tuple : TuplePlace
    tuple = tuple_of z v

    abbrev tuples : List TuplePlace
    tuples = ts ++ (tuple ∷ [])

    long_8 : length ts ≡ n
    unfolding tuples_whole
    long_8 = q.many

    most_8 : n ≤ m
    unfolding most_whole
    most_8 = q.most

    limit_few : m ≤ 3
    limit_few = held_high 0 3 m (limit_held 8 q)

    offset_is : offset_at tuple ≡ v
    offset_is = offset_of z v

    top_few : (l : List TuplePlace) → top_of 0 l ≤ 100000
    top_few [] = omega arith
    top_few (p ∷ l) = omega arith

    in_order : within low (offset_at tuple) (top_of 0 ts) ≡ true
    in_order = ap₂ (λ (a b : ℕ). within low a b) offset_is (sym (ap (greatest_of 8) (sym long_8) ∙ top_is ts)) ∙ r

    place : ValidPlace tuple
    place = record { offset = omega (arith, within_high low (offset_at tuple) (top_of 0 ts) in_order, top_few ts); cycle = cycle_of_lem z v (held_high 0 1000000 z (cycle_held 8 q)) }

    chained : Chain 0 0 tuples
    chained = chain_snoc 0 0 ts tuple q.chain in_order place

    tuples_set : set (padded 4 no_tuple ts) n tuple ≡ padded 4 no_tuple tuples
    tuples_set = ap (λ (j : ℕ). set (padded 4 no_tuple ts) j tuple) (sym long_8) ∙ set_padded 4 no_tuple ts tuple (omega (arith, long_8, most_8, limit_few))

    tuples_long : length tuples ≡ n + 1
    tuples_long = snoc_length ts tuple ∙ ap (λ (j : ℕ). j + 1) long_8

    last_is : last_of 0 tuples ≡ v
    last_is = last_snoc 0 ts tuple ∙ offset_is

    tuple_next : n < m → Reads (next_tuple n vs (padded 4 no_stage gs) (padded 4 no_tuple ts) x v) (before_row 8 n vs x + 17)
    unfolding next_tuple count_fits version_fits stages_whole tuples_whole most_whole dated deepened part_room
    tuple_next h =
        reads_at 7 (n + 1) d s t m 0 gs tuples
        (record {
          set = q.set;
          version = either_fits x.version 7 refl refl;
          count = q.count;
          most = omega arith;
          long = q.long;
          staged = q.staged;
          many = tuples_long;
          chain = chained;
          values = values_of x.version 7 N d s t m 0 (last_of 0 tuples) (count_held 8 q) (date_held 8 q) (deep_held 8 q) (task_held 8 q) (limit_held 8 q) (held_not false 0 1000000 refl);
        })
        (omega arith) (ap₂ (λ (a : ℕ) (l : List TuplePlace). begun 7 (n + 1) (vals N d s t m 0 a) (padded 4 no_stage gs) l x) (sym last_is) tuples_set)
        (before_more 8 7 17 (n + 1) (vals N d s t m 0 (last_of 0 tuples)) refl refl refl refl (in_either (40 + 37 * (n + 1)) (60 + 37 * n) (42 + 20 * s + 37 * (n + 1)) (62 + 20 * s + 37 * n) 17 (omega arith) (omega arith) (eqb x.version 1)))

    -- the stream is whole
    long_stages : length gs ≡ s + 1
    unfolding stages_whole
    long_stages = q.long

    date_8 : within 1 d 200000 ≡ true
    unfolding held
    date_8 = stays (dated x.version 8) true 1 200000 d (dated_is x.version 8 true refl refl) (date_held 8 q)

    deep_8 : s ≤ 3
    deep_8 = sound.deep_few n N d s t m z gs ts x 8 q

    abbrev stream : Stream
    stream = stream_of gs d tuples

    shallow : length gs ≤ 4
    shallow = omega (arith, long_stages, deep_8)

    few_tuples : length tuples ≤ 4
    few_tuples = omega (arith, tuples_long, most_8, limit_few)

    passes : stream_ok stream ≡ true
    passes = stream_ok_lem gs d tuples shallow few_tuples (omega (arith, long_stages)) q.staged date_8 (omega (arith, tuples_long)) chained

    fine_stream : Fine x.version stream
    fine_stream =
        record {
          ok = passes;
          valid = valid_stream stream passes;
          four = stream_four gs d tuples shallow few_tuples;
          staged = λ e. long_stages ∙ ap (λ (j : ℕ). j + 1) (sound.deep_one n N d s t m z gs ts x 8 q e);
        }

    room_8 : x.count < N
    unfolding count_fits
    room_8 = ltb-true x.count N q.count

    count_8 : N ≤ 16
    count_8 = held_high 0 16 N (count_held 8 q)

    same_stream : record { depth = s + 1; stages = padded 4 no_stage gs; deadline = d; count = n + 1; tuples = set (padded 4 no_tuple ts) n tuple } ≡ stream
    same_stream =
        ap₂ (λ (i j : ℕ). record { depth = i; stages = padded 4 no_stage gs; deadline = d; count = j; tuples = set (padded 4 no_tuple ts) n tuple }) (sym long_stages) (sym tuples_long)
        ∙ ap (λ (l : List TuplePlace). record { depth = length gs; stages = padded 4 no_stage gs; deadline = d; count = length tuples; tuples = l }) tuples_set

    room_whole : (b : Bool) → (b ≡ true → s ≡ 0) → (k : ℕ) → 9 + (k + (cond b 20 22 + (20 * (s + 1) + 37 * (n + 1)))) ≡ 9 + k + cond b (60 + 37 * n) (62 + 20 * s + 37 * n) + 17
    room_whole true e k = omega (arith, e refl)
    room_whole false e k = omega arith

    streams_are : streams_room (with_stream x stream) ≡ streams_room x + (cond (eqb x.version 1) 20 22 + (20 * (s + 1) + 37 * (n + 1)))
    unfolding stream_room
    streams_are =
        room_streams x q.set stream fine_stream (omega (arith, room_8, count_8))
        ∙ ap₂ (λ (i j : ℕ). streams_room x + (cond (eqb x.version 1) 20 22 + (20 * i + 37 * j))) long_stages tuples_long

    stream_next : Reads (next_stream n vs (padded 4 no_stage gs) (padded 4 no_tuple ts) x v) (before_row 8 n vs x + 17)
    unfolding next_stream before_row part_room
    stream_next =
        reads_as (ap (λ (y : Stream). begun (opened_of x.version (x.count + 1) N) 0 (vals N 0 0 0 0 0 0) no_stages no_tuples (with_stream x y)) same_stream)
        (ap (λ (j : ℕ). 9 + j) streams_are ∙ room_whole (eqb x.version 1) (λ e. sound.deep_one n N d s t m z gs ts x 8 q (eqb-true x.version 1 e)) (streams_room x))
        (reads_open N (with_stream x stream) count_8 (streams_more x q.set stream fine_stream (omega (arith, room_8, count_8))) (omega (arith, room_8)))

  step_offset : Step 8
  unfolding goes_on in_rule_of least_of row_of
  step_offset q r =
      cond_elim (λ (c : Carried). Reads c (before_row 8 n vs x + 17)) (ltb n m) (next_tuple n vs (padded 4 no_stage gs) (padded 4 no_tuple ts) x v) (next_stream n vs (padded 4 no_stage gs) (padded 4 no_tuple ts) x v)
      (λ e. tuple_next q r (ltb-true n m e)) (λ e. stream_next q r)

  -- ---- padding

  late_row : (f : ℕ) → 9 ≤ f → ltb f 3 || ltb 3 f ≡ true
  late_row f h = ap₂ (λ (a b : Bool). a || b) (le-ltb f 3 (omega arith)) (lt-ltb 3 f (omega arith))

  all_in : (f : ℕ) → 9 ≤ f → x.count ≡ N → count_fits f x.count N ≡ true
  unfolding count_fits
  all_in f h e = simp (outside 2 f 8 (omega arith)) (eq-eqb x.count N e)

  pad_room : (f : ℕ) → 9 ≤ f → n ≡ 0 → s ≡ 0 → before_row (f + 1) 0 (vals N 0 0 0 0 0 0) x ≡ before_row f n vs x + 1
  pad_room f h i e =
      before_more f (f + 1) 1 0 (vals N 0 0 0 0 0 0) (ne_eqb f 0 (λ y. omega arith)) (ne_eqb f 1 (λ y. omega arith)) (ne_eqb (f + 1) 0 (λ y. omega arith)) (ne_eqb (f + 1) 1 (λ y. omega arith))
      (padding_room x.version 0 (f + 1) 0 (omega arith) ∙ (let y : f + 1 - 9 ≡ f - 9 + 1 = omega arith in y) ∙ sym (ap (λ (y : ℕ). y + 1) (padding_room x.version s f n h)))

  step_padding : (f : ℕ) → 9 ≤ f → f < 17 → Step f
  unfolding last_of
  step_padding f a b q r =
      let less : f < 16 = omega (arith, ltb-true (f - 9) 7 (and_parts (eqb v 0) (ltb (f - 9) 7) (sym (pad_rule f n low v a b) ∙ r)).1) in
      let i : n ≡ 0 = omega (arith, q.most, padding_most f vs a) in
      let c : d ≡ 0 = held_zero 1 200000 d (stays (dated x.version f) false 1 200000 d (dated_is x.version f false (outside 6 f 8 (omega arith)) (outside 3 f 8 (omega arith))) (date_held f q)) in
      let e : s ≡ 0 = held_zero 0 3 s (stays (deepened x.version f) false 0 3 s (deep_none x.version f (outside 4 f 8 (omega arith))) (deep_held f q)) in
      let g : t ≡ 0 = held_zero 0 15 t (stays (eqb f 5) false 0 15 t (ne_eqb f 5 (λ y. omega arith)) (task_held f q)) in
      let h : m ≡ 0 = held_zero 0 3 m (stays (within 7 f 8) false 0 3 m (outside 7 f 8 (omega arith)) (limit_held f q)) in
      let j : z ≡ 0 = held_zero 0 1000000 z (stays (eqb f 8) false 0 1000000 z (ne_eqb f 8 (λ y. omega arith)) (cycle_held f q)) in
      let k : gs ≡ [] = none_of gs (q.long ∙ padding_stages x.version s f n a) in
      let o : ts ≡ [] = none_of ts (q.many ∙ padding_tuples f n a) in
      let few : N ≤ 16 = held_high 0 16 N (stays (within 2 f 16) true 0 16 N (within_is 2 f 16 (omega arith) (omega arith)) (count_held f q)) in
      let u : x.count ≡ N = eqb-true x.count N (sound.all_read n N d s t m z gs ts x f a q) in
      let w : width_of f ≡ 1 = omega (arith, width_pad f a, width_some f b) in
      reads_as
      (goes_pad f n vs (padded 4 no_stage gs) (padded 4 no_tuple ts) x v a
      ∙ ap (λ (l : List ℕ). begun (f + 1) n l (padded 4 no_stage gs) (padded 4 no_tuple ts) x) (set_out vs f v a)
      ∙ ap₂ (λ (l : List Stage) (y : List TuplePlace). begun (f + 1) n (vals N d s t m z (last_of 0 y)) (padded 4 no_stage l) (padded 4 no_tuple y) x) k o
      ∙ ap₂ (λ (y : ℕ) (l : List ℕ). begun (f + 1) y l no_stages no_tuples x) i (cc))
      (pad_room f a i e ∙ ap (λ (y : ℕ). before_row f n vs x + y) (sym w))
      (zero_at N x few q.set (f + 1) (omega arith) (either_fits x.version (f + 1) (late_row (f + 1) (omega arith)) (within_is 1 (f + 1) 16 (omega arith) (omega arith))) (all_in (f + 1) (omega arith) u)
      (padding_stages x.version 0 (f + 1) 0 (omega arith)) (padding_tuples (f + 1) 0 (omega arith)) (within_is 2 (f + 1) 16 (omega arith) (omega arith))
      (dated_is x.version (f + 1) false (outside 6 (f + 1) 8 (omega arith)) (outside 3 (f + 1) 8 (omega arith))) (deep_none x.version (f + 1) (outside 4 (f + 1) 8 (omega arith))) (ne_eqb (f + 1) 5 (λ y. omega arith))
      (outside 7 (f + 1) 8 (omega arith)) (ne_eqb (f + 1) 8 (λ y. omega arith)))

  pub step_row : (f : ℕ) → f < 17 → Step f
  step_row f h =
      by_test (ltb f 9)
      (λ e. by_value_row Step step_version step_count step_deadline step_stages step_task step_cost step_tuples step_cycle step_offset f (ltb-true f 9 e))
      (λ e. step_padding f (ltb-false f 9 e) h)
