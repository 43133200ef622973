-- The test of a carried state is exact: it passes just those that some bytes leave from the start.
-- Assumes nothing.
use Prim.Native.Nat.{ℕ, zero, suc, ◌+◌, ◌-◌, ◌*◌, ◌/◌, ◌%◌, ◌^◌, ◌≤◌, ◌<◌}
use mathlib.Core.List.{List, [], ◌∷◌}
use mathlib.Core.Path.{◌≡◌, refl, sym, ap, ap₂, ◌∙◌, subst}
use mathlib.Core.Bool.{Bool, true, false, cond, ◌&&◌, ◌||◌}
use mathlib.Core.Logic.{◌⊎◌, inl, inr, ⊎_elim}
use native.Mathlib.Omega.{arith}
use native.Mathlib.Nat.{pow-suc}
use lib.ListN.{length, get_or, take, drop, replicate}
use lib.Seq.{take-append_seam, take-length}
use lib.Dec.{eqb, leb, ltb}
use lib.Pow.{pow_pos}
use borrow.Author.Tests.{eqb-true, le-leb, leb-true, lt-ltb, ltb-false, ltb-true}
use Rattle.std.specs.List.{list_all}
use Rattle.laws.specs.Lists.{All, scan, within}
use Rattle.laws.specs.Bits.{bits, bytes, to_bits}
use Rattle.laws.proofs.Sums.{Holds as Passes, all_map, and_parts, by_test, every_all}
use Rattle.laws.proofs.Fields.{AreBits, bits_bits, bits_length}
use Rattle.laws.proofs.Packing.{bytes_bits, bytes_bytes}
use Rattle.rules.specs.declared.TuplePlace.{TuplePlace}
use Rattle.rules.specs.declared.Stage.{Stage}
use Rattle.rules.specs.declared.Set.{Set}
use Rattle.rules.specs.Streams.{Placed, empty_set, no_stage, no_tuple, offset_at, stage_ok, stage_unused, stream_unused, streams_of, tuple_unused, tuples_ok, valid, version_ok}
use Rattle.sheet_carried.specs.declared.Carried.{Carried}
use Rattle.sheet_carried.specs.Table.{behind_of, following_of, greatest_of, in_rule_of, least_of, opened_of, refusal_of, row_of, width_of}
use Rattle.sheet_carried.specs.Reader.{begun, behind_version, goes_on, next_field, next_of, no_stages, no_tuples, no_values, reading, refused_of, run, start_of, step_by, step_of}
use Rattle.sheet_carried.specs.Kept.{most_whole, stages_whole, tuples_whole}
use Rattle.sheet_carried.specs.Left.{Boxed, Left, LeftExactly, before_row, came_of, count_fits, could_be_left, dated, deepened, fit_tests, fits, held, kept_fits, last_of, point_fits, point_tests, stages_fit, tuples_fit, value_tests, values_fit, version_fits, whole_bytes}
use Rattle.sheet_carried.proofs.Filled.{cond_elim}
use Rattle.sheet_carried.proofs.Streams.{Chain, GoodStream, every_of, first_ok, no_stage_unused, no_tuple_unused, rest_unused, scan_of, set_ok, stages_ok, within_is}
use Rattle.sheet_carried.proofs.Rows.{by_values, refusal_row, width_none, width_some}
use Rattle.sheet_carried.proofs.Chunks.{run_stopped}
use Rattle.sheet_carried.proofs.Reached.{Reached, padded, vals}
use Rattle.sheet_carried.proofs.Streamed.{Fine}
use Rattle.sheet_carried.proofs.Sound.{Said, cond_left, cond_right, fits_reached, fits_refused, held_high, held_zero, or_parts}
use Rattle.sheet_carried.proofs.Complete.{Reads, step_row}

-- ---- the three refusals

by_refusal : (P : ℕ → Type 0) → P 17 → P 18 → P 19 → (f : ℕ) → 17 ≤ f → f < 20 → P f
by_refusal P a b c f h k = go (f - 17) (let e : f ≡ 17 + (f - 17) = omega arith in e)
  where
    go : (j : ℕ) → f ≡ 17 + j → P f
    go zero e = subst P (sym e) a
    go (suc zero) e = subst P (sym e) b
    go (suc (suc zero)) e = subst P (sym e) c
    go (suc (suc (suc j))) e = absurd (omega arith)

-- version 0, 31 streams, a set padding bit
refused_left : (f : ℕ) → 17 ≤ f → f < 20 → Left (refused_of f)
unfolding run step_of bits to_bits next_of goes_on behind_version next_field following_of opened_of behind_of in_rule_of least_of greatest_of row_of refusal_of refused_of
refused_left f h k =
    by_refusal (λ (g : ℕ). Left (refused_of g))
    (record { came = 0 ∷ []; are = (omega arith, tt); leads = refl })
    (record { came = 31 ∷ 128 ∷ []; are = (omega arith, (omega arith, tt)); leads = refl })
    (record { came = 16 ∷ 1 ∷ []; are = (omega arith, (omega arith, tt)); leads = refl }) f h k

refused_passes : (f : ℕ) → 17 ≤ f → f < 20 → could_be_left (refused_of f) ≡ true
unfolding could_be_left fits point_fits kept_fits whole_bytes valid version_fits count_fits most_whole stages_fit tuples_fit values_fit stages_whole tuples_whole last_of held dated deepened row_of refused_of stream_unused stage_unused tuple_unused version_ok tuples_ok scan
refused_passes f h k = by_refusal (λ (g : ℕ). could_be_left (refused_of g) ≡ true) refl refl refl f h k

-- ---- what passes has been left

byte_string : (c : Carried) (k : ℕ) → Reached c k → k % 8 ≡ 0 → Left c
byte_string c k r e =
    let n : ℕ = k / 8 in
    let long : 8 * n ≡ length r.came = omega (arith, r.long) in
    record {
      came = bytes n r.came;
      are = bytes_bytes n r.came r.are (omega arith);
      leads =
          ap (run start_of) (bytes_bits n r.came r.are (omega arith) ∙ ap (λ (j : ℕ). take j r.came) long ∙ take-length r.came) ∙ r.leads;
    }

module _ (f n : ℕ) (vs : List ℕ) (gs : List Stage) (ts : List TuplePlace) (x : Set) (a l : ℕ) where
  abbrev state : Carried
  state = reading f n vs gs ts x a l

  kept_left : length vs ≡ 9 → length gs ≡ 4 → length ts ≡ 4 → Placed x → kept_fits f n vs gs ts x ≡ true → f < 20 → l ≤ width_of f → ltb 0 l || eqb (width_of f) 0 ≡ true → a < 2 ^ (width_of f - l) → whole_bytes state ≡ true → Left state
  unfolding whole_bytes came_of
  kept_left nine four places placed e row le some came whole =
      by_test (ltb f 17)
      (λ h. let small : f < 17 = ltb-true f 17 h in
      let width : 0 < width_of f = width_some f small in
      let left : 0 < l =
      ⊎_elim (λ (q : ltb 0 l ≡ true). ltb-true 0 l q) (λ (q : eqb (width_of f) 0 ≡ true). absurd (omega (arith, eqb-true (width_of f) 0 q))) (or_parts (ltb 0 l) (eqb (width_of f) 0) some) in
      let even : eqb ((before_row f n vs x + (width_of f - l)) % 8) 0 ≡ true =
      ⊎_elim (λ (q : leb 17 f ≡ true). absurd (omega (arith, leb-true 17 f q))) (λ (q : eqb ((before_row f n vs x + (width_of f - l)) % 8) 0 ≡ true). q) (or_parts (leb 17 f) (eqb ((before_row f n vs x + (width_of f - l)) % 8) 0) whole) in
      byte_string state (before_row f n vs x + (width_of f - l))
      (by_values (λ (us : List ℕ). kept_fits f n us gs ts x ≡ true → Reached (reading f n us gs ts x a l) (before_row f n us x + (width_of f - l)))
      (λ b N d s t i m z low q. fits_reached f n N d s t m z low b i gs ts x four places placed q a l small left le came) vs nine e)
      (eqb-true ((before_row f n vs x + (width_of f - l)) % 8) 0 even))
      (λ h. let large : 17 ≤ f = ltb-false f 17 h in
      let none : width_of f ≤ 0 = width_none f large in
      let la : l ≡ width_of f = omega arith in
      let aa : a ≡ 0 = omega (arith, came, ap (λ (j : ℕ). 2 ^ j) (let q : width_of f - l ≡ 0 = omega arith in q)) in
      subst Left
      (by_values (λ (us : List ℕ). kept_fits f n us gs ts x ≡ true → refused_of f ≡ begun f n us gs ts x)
      (λ b N d s t i m z low q. fits_refused f n N d s t m z low b i gs ts x four places placed q large) vs nine e
      ∙ ap₂ (reading f n vs gs ts x) (sym aa) (sym la))
      (refused_left f large row))

sound : (c : Carried) → Boxed c → could_be_left c ≡ true → Left c
unfolding could_be_left fits point_fits
sound c b e =
    let both = and_parts (point_fits c.point) (kept_fits c.point.row c.point.whole c.values c.stages c.places c.set) (cond_left (fits c) (whole_bytes c) e) in
    let p : All Passes (point_tests c.point) = every_all (point_tests c.point) both.0 in
    kept_left c.point.row c.point.whole c.values c.stages c.places c.set c.point.acc c.point.left b.nine b.stages b.tuples b.placed both.1
    (ltb-true c.point.row 20 p.0) (leb-true c.point.left (width_of c.point.row) p.1.0) p.1.1.0 (ltb-true c.point.acc (2 ^ (width_of c.point.row - c.point.left)) p.1.1.1.0) (cond_right (fits c) (whole_bytes c) e)

-- ---- what has been left passes

-- behind k bits, some of its next field have come
record Stands (c : Carried) (k : ℕ) : Type 0 where
  pub b : Carried
  pub j : ℕ
  pub reads : Reads b j
  pub acc : ℕ
  pub left : ℕ
  pub some : 0 < left
  pub le : left ≤ width_of reads.f
  pub came : acc < 2 ^ (width_of reads.f - left)
  pub same : c ≡ reading reads.f reads.n (vals reads.N reads.d reads.s reads.t reads.m reads.z (last_of 0 reads.ts)) (padded 4 no_stage reads.gs) (padded 4 no_tuple reads.ts) reads.x acc left
  pub long : j + (width_of reads.f - left) ≡ k

record Stopped (c : Carried) : Type 0 where
  pub f : ℕ
  pub low : 17 ≤ f
  pub high : f < 20
  pub same : c ≡ refused_of f

abbrev Now : Carried → ℕ → Type 0
Now c k = Stands c k ⊎ Stopped c

-- before a field
stands_at : (c : Carried) (k : ℕ) → Reads c k → Stands c k
stands_at c k r =
    record {
      b = c;
      j = k;
      reads = r;
      acc = 0;
      left = width_of r.f;
      some = width_some r.f r.row;
      le = omega arith;
      came = pow_pos (width_of r.f - width_of r.f);
      same = r.same;
      long = omega arith;
    }

module _ (r : Carried) (j : ℕ) (q : Reads r j) where
  abbrev vs : List ℕ
  vs = vals q.N q.d q.s q.t q.m q.z (last_of 0 q.ts)

  abbrev gs : List Stage
  gs = padded 4 no_stage q.gs

  abbrev ts : List TuplePlace
  ts = padded 4 no_tuple q.ts

  -- the last bit of a field
  next_now : (v k : ℕ) → j + width_of q.f ≡ k → Now (next_of q.f q.n vs gs ts q.x v) k
  unfolding next_of
  next_now v k e =
      cond_elim (λ (c : Carried). Now c k) (in_rule_of q.f q.n (last_of 0 q.ts) v) (goes_on q.f q.n vs gs ts q.x v) (refused_of (refusal_of q.f))
      (λ h. inl (stands_at (goes_on q.f q.n vs gs ts q.x v) k
      (subst (Reads (goes_on q.f q.n vs gs ts q.x v)) (ap (λ (i : ℕ). i + width_of q.f) q.room ∙ e)
      (step_row q.n q.N q.d q.s q.t q.m q.z q.gs q.ts q.x v q.f q.row q.said h))))
      (λ h. inr (record { f = refusal_of q.f; low = (refusal_row q.f).0; high = (refusal_row q.f).1; same = refl }))

  step_now : (a l b k : ℕ) → 0 < l → l ≤ width_of q.f → a < 2 ^ (width_of q.f - l) → j + (width_of q.f - l) ≡ k → b < 2 → Now (step_by l q.f q.n vs gs ts q.x a b) (k + 1)
  step_now a zero b k h i c e u = absurd (omega arith)
  step_now a (suc zero) b k h i c e u = next_now (a * 2 + b) (k + 1) (omega arith)
  step_now a (suc (suc l)) b k h i c e u =
      inl
      (record {
        b = r;
        j = j;
        reads = q;
        acc = a * 2 + b;
        left = suc l;
        some = omega arith;
        le = omega arith;
        came = omega (arith, pow-suc 2 (width_of q.f - suc (suc l)), ap (λ (n : ℕ). 2 ^ n) (let y : suc (width_of q.f - suc (suc l)) ≡ width_of q.f - suc l = omega arith in y));
        same = refl;
        long = omega arith;
      })

stop_run : (f : ℕ) (bs : List ℕ) → 17 ≤ f → run (refused_of f) bs ≡ refused_of f
unfolding refused_of
stop_run f bs h =
    let e : width_of f ≡ 0 = omega (arith, width_none f h) in
    ap (λ (l : ℕ). run (reading f 0 no_values no_stages no_tuples empty_set 0 l) bs) e ∙ run_stopped f 0 no_values no_stages no_tuples empty_set 0 bs ∙ ap (reading f 0 no_values no_stages no_tuples empty_set 0) (sym e)

run_now : (bs : List ℕ) (c : Carried) (k : ℕ) → AreBits bs → Now c k → Now (run c bs) (k + length bs)
unfolding run step_of
run_now [] c k b w = subst (Now c) (let e : k ≡ k + 0 = omega arith in e) w
run_now (b ∷ bs) c k h w =
    ⊎_elim
    (λ (q : Stands c k).
    subst (Now (run (step_of c b) bs)) (let e : k + 1 + length bs ≡ k + suc (length bs) = omega arith in e)
    (run_now bs (step_of c b) (k + 1) h.1
    (subst (λ (y : Carried). Now (step_of y b) (k + 1)) (sym q.same) (step_now q.b q.j q.reads q.acc q.left b k q.some q.le q.came q.long h.0))))
    (λ (q : Stopped c).
    inr (record { f = q.f; low = q.low; high = q.high; same = ap (λ (y : Carried). run y (b ∷ bs)) q.same ∙ stop_run q.f (b ∷ bs) q.low }))
    w

start_now : Now start_of 0
unfolding version_fits count_fits stages_whole tuples_whole most_whole held dated deepened last_of before_row
start_now =
    inl (stands_at start_of 0
    (record {
      f = 0;
      n = 0;
      N = 0;
      d = 0;
      s = 0;
      t = 0;
      m = 0;
      z = 0;
      gs = [];
      ts = [];
      x = empty_set;
      said =
          record {
            set = record { either = inl refl; whole = refl; fine = tt; used = refl };
            version = refl;
            count = refl;
            most = omega arith;
            long = refl;
            staged = tt;
            many = refl;
            chain = tt;
            values = (refl, (refl, (refl, (refl, (refl, (refl, (refl, (refl, (refl, tt)))))))));
          };
      row = omega arith;
      same = refl;
      room = refl;
    }))

-- ---- what stands passes

first_place_lem : (l : List TuplePlace) → Chain 0 0 l → eqb (offset_at (get_or (padded 4 no_tuple l) 0 no_tuple)) 0 ≡ true
first_place_lem [] c = refl
first_place_lem (p ∷ l) c = first_ok (p ∷ l) (replicate (4 - length (p ∷ l)) no_tuple) (omega arith) c

module _ (f n N d s t m z : ℕ) (gs : List Stage) (ts : List TuplePlace) (x : Set) (q : Said f n N d s t m z gs ts x) where
  abbrev said_values : List ℕ
  said_values = vals N d s t m z (last_of 0 ts)

  count_16 : N ≤ 16
  count_16 =
      by_test (within 2 f 16) (λ e. held_high 0 16 N (subst (λ (u : Bool). held u 0 16 N ≡ true) e q.values.1.0))
      (λ e. omega (arith, held_zero 0 16 N (subst (λ (u : Bool). held u 0 16 N ≡ true) e q.values.1.0)))

  streams_16 : x.count ≤ 16
  unfolding count_fits
  streams_16 =
      by_test (within 2 f 8) (λ e. omega (arith, count_16, ltb-true x.count N (subst (λ (u : Bool). cond u (ltb x.count N) (eqb x.count N) ≡ true) e q.count)))
      (λ e. omega (arith, count_16, eqb-true x.count N (subst (λ (u : Bool). cond u (ltb x.count N) (eqb x.count N) ≡ true) e q.count)))

  version_in : within 1 x.version 2 ≡ true
  version_in = ⊎_elim (λ (e : x.version ≡ 1). within_is 1 x.version 2 (omega arith) (omega arith)) (λ (e : x.version ≡ 2). within_is 1 x.version 2 (omega arith) (omega arith)) q.set.either

  set_passes : valid x ≡ true
  set_passes =
      subst (λ (y : Set). valid y ≡ true) q.set.whole
      (set_ok x.version (streams_of x) version_in (omega (arith, streams_16, q.set.used))
      (all_map (Fine x.version) (GoodStream x.version) (streams_of x) (λ y w. record { ok = w.ok; four = w.four; staged = w.staged }) q.set.fine))

  stages_pass : stages_fit (stages_whole x.version s f n) (padded 4 no_stage gs) ≡ true
  unfolding stages_fit
  stages_pass =
      ap (λ (k : ℕ). list_all stage_ok (take k (padded 4 no_stage gs)) && list_all stage_unused (drop k (padded 4 no_stage gs))) (sym q.long)
      ∙ ap₂ (λ (a b : Bool). a && b) (ap (list_all stage_ok) (take-append_seam gs (replicate (4 - length gs) no_stage)) ∙ stages_ok gs q.staged) (rest_unused stage_unused 4 no_stage gs no_stage_unused)

  tuples_pass : tuples_fit (tuples_whole f n) (padded 4 no_tuple ts) ≡ true
  unfolding tuples_fit tuples_ok
  tuples_pass =
      ap (λ (k : ℕ). eqb (offset_at (get_or (padded 4 no_tuple ts) 0 no_tuple)) 0 && (tuples_ok (take k (padded 4 no_tuple ts)) && list_all tuple_unused (drop k (padded 4 no_tuple ts)))) (sym q.many)
      ∙ ap₂ (λ (a b : Bool). a && b) (first_place_lem ts q.chain)
      (ap₂ (λ (a b : Bool). a && b) (ap tuples_ok (take-append_seam ts (replicate (4 - length ts) no_tuple)) ∙ scan_of 0 0 ts q.chain) (rest_unused tuple_unused 4 no_tuple ts no_tuple_unused))

  taken_tuples : take (tuples_whole f n) (padded 4 no_tuple ts) ≡ ts
  taken_tuples = ap (λ (k : ℕ). take k (padded 4 no_tuple ts)) (sym q.many) ∙ take-append_seam ts (replicate (4 - length ts) no_tuple)

  values_pass : values_fit x.version f (last_of 0 (take (tuples_whole f n) (padded 4 no_tuple ts))) said_values ≡ true
  unfolding values_fit
  values_pass = ap (λ (l : List TuplePlace). values_fit x.version f (last_of 0 l) said_values) taken_tuples ∙ every_of (value_tests x.version f (last_of 0 ts) said_values) q.values

  said_fits : kept_fits f n said_values (padded 4 no_stage gs) (padded 4 no_tuple ts) x ≡ true
  unfolding kept_fits
  said_fits =
      every_of (fit_tests f n said_values (padded 4 no_stage gs) (padded 4 no_tuple ts) x) (
        set_passes,
        (q.version, (q.count, (le-leb n (most_whole f said_values) q.most, (stages_pass, (tuples_pass, (values_pass, tt)))))),
      )

stands_pass : (c : Carried) (k : ℕ) → k % 8 ≡ 0 → Stands c k → could_be_left c ≡ true
unfolding could_be_left fits point_fits whole_bytes came_of
stands_pass c k e w =
    let q = w.reads in
    let f : ℕ = q.f in
    let vs : List ℕ = vals q.N q.d q.s q.t q.m q.z (last_of 0 q.ts) in
    let point : point_fits (record { row = f; whole = q.n; acc = w.acc; left = w.left }) ≡ true =
    every_of (point_tests (record { row = f; whole = q.n; acc = w.acc; left = w.left })) (
      lt-ltb f 20 (omega (arith, q.row)),
      (
        le-leb w.left (width_of f) w.le,
        (ap (λ (a : Bool). a || eqb (width_of f) 0) (lt-ltb 0 w.left w.some), (lt-ltb w.acc (2 ^ (width_of f - w.left)) w.came, tt)),
      ),
    ) in
    let kept : kept_fits f q.n vs (padded 4 no_stage q.gs) (padded 4 no_tuple q.ts) q.x ≡ true = said_fits f q.n q.N q.d q.s q.t q.m q.z q.gs q.ts q.x q.said in
    let came : before_row f q.n vs q.x + (width_of f - w.left) ≡ k = ap (λ (i : ℕ). i + (width_of f - w.left)) q.room ∙ w.long in
    ap could_be_left w.same
    ∙ ap₂ (λ (a b : Bool). cond (a && b) (leb 17 f || eqb ((before_row f q.n vs q.x + (width_of f - w.left)) % 8) 0) false) point kept
    ∙ ap (λ (i : ℕ). leb 17 f || eqb (i % 8) 0) came
    ∙ ap (λ (i : ℕ). leb 17 f || eqb i 0) e
    ∙ or_true (leb 17 f)
  where
    or_true : (a : Bool) → a || true ≡ true
    or_true true = refl
    or_true false = refl

pub complete : (c : Carried) → Left c → could_be_left c ≡ true
complete c l =
    subst (λ (y : Carried). could_be_left y ≡ true) l.leads
    (⊎_elim (λ (w : Stands (run start_of (bits l.came)) (0 + length (bits l.came))). stands_pass (run start_of (bits l.came)) (0 + length (bits l.came)) (omega (arith, bits_length l.came)) w)
    (λ (w : Stopped (run start_of (bits l.came))). ap could_be_left w.same ∙ refused_passes w.f w.low w.high)
    (run_now (bits l.came) start_of 0 (bits_bits l.came) start_now))

-- "12 for a carried state that no pieces could have left"
pub left_exactly : LeftExactly
unfolding LeftExactly
left_exactly c b = (sound c b, complete c)
