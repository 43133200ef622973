-- Streams and sets that pass their tests: put together of their stages, their tuples and their streams.
-- Assumes nothing.
use Prim.Native.Nat.{ℕ, zero, suc, ◌-◌, ◌≤◌, ◌<◌}
use mathlib.Core.List.{List, [], ◌∷◌, ◌++◌}
use mathlib.Core.Path.{◌≡◌, refl, ap, ap₂, ◌∙◌}
use mathlib.Core.Bool.{Bool, true, ◌&&◌}
use native.Mathlib.Omega.{arith}
use lib.ListN.{length, drop, get_or, replicate, length-append, length-replicate}
use lib.Seq.{take-append_seam, drop-append_seam}
use lib.Dec.{eqb, leb}
use borrow.Author.Tests.{eq-eqb, eqb-false, eqb-true, le-leb, leb-true}
use Rattle.std.specs.List.{list_all}
use Rattle.laws.specs.Lists.{All, every, scan, within}
use Rattle.laws.proofs.Sums.{Holds as Passes, all_map, and_parts, every_all}
use Rattle.laws.proofs.Fields.{all_append, all_replicate}
use Rattle.rules.specs.declared.Tuple.{Tuple}
use Rattle.rules.specs.declared.Tuple.TheVariants.{Once, Every}
use Rattle.rules.specs.declared.TuplePlace.{TuplePlace}
use Rattle.rules.specs.declared.Stage.{Stage}
use Rattle.rules.specs.declared.Stream.{Stream}
use Rattle.rules.specs.Streams.{FourPlaces, Placed, cycle_ok, no_stage, no_stream, no_tuple, offset, offset_at, one_stage, set_tests, stage_ok, stage_unused, stream_ok, stream_tests, stream_unused, streams_of, tuple_ok, tuple_unused, tuples_ok, valid, version_ok}
use Rattle.rules.specs.Sheet.{set_of, stream_of, tuple_of}
use Rattle.rules.specs.Valid.{Between, FirstZero, ValidCycle, ValidPlace, ValidStage}
use Rattle.rules.proofs.Valid.{valid_place}
use Rattle.sheet_carried.proofs.Filled.{cond_elim}
use Rattle.sheet_carried.proofs.Whole.{Staged}

-- ---- tests that pass, put together

pub every_of : (ts : List Bool) → All Passes ts → every ts ≡ true
every_of [] h = refl
every_of (t ∷ []) h = h.0
every_of (t ∷ (u ∷ ts)) h = ap₂ (λ (a b : Bool). a && b) h.0 (every_of (u ∷ ts) h.1)

pub both : (a b : Bool) → a ≡ true → b ≡ true → a && b ≡ true
both a b h k = ap₂ (λ (p q : Bool). p && q) h k

pub all_same : {A : Type 0} (p : A → Bool) (n : ℕ) (a : A) → p a ≡ true → list_all p (replicate n a) ≡ true
all_same p zero a h = refl
all_same p (suc n) a h = both (p a) (list_all p (replicate n a)) h (all_same p n a h)

pub within_is : (a x b : ℕ) → a ≤ x → x ≤ b → within a x b ≡ true
within_is a x b h k = ap₂ (λ (p q : Bool). p && q) (le-leb a x h) (le-leb x b k)

-- ---- tuples

-- tuples whose offsets never fall, the first from low to high
abbrev pub Chain : ℕ → ℕ → List TuplePlace → Type 0
Chain low high [] = Unit {0}
Chain low high (p ∷ ps) = (within low (offset_at p) high ≡ true) × (ValidPlace p × Chain (offset_at p) 100000 ps)

low_of : (before : ℕ) (p : TuplePlace) → tuple_ok before p ≡ true → before ≤ offset_at p
unfolding tuple_ok
low_of before p e =
    let u : All Passes (leb before (offset p.tuple) ∷ leb (offset p.tuple) 100000 ∷ cycle_ok p.tuple ∷ []) = every_all (leb before (offset p.tuple) ∷ leb (offset p.tuple) 100000 ∷ cycle_ok p.tuple ∷ []) e in
    leb-true before (offset p.tuple) u.0

pub chain_of : (before : ℕ) (ps : List TuplePlace) → scan tuple_ok offset_at before ps ≡ true → Chain before 100000 ps
unfolding scan
chain_of before [] e = tt
chain_of before (p ∷ ps) e =
    let u = and_parts (tuple_ok before p) (scan tuple_ok offset_at (offset_at p) ps) e in
    let v : ValidPlace p = valid_place before p u.0 in
    (within_is before (offset_at p) 100000 (low_of before p u.0) v.offset, (v, chain_of (offset_at p) ps u.1))

pub chain_first : (ps : List TuplePlace) → FirstZero ps → tuples_ok ps ≡ true → Chain 0 0 ps
unfolding tuples_ok scan
chain_first [] z e = tt
chain_first (p ∷ ps) z e =
    let u = and_parts (tuple_ok 0 p) (scan tuple_ok offset_at (offset_at p) ps) e in
    (within_is 0 (offset_at p) 0 (omega arith) (omega (arith, z)), (valid_place 0 p u.0, chain_of (offset_at p) ps u.1))

-- ---- one tuple that was read

pub offset_of : (z a : ℕ) → offset_at (tuple_of z a) ≡ a
offset_of z a = cond_elim (λ (t : Tuple). offset t ≡ a) (eqb z 0) (Once a) (Every z a) (λ e. refl) (λ e. refl)

pub cycle_of_lem : (z a : ℕ) → z ≤ 1000000 → ValidCycle (tuple_of z a).tuple
cycle_of_lem z a h =
    cond_elim ValidCycle (eqb z 0) (Once a) (Every z a) (λ e. tt) (λ e. record { low = omega (arith, eqb-false z 0 e); high = h })

pub within_both : (a x b : ℕ) → Between a x b → within a x b ≡ true
within_both a x b h = both (leb a x) (leb x b) (le-leb a x h.low) (le-leb x b h.high)

cycle_ok_lem : (t : Tuple) → ValidCycle t → cycle_ok t ≡ true
cycle_ok_lem (Once a) v = refl
cycle_ok_lem (Every z a) v = within_both 1 z 1000000 v

pub within_low : (a x b : ℕ) → within a x b ≡ true → a ≤ x
within_low a x b e = leb-true a x (and_parts (leb a x) (leb x b) e).0

pub within_high : (a x b : ℕ) → within a x b ≡ true → x ≤ b
within_high a x b e = leb-true x b (and_parts (leb a x) (leb x b) e).1

-- offsets in order pass the test of a stream's tuples
pub scan_of : (low high : ℕ) (ps : List TuplePlace) → Chain low high ps → scan tuple_ok offset_at low ps ≡ true
unfolding scan tuple_ok
scan_of low high [] c = refl
scan_of low high (p ∷ ps) c =
    both (tuple_ok low p) (scan tuple_ok offset_at (offset_at p) ps)
    (every_of (leb low (offset p.tuple) ∷ leb (offset p.tuple) 100000 ∷ cycle_ok p.tuple ∷ []) (
      le-leb low (offset p.tuple) (within_low low (offset_at p) high c.0),
      (le-leb (offset p.tuple) 100000 c.1.0.offset, (cycle_ok_lem p.tuple c.1.0.cycle, tt)),
    ))
    (scan_of (offset_at p) 100000 ps c.1.1)

pub first_ok : (ps rest : List TuplePlace) → 0 < length ps → Chain 0 0 ps → eqb (offset_at (get_or (ps ++ rest) 0 no_tuple)) 0 ≡ true
first_ok [] rest h c = absurd (omega arith)
first_ok (p ∷ ps) rest h c = eq-eqb (offset_at p) 0 (omega (arith, within_high 0 (offset_at p) 0 c.0))

-- ---- a stream that was read

pub no_tuple_unused : tuple_unused no_tuple ≡ true
unfolding tuple_unused
no_tuple_unused = refl

pub stage_ok_lem : (g : Stage) → ValidStage g → stage_ok g ≡ true
unfolding stage_ok
stage_ok_lem g v = both (leb g.task 15) (within 1 g.cost 65535) (le-leb g.task 15 v.task) (within_both 1 g.cost 65535 v.cost)

pub stages_ok : (gs : List Stage) → All ValidStage gs → list_all stage_ok gs ≡ true
stages_ok [] v = refl
stages_ok (g ∷ gs) v = both (stage_ok g) (list_all stage_ok gs) (stage_ok_lem g v.0) (stages_ok gs v.1)

pub no_stage_unused : stage_unused no_stage ≡ true
unfolding stage_unused
no_stage_unused = refl

-- places of which the first are in use
pub places_length : {A : Type 0} (N : ℕ) (none : A) (l : List A) → length l ≤ N → length (l ++ replicate (N - length l) none) ≡ N
places_length {A} N none l h = omega (arith, length-append l (replicate (N - length l) none), length-replicate {A = A} (N - length l) none)

pub rest_unused : {A : Type 0} (p : A → Bool) (N : ℕ) (none : A) (l : List A) → p none ≡ true → list_all p (drop (length l) (l ++ replicate (N - length l) none)) ≡ true
rest_unused p N none l h = ap (list_all p) (drop-append_seam l (replicate (N - length l) none)) ∙ all_same p (N - length l) none h

module _ (gs : List Stage) (deadline : ℕ) (ps : List TuplePlace) (shallow : length gs ≤ 4) (few : length ps ≤ 4) where
  pub stream_four : FourPlaces (stream_of gs deadline ps)
  stream_four = record { stages = places_length 4 no_stage gs shallow; tuples = places_length 4 no_tuple ps few }

  pub stream_ok_lem : 0 < length gs → All ValidStage gs → within 1 deadline 200000 ≡ true → 0 < length ps → Chain 0 0 ps → stream_ok (stream_of gs deadline ps) ≡ true
  unfolding stream_ok tuples_ok
  stream_ok_lem deep v d some h =
      every_of (stream_tests (stream_of gs deadline ps)) (
        both (leb 1 (length gs)) (leb (length gs) 4) (le-leb 1 (length gs) deep) (le-leb (length gs) 4 shallow),
        (
          ap (list_all stage_ok) (take-append_seam gs (replicate (4 - length gs) no_stage)) ∙ stages_ok gs v,
          (
            rest_unused stage_unused 4 no_stage gs no_stage_unused,
            (
              d,
              (
                both (leb 1 (length ps)) (leb (length ps) 4) (le-leb 1 (length ps) some) (le-leb (length ps) 4 few),
                (
                  first_ok ps (replicate (4 - length ps) no_tuple) some h,
                  (
                    ap (scan tuple_ok offset_at 0) (take-append_seam ps (replicate (4 - length ps) no_tuple)) ∙ scan_of 0 0 ps h,
                    (rest_unused tuple_unused 4 no_tuple ps no_tuple_unused, tt),
                  ),
                ),
              ),
            ),
          ),
        ),
      )

-- a stream of a set of the version
pub record GoodStream (version : ℕ) (s : Stream) : Type 0 where
  pub ok : stream_ok s ≡ true
  pub four : FourPlaces s
  pub staged : Staged version s

-- ---- a set that was read

pub streams_of_lem : (version : ℕ) (qs : List Stream) → streams_of (set_of version qs) ≡ qs
streams_of_lem version qs = take-append_seam qs (replicate (16 - length qs) no_stream)

pub no_stream_unused : stream_unused no_stream ≡ true
unfolding stream_unused stage_unused tuple_unused
no_stream_unused = refl

pub no_stream_four : FourPlaces no_stream
no_stream_four = record { stages = refl; tuples = refl }

module _ (version : ℕ) where
  good_ok : (qs : List Stream) → All (GoodStream version) qs → list_all stream_ok qs ≡ true
  good_ok [] g = refl
  good_ok (q ∷ qs) g = both (stream_ok q) (list_all stream_ok qs) g.0.ok (good_ok qs g.1)

  good_one : version ≡ 1 → (qs : List Stream) → All (GoodStream version) qs → list_all one_stage qs ≡ true
  good_one e [] g = refl
  good_one e (q ∷ qs) g = both (one_stage q) (list_all one_stage qs) (eq-eqb q.depth 1 (g.0.staged e)) (good_one e qs g.1)

  good_version : (qs : List Stream) → within 1 version 2 ≡ true → All (GoodStream version) qs → version_ok (set_of version qs) ≡ true
  unfolding version_ok
  good_version qs w g =
      cond_elim (λ (b : Bool). b ≡ true) (eqb version 1) (list_all one_stage (streams_of (set_of version qs))) (eqb version 2)
      (λ e. ap (list_all one_stage) (streams_of_lem version qs) ∙ good_one (eqb-true version 1 e) qs g)
      (λ e. eq-eqb version 2 (omega (arith, eqb-false version 1 e, within_low 1 version 2 w, within_high 1 version 2 w)))

  pub set_ok : (qs : List Stream) → within 1 version 2 ≡ true → length qs ≤ 16 → All (GoodStream version) qs → valid (set_of version qs) ≡ true
  unfolding valid
  set_ok qs w few g =
      every_of (set_tests (set_of version qs)) (
        le-leb (length qs) 16 few,
        (
          ap (list_all stream_ok) (streams_of_lem version qs) ∙ good_ok qs g,
          (rest_unused stream_unused 16 no_stream qs no_stream_unused, (good_version qs w g, tt)),
        ),
      )

  pub set_placed : (qs : List Stream) → length qs ≤ 16 → All (GoodStream version) qs → Placed (set_of version qs)
  set_placed qs few g =
      record {
        sixteen = places_length 16 no_stream qs few;
        four = all_append FourPlaces qs (replicate (16 - length qs) no_stream) (all_map (GoodStream version) FourPlaces qs (λ q k. k.four) g) (all_replicate FourPlaces (16 - length qs) no_stream no_stream_four);
      }
