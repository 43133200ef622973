-- The ways out of the functions that test a carried state, as laws.
-- Assumes nothing.
use Prim.Native.Nat.{ℕ, suc, ◌-◌, ◌^◌, ◌≤◌, ◌<◌, min}
use mathlib.Core.List.{List, [], ◌∷◌}
use mathlib.Core.Path.{◌≡◌, refl, sym, ap, ap₂, ◌∙◌}
use mathlib.Core.Bool.{Bool, true, false, ◌&&◌, ◌||◌}
use native.Mathlib.Omega.{arith}
use lib.ListN.{length, get_or, take, drop}
use lib.Seq.{take-length, take_all}
use lib.Dec.{eqb, leb, ltb}
use borrow.Author.Tests.{le-leb, lt-leb, ltb-false, ltb-true}
use Rattle.laws.proofs.Sums.{by_test}
use Rattle.std.specs.List.{list_all}
use Rattle.laws.specs.Lists.{within}
use Rattle.laws.proofs.Fits.{and_assoc}
use Rattle.rules.specs.declared.TuplePlace.{TuplePlace}
use Rattle.rules.specs.declared.Stage.{Stage}
use Rattle.rules.specs.declared.Set.{Set}
use Rattle.rules.specs.Streams.{no_tuple, offset_at, stage_ok, stage_unused, tuple_unused, tuples_ok, valid}
use Rattle.sheet_carried.specs.declared.Point.{Point}
use Rattle.sheet_carried.specs.Table.{row_of, width_of}
use Rattle.sheet_carried.specs.Kept.{most_whole, stages_whole, tuples_whole}
use Rattle.sheet_carried.specs.Left.{count_fits, dated, deepened, held, kept_fits, last_of, point_fits, stages_fit, tuples_fit, values_fit, version_fits}
use Rattle.sheet_carried.proofs.Chains.{last_taken}
use Rattle.sheet_carried.proofs.Rows.{by_value_row, refused_row, width_le, width_pad, width_some}

-- ---- by row

pub width_value : (f v : ℕ) → f < 9 → v ≡ get_or (4 ∷ 5 ∷ 18 ∷ 2 ∷ 4 ∷ 16 ∷ 2 ∷ 20 ∷ 17 ∷ []) f 0 → v ≡ width_of f
unfolding row_of
width_value f v h e =
    e ∙ by_value_row (λ (g : ℕ). get_or (4 ∷ 5 ∷ 18 ∷ 2 ∷ 4 ∷ 16 ∷ 2 ∷ 20 ∷ 17 ∷ []) g 0 ≡ width_of g) refl refl refl refl refl refl refl refl refl f h

pub width_one : (f : ℕ) → 9 ≤ f → f < 17 → 1 ≡ width_of f
width_one f h k = omega (arith, width_pad f h, width_some f k)

pub width_zero : (f : ℕ) → 17 ≤ f → 0 ≡ width_of f
width_zero f h = sym (ap (λ r. r.width) (refused_row f h))

-- ---- the field that comes

pub point_short : (p : Point) (w left : ℕ) → w ≡ width_of p.row → left ≡ p.left → w < left → false ≡ point_fits p
unfolding point_fits
point_short p w left e h k =
    sym
    (ap (λ (b : Bool). ltb p.row 20 && (b && ((ltb 0 p.left || eqb (width_of p.row) 0) && ltb p.acc (2 ^ (width_of p.row - p.left))))) (lt-leb p.left (width_of p.row) (omega arith))
    ∙ and_none (ltb p.row 20))
  where
    and_none : (t : Bool) → t && false ≡ false
    and_none true = refl
    and_none false = refl

pub point_whole : (p : Point) (w left : ℕ) (came : Bool) → w ≡ width_of p.row → left ≡ p.left → left ≤ w → came ≡ ltb p.acc (2 ^ (w - left)) → (ltb p.row 20 && ((ltb 0 left || eqb w 0) && came)) ≡ point_fits p
unfolding point_fits
point_whole p w left came e h k g =
    ap₂ (λ (a b : ℕ). ltb p.row 20 && ((ltb 0 b || eqb a 0) && came)) e h
    ∙ ap (λ (b : Bool). ltb p.row 20 && ((ltb 0 p.left || eqb (width_of p.row) 0) && b)) (g ∙ ap₂ (λ (a b : ℕ). ltb p.acc (2 ^ (a - b))) e h)
    ∙ sym (ap (λ (b : Bool). ltb p.row 20 && (b && ((ltb 0 p.left || eqb (width_of p.row) 0) && ltb p.acc (2 ^ (width_of p.row - p.left))))) (le-leb p.left (width_of p.row) (omega arith)))

pub width_few : (p w left : ℕ) → w ≡ width_of p → left ≤ w → (left ≤ w) × (w ≤ 20)
width_few p w left e h = (h, omega (arith, width_le p))

-- ---- the stream that is being read

pub last_none : (k : ℕ) (ts : List TuplePlace) → k ≡ 0 → 0 ≡ last_of 0 (take k ts)
unfolding last_of
last_none k ts e = ap (λ (j : ℕ). last_of 0 (take j ts)) (sym e)

last_in : (k v : ℕ) (ts : List TuplePlace) → length ts ≡ 4 → (k ≡ 0 → ⊥) → k < 4 → v ≡ offset_at (get_or ts (k - 1) no_tuple) → v ≡ last_of 0 (take k ts)
last_in k v ts e h i g = g ∙ sym (last_taken 0 (k - 1) ts (omega arith)) ∙ ap (λ (j : ℕ). last_of 0 (take j ts)) (let q : suc (k - 1) ≡ k = omega (arith, h) in q)

last_all : (k v : ℕ) (ts : List TuplePlace) → length ts ≡ 4 → 4 ≤ k → v ≡ offset_at (get_or ts 3 no_tuple) → v ≡ last_of 0 (take k ts)
last_all k v ts e h g = g ∙ sym (last_taken 0 3 ts (omega arith)) ∙ ap (last_of 0) (ap (λ (j : ℕ). take j ts) (sym e) ∙ take-length ts ∙ sym (take_all k ts (omega arith)))

-- the offset of the last of the first k, or of all four
pub last_at : (k m v : ℕ) (ts : List TuplePlace) → length ts ≡ 4 → (k ≡ 0 → ⊥) → m ≡ min k 4 → v ≡ offset_at (get_or ts (m - 1) no_tuple) → v ≡ last_of 0 (take k ts)
last_at k m v ts e h q g =
    by_test (ltb k 4)
    (λ y. last_in k v ts e h (ltb-true k 4 y) (g ∙ ap (λ (j : ℕ). offset_at (get_or ts (j - 1) no_tuple)) (let u : m ≡ k = omega (arith, ltb-true k 4 y) in u)))
    (λ y. last_all k v ts e (ltb-false k 4 y) (g ∙ ap (λ (j : ℕ). offset_at (get_or ts j no_tuple)) (let u : m - 1 ≡ 3 = omega (arith, ltb-false k 4 y) in u)))

pub part_whole : (k j first : ℕ) (gs : List Stage) (ts : List TuplePlace) (staged tupled : Bool) → staged ≡ (list_all stage_ok (take k gs) && list_all stage_unused (drop k gs)) → first ≡ offset_at (get_or ts 0 no_tuple)
    → tupled ≡ (tuples_ok (take j ts) && list_all tuple_unused (drop j ts)) → (staged && (eqb first 0 && tupled)) ≡ (stages_fit k gs && tuples_fit j ts)
unfolding stages_fit tuples_fit
part_whole k j first gs ts staged tupled e f g = rw (e, f, g)

-- ---- all of it

pub kept_whole : (f n j k most low m : ℕ) (vs : List ℕ) (gs : List Stage) (ts : List TuplePlace) (x : Set) (ok version count part valued : Bool) → ok ≡ valid x → version ≡ version_fits x.version f → m ≡ get_or vs 1 0 → count ≡ count_fits f x.count m
    → j ≡ tuples_whole f n → most ≡ most_whole f vs → k ≡ stages_whole x.version (get_or vs 3 0) f n → part ≡ (stages_fit k gs && tuples_fit j ts) → low ≡ last_of 0 (take j ts) → valued ≡ values_fit x.version f low vs
    → (ok && (version && (count && (leb n most && (part && valued))))) ≡ kept_fits f n vs gs ts x
unfolding kept_fits
kept_whole f n j k most low m vs gs ts x ok version count part valued a b c d e g h i o p =
    let q : low ≡ last_of 0 (take (tuples_whole f n) ts) = o ∙ ap (λ (u : ℕ). last_of 0 (take u ts)) e in
    let r : part ≡ (stages_fit (stages_whole x.version (get_or vs 3 0) f n) gs && tuples_fit (tuples_whole f n) ts) = i ∙ ap₂ (λ (u v : ℕ). stages_fit u gs && tuples_fit v ts) h e in
    ap₂ (λ (u v : Bool). u && (v && (count && (leb n most && (part && valued))))) a b
    ∙ ap₂ (λ (u : Bool) (v : ℕ). valid x && (version_fits x.version f && (u && (leb n v && (part && valued))))) (d ∙ ap (count_fits f x.count) c) g
    ∙ ap₂ (λ (u v : Bool). valid x && (version_fits x.version f && (count_fits f x.count (get_or vs 1 0) && (leb n (most_whole f vs) && (u && v))))) r (p ∙ ap (λ (u : ℕ). values_fit x.version f u vs) q)
    ∙ ap (λ (t : Bool). valid x && (version_fits x.version f && (count_fits f x.count (get_or vs 1 0) && (leb n (most_whole f vs) && t)))) (sym (and_assoc (stages_fit (stages_whole x.version (get_or vs 3 0) f n) gs) (tuples_fit (tuples_whole f n) ts) _))

pub values_whole : (version f low : ℕ) (vs : List ℕ) (count hasDate date hasDepth depth task limit cycle : Bool) → count ≡ held (within 2 f 16) 0 16 (get_or vs 1 0) → hasDate ≡ dated version f → date ≡ held hasDate 1 200000 (get_or vs 2 0)
    → hasDepth ≡ deepened version f → depth ≡ held hasDepth 0 3 (get_or vs 3 0) → task ≡ held (eqb f 5) 0 15 (get_or vs 4 0) → limit ≡ held (within 7 f 8) 0 3 (get_or vs 6 0) → cycle ≡ held (eqb f 8) 0 1000000 (get_or vs 7 0)
    → (eqb (get_or vs 0 0) 0 && (count && (date && (depth && (task && (eqb (get_or vs 5 0) 0 && (limit && (cycle && eqb (get_or vs 8 0) low)))))))) ≡ values_fit version f low vs
unfolding values_fit
values_whole version f low vs count hasDate date hasDepth depth task limit cycle a b c d e g h i = rw (a, c, b, e, d, g, h, i)
