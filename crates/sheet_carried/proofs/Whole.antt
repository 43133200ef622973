-- A stream is known by its deadline and its stages and tuples in use, a set by its version and its streams in use: the other places are
-- unused. What a set's version says of its streams.
-- Assumes nothing.
use Prim.Native.Nat.{ℕ, ◌-◌, ◌≤◌}
use mathlib.Core.List.{List, [], ◌∷◌, ◌++◌}
use mathlib.Core.Path.{◌≡◌, refl, sym, ap, ap₂, ◌∙◌}
use mathlib.Core.Logic.{◌⊎◌, inl, inr, ⊎_elim}
use mathlib.Core.Bool.{Bool, true, false, cond, false≢true}
use native.Mathlib.Omega.{arith}
use lib.ListN.{length, take, drop, replicate, length-drop, take-append-drop}
use lib.Seq.{length-take-le}
use lib.Dec.{eqb}
use borrow.Author.Tests.{eqb-true}
use Rattle.std.specs.List.{list_all}
use Rattle.laws.specs.Lists.{All}
use Rattle.laws.proofs.Sums.{Holds as Passes, all_all, all_each, and_parts, every_all}
use Rattle.laws.proofs.Fields.{all_drop}
use Rattle.rules.specs.declared.Tuple.{Tuple}
use Rattle.rules.specs.declared.Tuple.TheVariants.{Once, Every}
use Rattle.rules.specs.declared.TuplePlace.{TuplePlace}
use Rattle.rules.specs.declared.Stage.{Stage}
use Rattle.rules.specs.declared.Stream.{Stream}
use Rattle.rules.specs.declared.Set.{Set}
use Rattle.rules.specs.Streams.{FourPlaces, Placed, is_once_at_zero, no_stage, no_stream, no_tuple, one_stage, stage_unused, stages_of, stream_unused, streams_of, tuple_unused, tuples_of, version_ok}
use Rattle.rules.specs.Sheet.{set_of, stream_of}
use Rattle.rules.specs.Valid.{ValidSet, ValidStream}
use Rattle.sheet_carried.specs.Kept.{Holds}

-- the places behind those in use hold nothing
pub holds_of : {A : Type 0} (N n : ℕ) (none : A) (l : List A) → length l ≡ N → n ≤ N → drop n l ≡ replicate (length (drop n l)) none → Holds N none n l
holds_of {A} N n none l e h r =
    record {
      used = length-take-le n l (omega arith);
      unused = sym (take-append-drop n l) ∙ ap (λ (x : List A). take n l ++ x) (r ∙ ap (λ (k : ℕ). replicate k none) (let q : length (drop n l) ≡ N - n = omega (arith, length-drop n l) in q));
    }

pub whole_places : {A : Type 0} (N : ℕ) (none : A) (n : ℕ) (l : List A) → Holds N none n l → take n l ++ replicate (N - length (take n l)) none ≡ l
whole_places N none n l h = ap (λ (k : ℕ). take n l ++ replicate (N - k) none) h.used ∙ sym h.unused

-- what a stream's places hold
pub record StreamHolds (s : Stream) : Type 0 where
  pub stages : Holds 4 no_stage s.depth s.stages
  pub tuples : Holds 4 no_tuple s.count s.tuples

pub whole_stream : (s : Stream) → StreamHolds s → stream_of (stages_of s) s.deadline (tuples_of s) ≡ s
whole_stream s h =
    ap₂ (λ (d : ℕ) (l : List Stage). record { depth = d; stages = l; deadline = s.deadline; count = length (tuples_of s); tuples = tuples_of s ++ replicate (4 - length (tuples_of s)) no_tuple }) h.stages.used
    (whole_places 4 no_stage s.depth s.stages h.stages)
    ∙ ap₂ (λ (n : ℕ) (l : List TuplePlace). record { depth = s.depth; stages = s.stages; deadline = s.deadline; count = n; tuples = l }) h.tuples.used
    (whole_places 4 no_tuple s.count s.tuples h.tuples)

pub whole_set : (x : Set) → Holds 16 no_stream x.count x.streams → set_of x.version (streams_of x) ≡ x
whole_set x h =
    ap₂ (λ (n : ℕ) (l : List Stream). record { count = n; streams = l; version = x.version }) h.used
    (whole_places 16 no_stream x.count x.streams h)

-- ---- unused places

once_zero : (t : Tuple) → is_once_at_zero t ≡ true → t ≡ Once 0
once_zero (Once a) e = ap Once (eqb-true a 0 e)
once_zero (Every z a) e = absurd (false≢true e)

pub no_tuple_lem : (p : TuplePlace) → tuple_unused p ≡ true → p ≡ no_tuple
unfolding tuple_unused
no_tuple_lem p e = ap (λ (t : Tuple). record { tuple = t }) (once_zero p.tuple e)

pub no_stage_lem : (g : Stage) → stage_unused g ≡ true → g ≡ no_stage
unfolding stage_unused
no_stage_lem g e =
    let u = and_parts (eqb g.task 0) (eqb g.cost 0) e in
    ap₂ (λ (t c : ℕ). record { task = t; cost = c }) (eqb-true g.task 0 u.0) (eqb-true g.cost 0 u.1)

-- places that pass a test which only the unused one passes
pub all_none : {A : Type 0} (p : A → Bool) (none : A) → ((a : A) → p a ≡ true → a ≡ none) → (l : List A) → list_all p l ≡ true → l ≡ replicate (length l) none
all_none p none h [] e = refl
all_none {A} p none h (a ∷ l) e =
    let u = and_parts (p a) (list_all p l) e in
    ap₂ (λ (b : A) (m : List A). b ∷ m) (h a u.0) (all_none p none h l u.1)

none_of : {A : Type 0} (p : A → Bool) (none : A) → ((a : A) → p a ≡ true → a ≡ none) → (n : ℕ) (l : List A) → length l ≡ n → list_all p l ≡ true → l ≡ replicate n none
none_of p none h n l f e = all_none p none h l e ∙ ap (λ (k : ℕ). replicate k none) f

abbrev unused_tests : Stream → List Bool
unused_tests s = eqb s.depth 0 ∷ list_all stage_unused s.stages ∷ eqb s.deadline 0 ∷ eqb s.count 0 ∷ list_all tuple_unused s.tuples ∷ []

no_stream_lem : (s : Stream) → FourPlaces s → stream_unused s ≡ true → s ≡ no_stream
unfolding stream_unused
no_stream_lem s f e =
    let u : All Passes (unused_tests s) = every_all (unused_tests s) e in
    ap₂ (λ (d : ℕ) (l : List Stage). record { depth = d; stages = l; deadline = s.deadline; count = s.count; tuples = s.tuples }) (eqb-true s.depth 0 u.0) (none_of stage_unused no_stage no_stage_lem 4 s.stages f.stages u.1.0)
    ∙ ap₂ (λ (d c : ℕ). record { depth = 0; stages = replicate 4 no_stage; deadline = d; count = c; tuples = s.tuples }) (eqb-true s.deadline 0 u.1.1.0) (eqb-true s.count 0 u.1.1.1.0)
    ∙ ap (λ (l : List TuplePlace). record { depth = 0; stages = replicate 4 no_stage; deadline = 0; count = 0; tuples = l }) (none_of tuple_unused no_tuple no_tuple_lem 4 s.tuples f.tuples u.1.1.1.1.0)

no_streams_lem : (l : List Stream) → All FourPlaces l → list_all stream_unused l ≡ true → l ≡ replicate (length l) no_stream
no_streams_lem [] f e = refl
no_streams_lem (s ∷ l) f e =
    let u = and_parts (stream_unused s) (list_all stream_unused l) e in
    ap₂ (λ (q : Stream) (m : List Stream). q ∷ m) (no_stream_lem s f.0 u.0) (no_streams_lem l f.1 u.1)

-- ---- what a valid set with its places holds

pub stream_holds : (s : Stream) → ValidStream s → FourPlaces s → StreamHolds s
stream_holds s v f =
    record {
      stages = holds_of 4 s.depth no_stage s.stages f.stages (omega (arith, v.depth.high)) (all_none stage_unused no_stage no_stage_lem (drop s.depth s.stages) v.unstaged);
      tuples = holds_of 4 s.count no_tuple s.tuples f.tuples (omega (arith, v.count.high)) (all_none tuple_unused no_tuple no_tuple_lem (drop s.count s.tuples) v.unused);
    }

pub set_holds : (x : Set) → ValidSet x → Placed x → Holds 16 no_stream x.count x.streams
set_holds x v p =
    holds_of 16 x.count no_stream x.streams p.sixteen v.count
    (no_streams_lem (drop x.count x.streams) (all_drop FourPlaces x.count x.streams p.four) v.unused)

-- ---- what the version of a valid set says

-- "a version 1 set has one stage everywhere"
abbrev pub Staged : ℕ → Stream → Type 0
Staged version s = version ≡ 1 → s.depth ≡ 1

pub version_cases : (x : Set) → ValidSet x → ((x.version ≡ 1) × (list_all one_stage (streams_of x) ≡ true)) ⊎ (x.version ≡ 2)
unfolding version_ok
version_cases x v = by_version (eqb x.version 1) (eqb-true x.version 1) v.version
  where
    by_version : (b : Bool) → (b ≡ true → x.version ≡ 1) → cond b (list_all one_stage (streams_of x)) (eqb x.version 2) ≡ true
        → ((x.version ≡ 1) × (list_all one_stage (streams_of x) ≡ true)) ⊎ (x.version ≡ 2)
    by_version true h e = inl (h refl, e)
    by_version false h e = inr (eqb-true x.version 2 e)

pub version_within : (x : Set) → ValidSet x → (1 ≤ x.version) × (x.version ≤ 2)
version_within x v =
    ⊎_elim (λ (h : (x.version ≡ 1) × (list_all one_stage (streams_of x) ≡ true)). (omega (arith, h.0), omega (arith, h.0))) (λ (h : x.version ≡ 2). (omega arith, omega arith)) (version_cases x v)

pub set_staged : (x : Set) → ValidSet x → All (Staged x.version) (streams_of x)
set_staged x v =
    ⊎_elim (λ (h : (x.version ≡ 1) × (list_all one_stage (streams_of x) ≡ true)). all_all one_stage (Staged x.version) (λ s e _. eqb-true s.depth 1 e) (streams_of x) h.1)
    (λ (h : x.version ≡ 2). all_each (Staged x.version) (streams_of x) (λ s e. absurd (omega arith))) (version_cases x v)
