-- What the test of a valid set says of its streams and their tuples, as propositions.
-- Assumes nothing.
use Prim.Native.Nat.{ℕ, zero, suc, ◌≤◌}
use native.Mathlib.Omega.{arith}
use mathlib.Core.Path.{◌≡◌}
use mathlib.Core.List.{List, [], ◌∷◌}
use mathlib.Core.Bool.{Bool, true}
use lib.Dec.{leb, eqb}
use lib.ListN.{length, get_or, take, length-take}
use borrow.Author.Tests.{leb-true, eqb-true}
use Rattle.laws.specs.Lists.{within, All, scan}
use Rattle.laws.proofs.Sums.{and_parts, every_all, Holds, all_all}
use Rattle.rules.specs.declared.Tuple.{Tuple}
use Rattle.rules.specs.declared.Tuple.TheVariants.{Once, Every}
use Rattle.rules.specs.declared.TuplePlace.{TuplePlace}
use Rattle.rules.specs.declared.Stage.{Stage}
use Rattle.rules.specs.declared.Stream.{Stream}
use Rattle.rules.specs.declared.Set.{Set}
use Rattle.rules.specs.Valid.{Between, ValidCycle, ValidPlace, FirstZero, ValidStage, ValidStream, ValidSet}
use Rattle.rules.specs.Streams.{no_tuple, stages_of, tuples_of, streams_of, offset, offset_at, cycle_ok, tuple_ok, tuples_ok, stage_ok, stream_tests, stream_ok, set_tests, valid}

between : (a x b : ℕ) → within a x b ≡ true → Between a x b
between a x b e =
    let u : (leb a x ≡ true) × (leb x b ≡ true) = and_parts (leb a x) (leb x b) e in
    record { low = leb-true a x u.0; high = leb-true x b u.1 }

valid_cycle : (t : Tuple) → cycle_ok t ≡ true → ValidCycle t
valid_cycle (Once a) e = tt
valid_cycle (Every z a) e = between 1 z 1000000 e

abbrev tuple_tests : ℕ → TuplePlace → List Bool
tuple_tests before p = leb before (offset p.tuple) ∷ leb (offset p.tuple) 100000 ∷ cycle_ok p.tuple ∷ []

pub valid_place : (before : ℕ) (p : TuplePlace) → tuple_ok before p ≡ true → ValidPlace p
unfolding tuple_ok
valid_place before p e =
    let u : All Holds (tuple_tests before p) = every_all (tuple_tests before p) e in
    record { offset = leb-true (offset p.tuple) 100000 u.1.0; cycle = valid_cycle p.tuple u.1.1.0 }

valid_places : (before : ℕ) (ps : List TuplePlace) → scan tuple_ok offset_at before ps ≡ true → All ValidPlace ps
unfolding scan
valid_places before [] e = tt
valid_places before (p ∷ ps) e =
    let u : (tuple_ok before p ≡ true) × (scan tuple_ok offset_at (offset_at p) ps ≡ true) =
    and_parts (tuple_ok before p) (scan tuple_ok offset_at (offset_at p) ps) e in
    (valid_place before p u.0, valid_places (offset_at p) ps u.1)

first_zero : (n : ℕ) (ps : List TuplePlace) → eqb (offset_at (get_or ps 0 no_tuple)) 0 ≡ true → FirstZero (take n ps)
first_zero zero ps e = tt
first_zero (suc n) [] e = tt
first_zero (suc n) (p ∷ ps) e = eqb-true (offset_at p) 0 e

abbrev stage_tests : Stage → List Bool
stage_tests g = leb g.task 15 ∷ within 1 g.cost 65535 ∷ []

pub valid_stage : (g : Stage) → stage_ok g ≡ true → ValidStage g
unfolding stage_ok
valid_stage g e =
    let u : All Holds (stage_tests g) = every_all (stage_tests g) e in
    record { task = leb-true g.task 15 u.0; cost = between 1 g.cost 65535 u.1.0 }

pub valid_stream : (s : Stream) → stream_ok s ≡ true → ValidStream s
unfolding stream_ok tuples_ok
valid_stream s e =
    let u : All Holds (stream_tests s) = every_all (stream_tests s) e in
    record {
      depth = between 1 s.depth 4 u.0;
      stages = all_all stage_ok ValidStage valid_stage (stages_of s) u.1.0;
      unstaged = u.1.1.0;
      deadline = between 1 s.deadline 200000 u.1.1.1.0;
      count = between 1 s.count 4 u.1.1.1.1.0;
      tuples = valid_places 0 (tuples_of s) u.1.1.1.1.1.1.0;
      first = first_zero s.count s.tuples u.1.1.1.1.1.0;
      order = u.1.1.1.1.1.1.0;
      unused = u.1.1.1.1.1.1.1.0;
    }

pub valid_set : (x : Set) → valid x ≡ true → ValidSet x
unfolding valid
valid_set x e =
    let u : All Holds (set_tests x) = every_all (set_tests x) e in
    record {
      count = leb-true x.count 16 u.0;
      streams = all_all stream_ok ValidStream valid_stream (streams_of x) u.1.0;
      unused = u.1.1.0;
      version = u.1.1.1.0;
    }

pub streams_few : (x : Set) → ValidSet x → length (streams_of x) ≤ 16
streams_few x v = omega (arith, v.count, length-take x.count x.streams)
