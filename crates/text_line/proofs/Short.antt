-- A valid stream's line is short: at most 118 bytes with one stage, and 175 with four.
-- Assumes nothing.
use Prim.Native.Nat.{ℕ, zero, suc, ◌+◌, ◌*◌, ◌/◌, ◌%◌, ◌^◌, ◌≤◌, ◌<◌}
use native.Mathlib.Omega.{arith}
use native.Mathlib.Nat.{pow-suc}
use mathlib.Core.Path.{◌≡◌}
use mathlib.Core.Bool.{true}
use mathlib.Core.List.{List, [], ◌∷◌, ◌++◌}
use lib.ListN.{length, length-append, length-take}
use lib.Dec.{ltb}
use borrow.Author.Tests.{ltb-false}
use Rattle.laws.specs.Lists.{All, flat}
use Rattle.laws.proofs.Sums.{by_test}
use Rattle.rules.specs.declared.Tuple.{Tuple}
use Rattle.rules.specs.declared.Tuple.TheVariants.{Once, Every}
use Rattle.rules.specs.declared.TuplePlace.{TuplePlace}
use Rattle.rules.specs.declared.Stage.{Stage}
use Rattle.rules.specs.declared.Stream.{Stream}
use Rattle.rules.specs.Streams.{offset, stages_of, tuples_of, stream_ok}
use Rattle.rules.specs.Valid.{ValidCycle, ValidPlace, ValidStage, ValidStream}
use Rattle.rules.proofs.Valid.{valid_stream}
use Rattle.ascii.specs.Decimal.{letters, digits_of, decimal_of}
use Rattle.text_line.specs.Lines.{stage_text, tuple_text, place_text, stages_text, limit_text, stream_text}

-- a number below a power of ten has no more digits than the power has noughts
pub digits_few : (m k n : ℕ) → n < 10 ^ suc k → length (digits_of m n) ≤ suc k
unfolding digits_of
digits_few zero k n h = omega arith
digits_few (suc m) zero n h = let small : n < 10 = omega (arith, pow-suc 10 0) in by_test (ltb n 10) (λ e. rw e (omega arith)) (λ e. absurd (omega (arith, ltb-false n 10 e)))
digits_few (suc m) (suc k) n h =
    let rest : n / 10 < 10 ^ suc k = omega (arith, pow-suc 10 (suc k)) in
    by_test (ltb n 10) (λ e. rw e (omega arith))
    (λ e. rw e (omega (arith, length-append (digits_of m (n / 10)) ((48 + n % 10) ∷ []), digits_few m k (n / 10) rest)))

-- a tuple's text
tuple_short : (t : Tuple) → offset t ≤ 100000 → ValidCycle t → length (tuple_text t) ≤ 21
tuple_short (Once a) h c = omega (arith, length-append (letters " once@") (decimal_of a), digits_few 20 5 a (omega arith))
tuple_short (Every z a) h c =
    omega (
      arith,
      length-append (decimal_of z ++ letters "@") (decimal_of a),
      length-append (decimal_of z) (letters "@"),
      digits_few 20 6 z (omega (arith, c.high)),
      digits_few 20 5 a (omega arith),
    )

tuples_short : (ts : List TuplePlace) → All ValidPlace ts → length (flat place_text ts) ≤ 21 * length ts
unfolding flat
tuples_short [] h = omega arith
tuples_short (p ∷ ts) h =
    omega (arith, length-append (place_text p) (flat place_text ts), tuple_short p.tuple h.0.offset h.0.cycle, tuples_short ts h.1)

stage_short : (g : Stage) → ValidStage g → length (stage_text g) ≤ 19
stage_short g v =
    omega (
      arith,
      length-append (letters "task " ++ decimal_of g.task ++ (letters " cost " ++ decimal_of g.cost)) (letters " "),
      length-append (letters "task " ++ decimal_of g.task) (letters " cost " ++ decimal_of g.cost),
      length-append (letters "task ") (decimal_of g.task),
      length-append (letters " cost ") (decimal_of g.cost),
      digits_few 20 1 g.task (omega (arith, v.task)),
      digits_few 20 4 g.cost (omega (arith, v.cost.high)),
    )

all_short : (gs : List Stage) → All ValidStage gs → length (flat stage_text gs) ≤ 19 * length gs
unfolding flat
all_short [] h = omega arith
all_short (g ∷ gs) h =
    omega (arith, length-append (stage_text g) (flat stage_text gs), stage_short g h.0, all_short gs h.1)

module _ (s : Stream) (ok : stream_ok s ≡ true) where
  v : ValidStream s
  v = valid_stream s ok

  pub stages_short : length (stages_text s) ≤ 19 * s.depth
  unfolding stages_text
  stages_short = omega (arith, length-take s.depth s.stages, all_short (stages_of s) v.stages)

  pub limit_short : length (limit_text s) ≤ 99
  unfolding limit_text
  limit_short =
      let four : length (tuples_of s) ≤ 4 = omega (arith, length-take s.count s.tuples, v.count.high) in
      omega (
        arith,
        length-append (letters "deadline " ++ decimal_of s.deadline) (flat place_text (tuples_of s)),
        length-append (letters "deadline ") (decimal_of s.deadline),
        digits_few 20 5 s.deadline (omega (arith, v.deadline.high)),
        tuples_short (tuples_of s) v.tuples,
      )

  -- a stream with one stage has at most 118 bytes, one with four at most 175
  pub stream_short : length (stream_text s) ≤ 19 * s.depth + 99
  stream_short = omega (arith, length-append (stages_text s) (limit_text s), stages_short, limit_short)

  pub stream_fits : length (stream_text s) ≤ 175
  stream_fits = omega (arith, stream_short, v.depth.high)
