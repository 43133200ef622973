-- A line with a jitter says the stream with the jitter's two tuples.
-- Assumes nothing.
use Prim.Native.Nat.{ℕ, ◌-◌, ◌*◌, ◌≤◌}
use native.Mathlib.Omega.{arith}
use mathlib.Core.Path.{◌≡◌, refl, sym, ap, ◌∙◌}
use mathlib.Core.Bool.{true}
use mathlib.Core.List.{List, [], ◌∷◌, ◌++◌, append_assoc, append-nil}
use lib.ListN.{length}
use lib.Dec.{leb}
use borrow.Author.Tests.{le-leb, leb-true}
use Rattle.laws.specs.Lists.{within, flat}
use Rattle.laws.proofs.Sums.{and_parts, every_all}
use Rattle.rules.specs.declared.Tuple.TheVariants.{Once, Every}
use Rattle.rules.specs.declared.TuplePlace.{TuplePlace}
use Rattle.rules.specs.declared.Stage.{Stage}
use Rattle.rules.specs.declared.Stream.{Stream}
use Rattle.rules.specs.Streams.{jitter_ok, jitter_of}
use Rattle.rules.specs.Sheet.{stream_of}
use Rattle.ascii.specs.Decimal.{letters, decimal_of}
use Rattle.std.specs.Prelude.{Ok}
use Rattle.text_line.specs.Lines.{lead, stage_text, by_field, needed, leads, by_jitter, added, jitter_said, each_way_at, jitter_at, limit_at}
use Rattle.promise_texts.specs.Returns.{jitter_text, jitter_tuples, JitterReturns}
use Rattle.promise_texts.proofs.Fields.{starts, field_here}
use Rattle.promise_texts.proofs.Lines.{says, added_more, front_here}

-- a jitter that is in rule is no longer than its cycle, which is short
pub record Small (z j : ℕ) : Type 0 where
  pub cycle : z ≤ 1000000
  pub each : j ≤ 1000000

small : (z j : ℕ) → jitter_ok z j ≡ true → Small z j
unfolding jitter_ok
small z j e =
    let u = every_all (within 1 z 1000000 ∷ leb (2 * j) z ∷ leb (z - 2 * j) 100000 ∷ []) e in
    let high : z ≤ 1000000 = leb-true z 1000000 (and_parts (leb 1 z) (leb z 1000000) u.0).1 in
    let both : 2 * j ≤ z = leb-true (2 * j) z u.1.0 in
    record { cycle = high; each = omega arith }

-- the line's end behind it
said_here : (gs : List Stage) (d z j : ℕ) (l : List ℕ) (at : ℕ) → jitter_ok z j ≡ true → length l ≤ at
    → jitter_said (stream_of gs d []) z j l at ≡ Ok (stream_of gs d (jitter_tuples z j))
unfolding jitter_said jitter_of by_jitter
said_here gs d z j l at ok h =
    let o : TuplePlace = record { tuple = Once 0 } in
    let y : TuplePlace = record { tuple = Every z (z - 2 * j) } in
    let two : added (added (stream_of gs d []) (Once 0)) (Every z (z - 2 * j)) ≡ stream_of gs d (o ∷ (y ∷ [])) =
    ap (λ (s : Stream). added s (Every z (z - 2 * j))) (added_more gs d [] o (omega arith)) ∙ added_more gs d (o ∷ []) y (omega arith) in
    rw (ok, le-leb (length l) at h, two)

pub jitter_returns : JitterReturns
unfolding JitterReturns jitter_text limit_at jitter_at each_way_at by_field needed leads lead
jitter_returns version gs d z j k g f ok =
    let v : Small z j = small z j ok in
    let A : List ℕ = flat stage_text gs in
    let B : List ℕ = letters "deadline " ++ decimal_of d in
    let E : List ℕ = letters " " ++ decimal_of j in
    let D : List ℕ = letters " jitter " ++ decimal_of z ++ E in
    let l : List ℕ = A ++ (B ++ D) in
    let before : List ℕ = A ++ B in
    let front : l ≡ A ++ (letters "deadline " ++ (decimal_of d ++ D)) = ap (λ (w : List ℕ). A ++ w) (append_assoc (letters "deadline ") (decimal_of d) D) in
    let back : l ≡ before ++ D = sym (append_assoc A B D) in
    let here : l ≡ before ++ (letters " jitter " ++ (decimal_of z ++ E)) = back ∙ ap (λ (w : List ℕ). before ++ w) (append_assoc (letters " jitter ") (decimal_of z) E) in
    let from : List ℕ = before ++ (letters " jitter " ++ decimal_of z) in
    let whole : l ≡ from ++ E = back ∙ sym (append_assoc before (letters " jitter " ++ decimal_of z) E) in
    let last : l ≡ from ++ (letters " " ++ (decimal_of j ++ [])) = whole ∙ ap (λ (w : List ℕ). from ++ (letters " " ++ w)) (sym (append-nil (decimal_of j))) in
    let end : length l ≤ length (from ++ E) = omega (arith, ap length whole) in
    front_here version d D refl f gs l k g front
    ∙ rw (
      starts (letters " jitter") before (32 ∷ (decimal_of z ++ E)) l here,
      field_here 0 4294967295 z E refl (omega arith) (omega (arith, v.cycle)) (omega (arith, v.cycle)) (letters " jitter ") before l here,
      field_here 0 4294967295 j [] refl (omega arith) (omega (arith, v.each)) (omega (arith, v.each)) (letters " ") from l last,
    )
    (ap says (said_here gs d z j l (length (from ++ E)) ok end))
