use native.Mathlib.Omega.{arith}
use Prim.Native.Nat.{◌+◌, ◌*◌}
use mathlib.Core.Path.{◌≡◌, refl, sym, ◌∙◌}
use lib.ListN.{length}
use Rattle.std.specs.Prelude.{Some}
use Rattle.bits.specs.Places.{two_of}
use Rattle.bits.proofs.Answers.{Eight, two_in}
use Rattle.sheet_read.specs.AtOnce.{untupled}
use Rattle.sheet_read.proofs.AtOnce.{From, came_at_once, comes_first, comes_next}
use Rattle.sheet_read.proofs.tuples.before_last.Goals as goal

-- src/tuples.rt:60:5
pub loop-k-init : goal.loop-k-init
loop-k-init c = (
  c.requires.1,
  omega arith,
  c.requires.2,
  refl,
  λ vs gs x f k. comes_first vs c.args.piece.now (8 * c.args.from.byte + c.args.from.bit) _ _ _ gs c.no_tuples.result x f c.no_tuples.ensures k,
)

pub loop-k-preserved : goal.loop-k-preserved
loop-k-preserved c =
    let l = c.loop-k in
    let e : Some (c.in-Some.cycle, c.in-Some.offset) ≡ two_of c.args.piece.now l.came.at.byte l.came.at.bit 20 17 = sym c.in-Some.is ∙ c.take_two.ensures in
    let passed = sym c.in_rule.ensures ∙ c.if-not-in_rule.false in
    let h : Eight (length c.args.piece.now) l.came.at.byte l.came.at.bit 20 17 = two_in c.args.piece.now l.came.at.byte l.came.at.bit 20 17 c.in-Some.cycle c.in-Some.offset e in (
      omega arith,
      omega (arith, l.invariant.1),
      omega (arith, h.there, h.first),
      refl,
      λ vs gs x f k.
          let i = rw l.invariant.3 at (l.invariant.4 vs gs x f k) in
          comes_next vs c.args.piece.now (8 * c.args.from.byte + c.args.from.bit) l.came.at.byte l.came.at.bit l.came.cycle l.came.low l.k (untupled vs gs x) gs l.came.places x c.in-Some.cycle c.in-Some.offset c.tuple_of.result _ i e passed c.tuple_of.ensures (omega (arith, f.last_is, c.loop-k-test.true)) (omega arith),
    )

pub returns : goal.returns
returns c =
    let l = c.loop-k in
    let f : From c.args.values _ _ _ = record { last_is = refl; cycle_was = refl; low_was = refl } in
    came_at_once _ _ _ _ l.invariant.0 l.invariant.1 l.invariant.2 (λ gs x. l.invariant.4 c.args.values gs x f)
