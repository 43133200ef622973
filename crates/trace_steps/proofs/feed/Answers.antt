use mathlib.Core.Path.{refl}
use Rattle.trace_steps.proofs.Bytes.{feed_turn, feed_end}
use native.Mathlib.Omega.{arith}
use Rattle.trace_steps.proofs.feed.Goals as goal

pub loop-b-init : goal.loop-b-init
loop-b-init c =
    record { inside = omega arith; size = refl; low = omega arith; tracing = refl; text = refl; rest = refl }

pub loop-b-preserved : goal.loop-b-preserved
loop-b-preserved c =
    feed_turn _ c.loop-b.r c.args.piece.now c.args.out.now c.loop-b.out _ c.loop-b.b-index c.loop-b.at _ _ (omega arith) c.take_byte-t.ensures c.requires c.loop-b.invariant c.append-at.ensures.0 c.append-at.ensures.1

pub shape_of-out : goal.shape_of-out
shape_of-out c =
    c.loop-b.invariant.size

pub returns : goal.returns
returns c =
    feed_end _ c.loop-b.r c.args.piece.now c.args.out.now c.loop-b.out c.loop-b.b-index c.loop-b.at (omega arith) c.requires c.loop-b.invariant
