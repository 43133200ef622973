use native.Mathlib.Omega.{arith}
use mathlib.Core.Path.{◌∙◌, refl}
use borrow.Author.Tests.{lt-ltb, le-ltb}
use Rattle.laws.proofs.Fits.{fits_start, fits_go, fits_end}
use Rattle.rules.specs.Streams.{tuple_ok, offset_at, tuple_unused, tuples_ok, no_tuple}
use Rattle.stream_valid.proofs.tuples_fit.Goals as goal
use Rattle.stream_valid.proofs.tuples_fit.Goals.{then-k-s, else-k-s}

pub loop-k-init : goal.loop-k-init
unfolding tuples_ok
loop-k-init c = fits_start tuple_ok offset_at tuple_unused c.args.s.count 0 c.args.s.tuples

pub loop-k-preserved : goal.loop-k-preserved
loop-k-preserved c =
    let loop = c.loop-k in
    let s = c.args.s in
    fits_go tuple_ok offset_at tuple_unused s.tuples s.count loop.k loop.before _ loop.ok c.if-k-s.ok _ no_tuple _ loop.invariant refl c.offset_of-before.ensures
    (elim c.if-k-s.branch [ then-k-s w ↦ rw (lt-ltb loop.k s.count w.if-k-s.true) (w.ok-is ∙ w.tuple_ok.ensures) | else-k-s w ↦ rw (le-ltb loop.k s.count w.if-k-s.false) (w.ok-is ∙ w.tuple_unused.ensures) ])
    (omega arith)

pub returns : goal.returns
returns c =
    let loop = c.loop-k in
    fits_end tuple_ok offset_at tuple_unused _ _ _ _ _ _ loop.invariant (omega arith)
