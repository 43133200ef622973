use native.Mathlib.Omega.{arith}
use mathlib.Core.Path.{◌∙◌, refl}
use Prim.Native.Nat.{ℕ}
use borrow.Author.Tests.{lt-ltb, le-ltb}
use Rattle.laws.proofs.Fits.{fits_start, fits_go, fits_end, scan_all}
use Rattle.stream_valid.proofs.parts_fit.Goals as goal
use Rattle.stream_valid.proofs.parts_fit.Goals.{then-k-n, else-k-n}

pub loop-k-init : goal.loop-k-init
loop-k-init g c = rw (fits_start (λ (b : ℕ). g.T.Part.ok) (λ x. 0) g.T.Part.unused c.args.n 0 c.args.parts.now, scan_all {B = ℕ} g.T.Part.ok (λ x. 0) 0) refl

pub loop-k-preserved : goal.loop-k-preserved
loop-k-preserved g c =
    let loop = c.loop-k in
    fits_go (λ (b : ℕ). g.T.Part.ok) (λ x. 0) g.T.Part.unused c.args.parts.now c.args.n loop.k 0 0 loop.ok c.if-k-n.ok _ c.index-parts-k.result _ loop.invariant c.index-parts-k.is refl
    (elim c.if-k-n.branch [ then-k-n w ↦ rw (lt-ltb loop.k c.args.n w.if-k-n.true) (w.ok-is ∙ w.ok.ensures) | else-k-n w ↦ rw (le-ltb loop.k c.args.n w.if-k-n.false) (w.ok-is ∙ w.unused.ensures) ])
    (omega arith)

pub returns : goal.returns
returns g c =
    let loop = c.loop-k in
    fits_end (λ (b : ℕ). g.T.Part.ok) (λ x. 0) g.T.Part.unused _ _ _ 0 _ _ loop.invariant (omega arith)
