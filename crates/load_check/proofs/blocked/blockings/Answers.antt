use native.Mathlib.Omega.{arith}
use Prim.Native.Nat.{ℕ}
use mathlib.Core.Path.{◌≡◌, ap, sym, ◌∙◌}
use Rattle.laws.specs.Lists.{below, sum}
use Rattle.laws.proofs.Sums.{sum_none, sum_below}
use Rattle.rules.specs.Streams.{streams_of}
use Rattle.rules.specs.Load.{blocking}
use Rattle.load_check.specs.Blocked.{blockings_of}
use Rattle.load_check.proofs.Bounds.{blocking_fits}
use Rattle.load_check.proofs.blocked.blockings.Goals as goal

pub loop-t-init : goal.loop-t-init
loop-t-init c = record { is = sym (sum_none _); fits = omega arith }

pub loop-t-preserved : goal.loop-t-preserved
loop-t-preserved c =
    record {
      is = omega (arith, c.from-acc.ensures, c.task_blocking.ensures, c.loop-t.invariant.is, sum_below (blocking (streams_of c.args.x.now) c.args.i) c.loop-t.t);
      fits = omega (arith, c.from-acc.ensures, c.task_blocking.ensures, blocking_fits (streams_of c.args.x.now) c.args.i c.loop-t.t c.requires.streams);
    }

pub returns : goal.returns
unfolding blockings_of
returns c =
    let e : c.loop-t.t ≡ 16 = omega arith in
    c.loop-t.invariant.is ∙ ap (λ (n : ℕ). sum (blocking (streams_of c.args.x.now) c.args.i) (below n)) e
