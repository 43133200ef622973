use native.Mathlib.Omega.{arith}
use mathlib.Core.Path.{refl}
use lib.ListN.{get_or}
use Rattle.std.proofs.lemmas.List.{take_all}
use Rattle.laws.specs.Lists.{sum}
use Rattle.laws.proofs.Sums.{sum_take}
use Rattle.rules.specs.Streams.{events, limit, no_tuple}
use Rattle.stream_limits.proofs.Events.{events_le}
use Rattle.stream_limits.proofs.limit_of.Goals as goal

pub loop-p-init : goal.loop-p-init
unfolding sum
loop-p-init c = record { is = refl; fits = omega arith }

pub loop-p-preserved : goal.loop-p-preserved
unfolding events
loop-p-preserved c =
    let loop = c.loop-p in
    let ps = c.tuples_of-p-items.result.now in
    record {
      is = rw (c.events_of-sum.ensures, sum_take (events c.args.i) ps loop.p-index no_tuple (omega arith), loop.invariant.is) refl;
      fits = omega (arith, c.events_of-sum.ensures, events_le (get_or ps loop.p-index no_tuple).tuple c.args.i);
    }

pub returns : goal.returns
unfolding limit
returns c =
    let loop = c.loop-p in
    let ps = c.tuples_of-p-items.result.now in
    rw (loop.invariant.is, take_all loop.p-index ps (omega arith), c.tuples_of-p-items.ensures.value) refl
