use native.Mathlib.Omega.{arith}
use mathlib.Core.Path.{refl, sym, subst}
use lib.ListN.{get_or}
use Rattle.laws.specs.Lists.{All}
use Rattle.laws.proofs.Sums.{sum_none, sum_take, all_at}
use Rattle.std.proofs.lemmas.List.{take_all}
use Rattle.rules.specs.Streams.{no_tuple}
use Rattle.rules.specs.Load.{rate, stream_load}
use Rattle.rules.specs.Valid.{ValidPlace}
use Rattle.rules.proofs.Stages.{cost_fits}
use Rattle.load_cycles.proofs.Bounds.{rate_fits}
use Rattle.load_cycles.proofs.joins.stream_load.Goals as goal

pub loop-p-init : goal.loop-p-init
loop-p-init c = record { is = sym (sum_none _); fits = omega arith }

pub tuple_load-acc-requires : goal.tuple_load-acc-requires
tuple_load-acc-requires c =
    let ps = c.tuples_of-p-items in
    let v : All ValidPlace ps.result.now = subst (All ValidPlace) (sym ps.ensures.value) c.requires.0.tuples in
    ((all_at ValidPlace ps.result.now c.loop-p.p-index no_tuple (omega arith) v).cycle, omega (arith, c.stream_cost-cost.ensures, cost_fits c.args.s.now c.requires.0))

pub overflow_add-acc : goal.overflow_add-acc
overflow_add-acc c =
    let cost = c.stream_cost-cost in
    omega (arith, c.tuple_load-acc.ensures, c.tuples_of-p-items.ensures.bound, rate_fits cost.result c.args.h (get_or c.tuples_of-p-items.result.now c.loop-p.p-index no_tuple) (omega (arith, cost.ensures, cost_fits c.args.s.now c.requires.0)) c.requires.1)

pub loop-p-preserved : goal.loop-p-preserved
loop-p-preserved c =
    let cost = c.stream_cost-cost in
    let ps = c.tuples_of-p-items.result.now in
    let k = c.loop-p.p-index in
    record {
      is = omega (arith, c.tuple_load-acc.ensures, c.loop-p.invariant.is, sum_take (rate c.args.h cost.result) ps k no_tuple (omega arith));
      fits = omega (arith, c.tuple_load-acc.ensures, rate_fits cost.result c.args.h (get_or ps k no_tuple) (omega (arith, cost.ensures, cost_fits c.args.s.now c.requires.0)) c.requires.1);
    }

pub returns : goal.returns
unfolding stream_load
returns c =
    rw (c.loop-p.invariant.is, take_all c.loop-p.p-index c.tuples_of-p-items.result.now (omega arith), c.tuples_of-p-items.ensures.value, c.stream_cost-cost.ensures) refl
