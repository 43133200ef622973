use native.Mathlib.Omega.{arith}
use mathlib.Core.Path.{subst, sym}
use lib.ListN.{get_or}
use Rattle.laws.specs.Lists.{All}
use Rattle.laws.proofs.Sums.{all_at}
use Rattle.rules.specs.Streams.{no_tuple}
use Rattle.rules.specs.Valid.{ValidPlace}
use Rattle.rules.proofs.Stages.{cost_fits}
use Rattle.load_check.proofs.RowLaws.{front_start, front_more, front_end}
use Rattle.load_check.proofs.dues.put_stream.Goals as goal

pub overflow_cast-cost : goal.overflow_cast-cost
overflow_cast-cost c = omega (arith, c.stream_cost-cost.ensures, cost_fits c.args.s.now c.requires.2)

pub loop-p-init : goal.loop-p-init
loop-p-init c = front_start _ _ _ c.requires.1

pub row_of-requires : goal.row_of-requires
row_of-requires c =
    let ps = c.tuples_of-p-items in
    let v : All ValidPlace ps.result.now = subst (All ValidPlace) (sym ps.ensures.value) c.requires.2.tuples in
    let p : ValidPlace (get_or ps.result.now c.loop-p.p-index no_tuple) = all_at ValidPlace ps.result.now c.loop-p.p-index no_tuple (omega arith) v in
    (omega (arith, c.stream_cost-cost.ensures, cost_fits c.args.s.now c.requires.2), c.requires.2.deadline, p.offset, p.cycle)

pub put_row-requires : goal.put_row-requires
put_row-requires c = omega (arith, c.loop-p.invariant.few, c.tuples_of-p-items.ensures.bound, c.requires.0)

pub loop-p-preserved : goal.loop-p-preserved
loop-p-preserved c =
    front_more c.args.t.now c.loop-p.t c.put_row.new.t c.stream_cost-cost.result c.args.s.now.deadline c.tuples_of-p-items.result.now c.loop-p.p-index no_tuple c.row_of.result
    (omega arith) (omega (arith, c.loop-p.invariant.few, c.tuples_of-p-items.ensures.bound, c.requires.0)) c.loop-p.invariant c.row_of.ensures c.put_row.ensures.rows c.put_row.ensures.count

pub returns : goal.returns
returns c =
    let ps = c.tuples_of-p-items in
    front_end c.args.t.now c.loop-p.t c.args.s.now c.stream_cost-cost.result c.loop-p.p-index ps.result.now c.stream_cost-cost.ensures ps.ensures.value (omega arith) (omega (arith, ps.ensures.bound)) c.loop-p.invariant
