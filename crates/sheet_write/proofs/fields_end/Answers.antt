use native.Mathlib.Omega.{arith}
use mathlib.Core.Path.{refl}
use Rattle.laws.specs.Lists.{flat}
use Rattle.sheet_write.proofs.Writing.{count_is, end_fits, end_is, end_next, stream_written}
use Rattle.sheet_write.proofs.fields_end.Goals as goal

pub loop-s-init : goal.loop-s-init
unfolding flat
loop-s-init c = refl

pub stream_end-end-requires : goal.stream_end-end-requires
stream_end-end-requires c =
    stream_written c.args.x c.requires c.loop-s.s-index _ (omega (arith, count_is c.args.x c.requires))

pub overflow_add-end : goal.overflow_add-end
overflow_add-end c =
    omega (arith, end_fits c.args.x c.requires c.loop-s.s-index _ c.loop-s.end c.stream_end-end.result (omega (arith, count_is c.args.x c.requires)) c.loop-s.invariant c.stream_end-end.ensures)

pub loop-s-preserved : goal.loop-s-preserved
loop-s-preserved c =
    end_next c.args.x c.requires c.loop-s.s-index _ c.loop-s.end c.stream_end-end.result (omega (arith, count_is c.args.x c.requires)) c.loop-s.invariant c.stream_end-end.ensures

pub returns : goal.returns
returns c =
    end_is c.args.x c.requires c.loop-s.s-index c.loop-s.end (omega (arith, count_is c.args.x c.requires)) c.loop-s.invariant
