use native.Mathlib.Omega.{arith}
use mathlib.Core.Path.{refl, ◌∙◌}
use mathlib.Core.List.{[]}
use lib.Seq.{paste-zero}
use Rattle.laws.specs.Lists.{flat}
use Rattle.laws.specs.Bits.{bits}
use Rattle.laws.proofs.Fields.{bits_length}
use Rattle.sheet_write.proofs.Writing.{count_is, end_fits, end_next, stream_room_lem, stream_step, stream_written, streams_all, up_to_most}
use Rattle.sheet_write.proofs.put_streams.Goals as goal

pub loop-s-init : goal.loop-s-init
unfolding flat
loop-s-init c = (refl, refl, paste-zero (bits c.args.buf.now) 9 [])

pub put_stream-requires : goal.put_stream-requires
put_stream-requires c = (
  stream_written c.args.x c.requires.0 c.loop-s.s-index _ (omega (arith, count_is c.args.x c.requires.0)),
  omega (arith, c.loop-s.invariant.0, up_to_most c.args.x c.requires.0 c.loop-s.s-index (omega (arith, count_is c.args.x c.requires.0)), c.requires.0.few, count_is c.args.x c.requires.0),
  stream_room_lem c.args.x c.requires.0 c.loop-s.s-index _ _ _ _ (omega (arith, count_is c.args.x c.requires.0)) c.loop-s.invariant.0 c.requires.1 c.loop-s.invariant.1,
)

pub stream_end-at-requires : goal.stream_end-at-requires
stream_end-at-requires c =
    stream_written c.args.x c.requires.0 c.loop-s.s-index _ (omega (arith, count_is c.args.x c.requires.0))

pub overflow_add-at : goal.overflow_add-at
overflow_add-at c =
    omega (arith, end_fits c.args.x c.requires.0 c.loop-s.s-index _ c.loop-s.at c.stream_end-at.result (omega (arith, count_is c.args.x c.requires.0)) c.loop-s.invariant.0 c.stream_end-at.ensures)

pub loop-s-preserved : goal.loop-s-preserved
loop-s-preserved c =
    let a = c.args in
    let l = c.loop-s in (
      end_next c.args.x c.requires.0 c.loop-s.s-index _ c.loop-s.at c.stream_end-at.result (omega (arith, count_is c.args.x c.requires.0)) c.loop-s.invariant.0 c.stream_end-at.ensures,
      c.put_stream.auto.buf ∙ l.invariant.1,
      stream_step c.args.x c.requires.0 l.s-index _ (omega (arith, count_is c.args.x c.requires.0)) (bits a.buf.now) _ _ _ (omega (arith, bits_length a.buf.now, c.requires.1)) l.invariant.2 l.invariant.0 c.put_stream.ensures,
    )

pub returns : goal.returns
returns c =
    streams_all c.args.x c.requires.0 (bits c.args.buf.now) _ c.loop-s.s-index (omega (arith, count_is c.args.x c.requires.0)) c.loop-s.invariant.2
