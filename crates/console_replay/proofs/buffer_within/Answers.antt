use mathlib.Core.Path.{refl}
use lib.ListN.{length-take}
use native.Mathlib.Omega.{arith}
use Rattle.console_replay.proofs.Records.{too_long, record_onto, buffer_size}
use Rattle.console_replay.proofs.buffer_within.Goals as goal

pub returns-then-bytes-n : goal.returns-then-bytes-n
returns-then-bytes-n c =
    let a = c.args in
    too_long a.trace.now a.n a.out.now a.at _ _ _ (omega (arith, buffer_size a.bytes.now c.requires.0, c.if-bytes-n.true))
    c.unknown_line.ensures c.append.ensures

pub slice_bounds-buffer_onto-end-2 : goal.slice_bounds-buffer_onto-end-2
slice_bounds-buffer_onto-end-2 c =
    simp length-take (omega arith)

pub buffer_onto-requires : goal.buffer_onto-requires
buffer_onto-requires c =
    (simp length-take (omega (arith, buffer_size c.args.bytes.now c.requires.0, c.if-bytes-n.false)), c.requires.1)

pub returns : goal.returns
returns c =
    let a = c.args in
    record_onto a.trace.now a.n a.out.now a.at _ _ a.bytes.now _ c.requires.0 refl
    (omega (arith, buffer_size a.bytes.now c.requires.0, c.if-bytes-n.false)) c.buffer_onto.ensures
