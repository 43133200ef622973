use mathlib.Core.Path.{refl}
use lib.ListN.{length-take}
use native.Mathlib.Omega.{arith}
use Rattle.console_ask.proofs.Sheets.{too_long, write_onto, buffer_size}
use Rattle.console_ask.proofs.sheet_within.Goals as goal

pub returns-then-bytes-n : goal.returns-then-bytes-n
returns-then-bytes-n c =
    let a = c.args in
    too_long a.x a.n a.out.now a.at _ _ _ (omega (arith, buffer_size a.bytes.now c.requires.0, c.if-bytes-n.true))
    c.unknown_line.ensures c.append.ensures

pub slice_bounds-sheet_onto-end-2 : goal.slice_bounds-sheet_onto-end-2
slice_bounds-sheet_onto-end-2 c =
    simp length-take (omega arith)

pub sheet_onto-requires : goal.sheet_onto-requires
sheet_onto-requires c =
    (simp length-take (omega (arith, buffer_size c.args.bytes.now c.requires.0, c.if-bytes-n.false)), c.requires.1)

pub returns : goal.returns
returns c =
    let a = c.args in
    write_onto a.x a.n a.out.now a.at _ _ a.bytes.now _ c.requires.0 refl
    (omega (arith, buffer_size a.bytes.now c.requires.0, c.if-bytes-n.false)) c.sheet_onto.ensures
