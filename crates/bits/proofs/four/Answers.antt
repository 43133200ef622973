use native.Mathlib.Omega.{arith}
use Prim.Native.Nat.{◌+◌}
use mathlib.Core.Path.{refl}
use lib.ListN.{get_or}
use Rattle.bits.proofs.Words.{word_four}
use Rattle.bits.proofs.four.Goals as goal

pub returns : goal.returns
returns c =
    let s = c.args.s.now in
    let i = c.args.byte in
    omega (
      arith,
      c.from_be_bytes.ensures,
      word_four s i (get_or s i 0) (get_or s (i + 1) 0) (get_or s (i + 2) 0) (get_or s (i + 3) 0) (omega arith)
          (refl, (c.type_inv.s i).fits) (refl, (c.type_inv.s (i + 1)).fits) (refl, (c.type_inv.s (i + 2)).fits) (refl, (c.type_inv.s (i + 3)).fits),
    )
