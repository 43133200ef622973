use native.Mathlib.Omega.{arith}
use Rattle.sheet_write.proofs.Writing.{head_most, stream_bits_length}
use Rattle.sheet_write.proofs.stream_end.Goals as goal

-- src/lib.rt:123:5
pub overflow_add-result : goal.overflow_add-result
overflow_add-result c =
    omega (arith, c.head_end.ensures, head_most c.args.version c.args.s c.requires.shallow)

-- src/lib.rt:123:5
pub overflow_add-result-2 : goal.overflow_add-result-2
overflow_add-result-2 c =
    omega (arith, c.head_end.ensures, head_most c.args.version c.args.s c.requires.shallow)

-- src/lib.rt:118:1
pub returns : goal.returns
returns c =
    stream_bits_length c.args.version c.args.s c.head_end.result c.requires.few (c.well_formed.1.0.1.1.1.1.1.1.0.1.0.1) c.head_end.ensures
