use Rattle.bits.proofs.Setting.{byte_with, new_fits, old_fits, old_le, one_shl, sum_fits}
use Rattle.bits.proofs.with_bit.Goals as goal

-- src/lib.rt:119:9
pub overflow_mul-result : goal.overflow_mul-result
overflow_mul-result c =
    record { fits = old_fits c.args.b c.args.k c.args.x _ c.ranges.b.fits c.requires.0 c.requires.1 (one_shl c.args.k c.requires.0) }

-- src/lib.rt:119:5
pub overflow_sub-result : goal.overflow_sub-result
overflow_sub-result c =
    old_le c.args.b c.args.k c.args.x _ c.ranges.b.fits c.requires.0 c.requires.1 (one_shl c.args.k c.requires.0)

-- src/lib.rt:119:28
pub overflow_mul-result-2 : goal.overflow_mul-result-2
overflow_mul-result-2 c =
    record { fits = new_fits c.args.b c.args.k c.args.x _ c.ranges.b.fits c.requires.0 c.requires.1 (one_shl c.args.k c.requires.0) }

-- src/lib.rt:119:5
pub overflow_add-result : goal.overflow_add-result
overflow_add-result c =
    record { fits = sum_fits c.args.b c.args.k c.args.x _ c.ranges.b.fits c.requires.0 c.requires.1 (one_shl c.args.k c.requires.0) }

-- src/lib.rt:114:1
pub returns : goal.returns
returns c =
    byte_with c.args.b c.args.k c.args.x _ c.ranges.b.fits c.requires.0 c.requires.1 (one_shl c.args.k c.requires.0)
