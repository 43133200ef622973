use native.Mathlib.Omega.{arith}
use Rattle.sheet_write.proofs.Writing.{head_first, head_other}
use Rattle.sheet_write.proofs.head_end.Goals as goal

-- src/lib.rt:90:1
pub returns-in-1 : goal.returns-in-1
returns-in-1 c =
    head_first c.args.version c.args.s c.requires.shallow (c.well_formed.1.0.1.1.1.0.1.0.1) (omega (arith, c.in-1))

-- src/lib.rt:90:1
pub returns-in_default : goal.returns-in_default
returns-in_default c =
    head_other c.args.version c.args.s c.requires.shallow (c.well_formed.1.0.1.1.1.0.1.0.1) (λ e. omega (arith, c.in_default))
