use mathlib.Core.Path.{subst}
use Rattle.rules.specs.Valid.{ValidCycle}
use Rattle.load_check.proofs.RowLaws.{every_for, once_for}
use Rattle.load_check.proofs.dues.row_of.Goals as goal

pub returns-in-Once : goal.returns-in-Once
returns-in-Once c = rw c.in-Once.is (once_for _ _ _ c.requires.0 c.requires.1.low)

pub returns-in-Every : goal.returns-in-Every
returns-in-Every c = rw c.in-Every.is (every_for _ _ _ _ c.requires.0 (subst ValidCycle c.in-Every.is c.requires.3).low)
