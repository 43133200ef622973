use Rattle.line.proofs.Puts.{then}
use Rattle.text_line.proofs.tuple_text.Goals as goal

pub returns-in-Once : goal.returns-in-Once
returns-in-Once c =
    rw c.in-Once.is (then _ _ _ _ _ c.word.ensures (rw c.from.ensures at c.decimal.ensures))

pub returns-in-Every : goal.returns-in-Every
returns-in-Every c =
    rw c.in-Every.is
    (then _ _ _ _ _ (then _ _ _ _ _ (rw c.from-in-Every.ensures at c.one.ensures) c.word-in-Every.ensures) (rw c.from-in-Every-2.ensures at c.decimal-in-Every.ensures))
