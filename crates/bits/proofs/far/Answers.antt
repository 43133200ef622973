use native.Mathlib.Omega.{arith}
use Prim.Native.Nat.{◌+◌, ◌*◌}
use Rattle.bits.proofs.Answers.{gather_none, gather_two, word_lt}
use Rattle.bits.proofs.far.Goals as goal

-- src/lib.rt:78:9
pub returns-then-got-eq0 : goal.returns-then-got-eq0
returns-then-got-eq0 c =
    gather_none _ _ _ _ c.there-got.ensures c.if-got-eq0.true

-- src/lib.rt:92:16
pub overflow_mul-result : goal.overflow_mul-result
overflow_mul-result c =
    omega (arith, word_lt _ _ _ _ c.word-high.ensures (omega arith) (omega arith), word_lt _ _ _ _ c.word-low.ensures (omega arith) (omega arith))

-- src/lib.rt:92:16
pub overflow_add-result : goal.overflow_add-result
overflow_add-result c =
    omega (arith, word_lt _ _ _ _ c.word-high.ensures (omega arith) (omega arith), word_lt _ _ _ _ c.word-low.ensures (omega arith) (omega arith))

-- src/lib.rt:73:1
pub returns : goal.returns
returns c =
    gather_two _ (8 * c.args.at.byte + c.args.at.bit) _ _ _ _ _ _ c.there-got.ensures c.if-got-le32.false c.word-high.ensures (omega arith) c.word-low.ensures (omega arith)
