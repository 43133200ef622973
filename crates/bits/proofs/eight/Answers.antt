use native.Mathlib.Omega.{arith}
use Prim.Native.Nat.{ℕ, ◌+◌, ◌*◌}
use mathlib.Core.Path.{sym, ap₂, ◌∙◌}
use Rattle.bits.proofs.Words.{word_joined, word_small}
use Rattle.bits.proofs.eight.Goals as goal

-- src/lib.rt:160:5
pub overflow_mul-result : goal.overflow_mul-result
overflow_mul-result c =
    omega (arith, c.four-high.ensures, word_small c.args.s.now c.args.byte 4 (omega arith) (omega arith))

-- src/lib.rt:160:5
pub overflow_add-result : goal.overflow_add-result
overflow_add-result c =
    omega (arith, c.four-high.ensures, c.four-low.ensures, word_small c.args.s.now c.args.byte 4 (omega arith) (omega arith), word_small c.args.s.now (c.args.byte + 4) 4 (omega arith) (omega arith))

-- src/lib.rt:154:1
pub returns : goal.returns
returns c =
    let a = c.args in
    ap₂ (λ (x y : ℕ). x * 4294967296 + y) c.four-high.ensures c.four-low.ensures ∙ sym (word_joined a.s.now a.byte 4 4 (omega arith))
