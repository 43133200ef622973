use native.Mathlib.Omega.{arith}
use Prim.Native.Nat.{◌+◌, ◌-◌, ◌*◌, ◌/◌, ◌%◌, ◌^◌}
use lib.ListN.{get_or, take, drop}
use Rattle.std.proofs.lemmas.Grind.{common_steps}
use mathlib.Core.Path.{◌≡◌, ap, sym, ◌∙◌}
use Rattle.bits.proofs.Words.{field_none, word_field, word_more, word_none, word_small}
use Rattle.bits.specs.Places.{field_at, word_of}
use Rattle.bits.proofs.word.Goals as goal

-- src/lib.rt:60:9
pub returns-then-width-eq0 : goal.returns-then-width-eq0
returns-then-width-eq0 c =
    field_none _ _ ∙ ap (field_at c.args.s.now (8 * c.args.at.byte + c.args.at.bit)) (sym c.if-width-eq0.true)

-- src/lib.rt:65:5
pub loop-b-init : goal.loop-b-init
loop-b-init c =
    word_none c.args.s.now c.args.at.byte

-- src/lib.rt:66:13
pub overflow_mul-v : goal.overflow_mul-v
overflow_mul-v c =
    omega (arith, c.loop-b.invariant, word_small c.args.s.now c.args.at.byte c.loop-b.b-index (omega arith) (omega arith))

-- src/lib.rt:66:13
pub overflow_add-v : goal.overflow_add-v
overflow_add-v c =
    omega (arith, c.type_inv.s (c.args.at.byte + c.loop-b.b-index), c.loop-b.invariant, word_small c.args.s.now c.args.at.byte c.loop-b.b-index (omega arith) (omega arith))

-- src/lib.rt:65:5
pub loop-b-preserved : goal.loop-b-preserved
loop-b-preserved c =
    let a = c.args in
    let l = c.loop-b in
    let e : get_or (take (a.at.byte + (a.at.bit + a.width + 7) / 8 - a.at.byte) (drop a.at.byte a.s.now)) l.b-index 0 ≡ get_or a.s.now (a.at.byte + l.b-index) 0 = grind (arith, common_steps) in
    ap (λ v. l.v * 256 + v) e ∙ ap (λ v. v * 256 + get_or a.s.now (a.at.byte + l.b-index) 0) l.invariant
    ∙ sym (word_more a.s.now a.at.byte l.b-index (omega arith) (c.type_inv.s (a.at.byte + l.b-index)).fits)

-- src/lib.rt:55:1
pub returns : goal.returns
returns c =
    let a = c.args in
    let n = (a.at.bit + a.width + 7) / 8 in
    ap (λ v. v * 2 ^ (64 - (8 * n - a.at.bit)) % 2 ^ 64 / 2 ^ (64 - a.width)) (c.loop-b.invariant ∙ ap (word_of a.s.now a.at.byte) (let e : c.loop-b.b-index ≡ n = omega arith in e))
    ∙ word_field a.s.now a.at.byte a.at.bit a.width n (omega arith) (omega arith) (omega arith)
