use native.Mathlib.Omega.{arith}
use Prim.Native.Nat.{ℕ, ◌+◌, ◌-◌, ◌*◌}
use mathlib.Core.Path.{ap, ◌∙◌}
use mathlib.Core.List.{List}
use lib.ListN.{length}
use lib.Seq.{paste}
use Rattle.laws.specs.Lists.{flat}
use Rattle.laws.specs.Bits.{bits, to_bits}
use Rattle.laws.proofs.Fields.{bits_length}
use Rattle.rules.specs.Streams.{stages_of}
use Rattle.rules.specs.Sheet.{stage_bits}
use Rattle.sheet_write.proofs.Writing.{head_first, head_first_paste, head_other, head_other_paste, stages_room}
use Rattle.sheet_write.proofs.put_head.Goals as goal

-- src/lib.rt:108:9
pub put_stages-requires : goal.put_stages-requires
put_stages-requires c =
    (c.requires.0, omega arith, omega (arith, c.requires, head_first c.args.version c.args.s c.requires.0.shallow (c.well_formed.1.1.1.0.1.1.1.0.1.0.1) c.if-version-eq1.true, stages_room c.args.s c.requires.0.shallow (c.well_formed.1.1.1.0.1.1.1.0.1.0.1)))

-- src/lib.rt:109:9
pub put-requires : goal.put-requires
put-requires c =
    omega (arith, c.put_stages.auto.buf, c.requires, head_first c.args.version c.args.s c.requires.0.shallow (c.well_formed.1.1.1.0.1.1.1.0.1.0.1) c.if-version-eq1.true)

-- src/lib.rt:111:9
pub put-requires-else-version-eq1 : goal.put-requires-else-version-eq1
put-requires-else-version-eq1 c =
    omega (arith, c.requires, head_other c.args.version c.args.s c.requires.0.shallow (c.well_formed.1.1.1.0.1.1.1.0.1.0.1) c.if-version-eq1.false)

-- src/lib.rt:112:9
pub put-requires-else-version-eq1-2 : goal.put-requires-else-version-eq1-2
put-requires-else-version-eq1-2 c =
    omega (arith, c.put-else-version-eq1.auto.buf, c.requires, head_other c.args.version c.args.s c.requires.0.shallow (c.well_formed.1.1.1.0.1.1.1.0.1.0.1) c.if-version-eq1.false)

-- src/lib.rt:113:9
pub put_stages-requires-else-version-eq1 : goal.put_stages-requires-else-version-eq1
put_stages-requires-else-version-eq1 c =
    (c.requires.0, omega (arith, c.requires), omega (arith, c.put-else-version-eq1-2.auto.buf, c.put-else-version-eq1.auto.buf, c.requires, head_other c.args.version c.args.s c.requires.0.shallow (c.well_formed.1.1.1.0.1.1.1.0.1.0.1) c.if-version-eq1.false, stages_room c.args.s c.requires.0.shallow (c.well_formed.1.1.1.0.1.1.1.0.1.0.1)))

-- src/lib.rt:102:1
pub returns-then-version-eq1 : goal.returns-then-version-eq1
returns-then-version-eq1 c =
    let a = c.args in
    let s = a.s in
    c.put.ensures
    ∙ ap (λ (l : List ℕ). paste l (a.at + 20 * s.depth) (to_bits 18 s.deadline) 18) c.put_stages.ensures
    ∙ head_first_paste (bits a.buf.now) a.version s a.at (omega (arith, bits_length a.buf.now, c.requires)) c.requires.0 (c.well_formed.1.1.1.0.1.1.1.0.1.0.1) c.if-version-eq1.true

-- src/lib.rt:102:1
pub returns-else-version-eq1 : goal.returns-else-version-eq1
returns-else-version-eq1 c =
    let a = c.args in
    let s = a.s in
    let gs : List ℕ = flat stage_bits (stages_of s) in
    c.put_stages-else-version-eq1.ensures
    ∙ ap (λ (l : List ℕ). paste l (a.at + 20) gs (length gs))
    (c.put-else-version-eq1-2.ensures ∙ ap (λ (l : List ℕ). paste l (a.at + 18) (to_bits 2 (s.depth - 1)) 2) c.put-else-version-eq1.ensures)
    ∙ head_other_paste (bits a.buf.now) a.version s a.at (omega (arith, bits_length a.buf.now, c.requires)) c.if-version-eq1.false
