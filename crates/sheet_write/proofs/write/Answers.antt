use native.Mathlib.Omega.{arith}
use borrow.Author.Rules.{rules}
use Prim.Native.Nat.{ℕ, ◌+◌, ◌/◌}
use mathlib.Core.Path.{refl, sym, ap, ◌∙◌}
use mathlib.Core.List.{List}
use lib.ListN.{length}
use lib.Seq.{paste}
use Rattle.laws.specs.Lists.{flat}
use Rattle.laws.specs.Bits.{bits, to_bits}
use Rattle.laws.proofs.Fields.{are_bytes_of}
use Rattle.rules.specs.Streams.{streams_of}
use Rattle.rules.specs.Sheet.{stream_bits}
use Rattle.sheet_write.proofs.Rounds.{sheet_length}
use Rattle.sheet_write.proofs.Writing.{invalid, sheet_most, short, written_set, wrote}
use Rattle.sheet_write.proofs.write.Goals as goal

-- src/lib.rt:130:13
pub fields_end-end-requires : goal.fields_end-end-requires
fields_end-end-requires c =
    written_set c.args.x (sym c.is_valid.ensures ∙ c.if-is_valid.true) (c.well_formed.0.1.1.1.0.1.0.1)

-- src/lib.rt:131:18
pub overflow_add-n : goal.overflow_add-n
overflow_add-n c =
    omega (arith, c.fields_end-end.ensures, sheet_length c.args.x, sheet_most c.args.x (written_set c.args.x (sym c.is_valid.ensures ∙ c.if-is_valid.true) (c.well_formed.0.1.1.1.0.1.0.1)))

-- src/lib.rt:135:13
pub put-requires : goal.put-requires
put-requires c =
    omega (arith, c.fields_end-end.ensures, sheet_length c.args.x, c.if-n-buf.true, c.clear.auto.buf)

-- src/lib.rt:136:28
pub overflow_cast-count : goal.overflow_cast-count
overflow_cast-count c =
    omega (arith, (written_set c.args.x (sym c.is_valid.ensures ∙ c.if-is_valid.true) (c.well_formed.0.1.1.1.0.1.0.1)).few)

-- src/lib.rt:136:13
pub put-requires-then-n-buf : goal.put-requires-then-n-buf
put-requires-then-n-buf c =
    omega (arith, c.fields_end-end.ensures, sheet_length c.args.x, c.if-n-buf.true, c.clear.auto.buf, c.put.auto.buf)

-- src/lib.rt:137:13
pub put_streams-requires : goal.put_streams-requires
put_streams-requires c =
    (written_set c.args.x (sym c.is_valid.ensures ∙ c.if-is_valid.true) (c.well_formed.0.1.1.1.0.1.0.1), omega (arith, c.fields_end-end.ensures, sheet_length c.args.x, c.if-n-buf.true, c.clear.auto.buf, c.put.auto.buf, c.put-then-n-buf.auto.buf))

-- src/lib.rt:140:9
pub returns-then-is_valid : goal.returns-then-is_valid
returns-then-is_valid c =
    let a = c.args in
    let end : ℕ = c.fields_end-end.result in
    short a.x a.buf.now a.buf.now end ((end + 7) / 8) (sym c.is_valid.ensures ∙ c.if-is_valid.true) c.fields_end-end.ensures refl c.if-n-buf.false

-- src/lib.rt:126:1
pub returns : goal.returns
returns c =
    invalid c.args.x c.args.buf.now (sym c.is_valid.ensures ∙ c.if-is_valid.false)

pub returns-then-n-buf : goal.returns-then-n-buf
returns-then-n-buf c =
    let x = c.args.x in
    let end : ℕ = c.fields_end-end.result in
    let ss : List ℕ = flat (stream_bits x.version) (streams_of x) in
    wrote x c.args.buf.now c.put_streams.new.buf end ((end + 7) / 8) (sym c.is_valid.ensures ∙ c.if-is_valid.true) c.fields_end-end.ensures refl (omega (arith, c.if-n-buf.true))
    (are_bytes_of c.args.buf.now (λ i. search rules))
    (are_bytes_of c.put_streams.new.buf (λ i. (c.type_inv.buf i).fits))
    (c.put_streams.ensures
    ∙ ap (λ (l : List ℕ). paste l 9 ss (length ss))
    (c.put-then-n-buf.ensures ∙ ap (λ (l : List ℕ). paste l 4 (to_bits 5 x.count) 5) (c.put.ensures ∙ ap (λ (l : List ℕ). paste (bits l) 0 (to_bits 4 x.version) 4) c.clear.ensures)))
