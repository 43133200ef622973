use native.Mathlib.Omega.{arith}
use Prim.Native.Nat.{ℕ, ◌+◌, ◌-◌}
use mathlib.Core.Path.{ap, ◌∙◌}
use mathlib.Core.List.{List}
use lib.ListN.{length}
use lib.Seq.{paste}
use Rattle.laws.specs.Lists.{flat}
use Rattle.laws.specs.Bits.{bits, to_bits}
use Rattle.laws.proofs.Fields.{bits_length}
use Rattle.rules.specs.Streams.{tuples_of}
use Rattle.rules.specs.Sheet.{place_bits}
use Rattle.sheet_write.proofs.Rounds.{stream_parts}
use Rattle.sheet_write.proofs.Writing.{head_most, stream_paste}
use Rattle.sheet_write.proofs.put_stream.Goals as goal

-- src/lib.rt:130:5
pub put_head-requires : goal.put_head-requires
put_head-requires c =
    (c.requires.0, omega (arith, c.requires), omega (arith, c.requires, stream_parts c.args.version c.args.s))

-- src/lib.rt:131:15
pub overflow_add-end : goal.overflow_add-end
overflow_add-end c =
    omega (arith, c.head_end.ensures, c.requires, head_most c.args.version c.args.s c.requires.0.shallow)

-- src/lib.rt:132:5
pub put-requires : goal.put-requires
put-requires c =
    omega (arith, c.head_end.ensures, c.put_head.auto.buf, c.requires, stream_parts c.args.version c.args.s)

-- src/lib.rt:133:21
pub overflow_add-end-2 : goal.overflow_add-end-2
overflow_add-end-2 c =
    omega (arith, c.head_end.ensures, c.requires, head_most c.args.version c.args.s c.requires.0.shallow)

-- src/lib.rt:133:5
pub put_tuples-requires : goal.put_tuples-requires
put_tuples-requires c =
    (c.requires.0, omega (arith, c.head_end.ensures, c.requires, head_most c.args.version c.args.s c.requires.0.shallow), omega (arith, c.put.auto.buf, c.head_end.ensures, c.put_head.auto.buf, c.requires, stream_parts c.args.version c.args.s))

-- src/lib.rt:126:1
pub returns : goal.returns
returns c =
    let a = c.args in
    let s = a.s in
    let end : ℕ = a.at + c.head_end.result in
    let ts : List ℕ = flat place_bits (tuples_of s) in
    c.put_tuples.ensures
    ∙ ap (λ (l : List ℕ). paste l (end + 2) ts (length ts))
    (c.put.ensures ∙ ap (λ (l : List ℕ). paste l end (to_bits 2 (s.count - 1)) 2) c.put_head.ensures)
    ∙ stream_paste (bits a.buf.now) a.version s a.at (omega (arith, bits_length a.buf.now, c.requires)) end (ap (λ (n : ℕ). a.at + n) c.head_end.ensures)
