use native.Mathlib.Omega.{arith}
use Prim.Native.Nat.{ℕ, ◌+◌, ◌*◌}
use mathlib.Core.Path.{◌≡◌, refl, ap, ap₂, ◌∙◌}
use mathlib.Core.List.{List}
use lib.ListN.{get_or, length, take}
use lib.Seq.{paste, paste-zero}
use Rattle.laws.specs.Lists.{flat}
use Rattle.laws.specs.Bits.{bits, to_bits}
use Rattle.laws.proofs.Fields.{bits_length}
use Rattle.rules.specs.declared.TuplePlace.{TuplePlace}
use Rattle.rules.specs.Streams.{no_tuple, offset, tuples_of}
use Rattle.rules.specs.Sheet.{place_bits}
use Rattle.sheet_write.specs.Writer.{cycle_of}
use Rattle.sheet_write.proofs.Rounds.{tuples_length}
use Rattle.sheet_write.proofs.Writing.{tuple_more, tuples_all}
use Rattle.sheet_write.proofs.put_tuples.Goals as goal

pub loop-p-init : goal.loop-p-init
loop-p-init c = (omega arith, refl, paste-zero (bits c.args.buf.now) c.args.at (flat place_bits (take 0 (tuples_of c.args.s))))

pub put-requires : goal.put-requires
put-requires c =
    omega (arith, c.loop-p.invariant.0, c.loop-p.invariant.1, c.loop-p-test.true, tuples_length (tuples_of c.args.s))

pub put-requires-in-loop-p : goal.put-requires-in-loop-p
put-requires-in-loop-p c =
    omega (arith, c.put.auto.buf, c.loop-p.invariant.0, c.loop-p.invariant.1, c.loop-p-test.true, tuples_length (tuples_of c.args.s))

pub loop-p-preserved : goal.loop-p-preserved
loop-p-preserved c =
    let a = c.args in
    let l = c.loop-p in
    let d : List ℕ = bits a.buf.now in
    let ts : List TuplePlace = tuples_of a.s in
    let cycle : List ℕ = to_bits 20 (cycle_of (get_or ts l.p-index no_tuple).tuple) in
    let low : List ℕ = to_bits 17 (offset (get_or ts l.p-index no_tuple).tuple) in (
      omega (arith, l.invariant.0),
      c.put-in-loop-p.auto.buf ∙ c.put.auto.buf ∙ l.invariant.1,
      c.put-in-loop-p.ensures
          ∙ ap₂ (λ (b : List ℕ) (v : ℕ). paste b (l.here + 20) (to_bits 17 v) 17)
          (c.put.ensures ∙ ap₂ (λ (b : List ℕ) (v : ℕ). paste b l.here (to_bits 20 v) 20) l.invariant.2 c.cycle_of.ensures)
          c.offset_of.ensures
          ∙ ap (λ (h : ℕ). paste (paste (paste d a.at (flat place_bits (take l.p-index ts)) (37 * l.p-index)) h cycle 20) (h + 20) low 17) l.invariant.0
          ∙ tuple_more d ts l.p-index a.at no_tuple c.loop-p-test.true (omega (arith, bits_length a.buf.now)),
    )

pub returns : goal.returns
returns c =
    c.loop-p.invariant.2 ∙ tuples_all (bits c.args.buf.now) (tuples_of c.args.s) c.loop-p.p-index c.args.at (let e : c.loop-p.p-index ≡ length (tuples_of c.args.s) = omega arith in e)
