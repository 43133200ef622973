use native.Mathlib.Omega.{arith}
use Prim.Native.Nat.{ℕ, ◌+◌, ◌-◌, ◌*◌, ◌/◌, ◌%◌, ◌^◌}
use mathlib.Core.Path.{◌≡◌, refl, sym, ap, ap₂, ◌∙◌}
use mathlib.Core.List.{List}
use native.Mathlib.Numerals.{add-one}
use lib.ListN.{set}
use lib.Seq.{paste, paste-suc, paste-zero}
use Rattle.laws.specs.Bits.{bits, to_bits}
use Rattle.laws.proofs.Fields.{bits_length, to_bits_length}
use Rattle.bits.proofs.Setting.{to_bits_at}
use Rattle.bits.proofs.put_all.Goals as goal

pub loop-i-init : goal.loop-i-init
loop-i-init c =
    (refl, paste-zero _ (8 * c.args.at.byte + c.args.at.bit) (to_bits c.args.width c.args.v))

pub loop-i-preserved : goal.loop-i-preserved
loop-i-preserved c =
    let a = c.args in
    let l = c.loop-i in
    let b : List ℕ = bits a.buf.now in
    let f : List ℕ = to_bits a.width a.v in
    let at : ℕ = 8 * a.at.byte + a.at.bit in (
      c.set_bit.auto.buf ∙ l.invariant.0,
      c.set_bit.ensures
          ∙ ap₂ (λ (k : List ℕ) (p : ℕ). set k p (a.v / 2 ^ (a.width - 1 - l.i) % 2)) l.invariant.1
          (let e : 8 * c.after.result.byte + c.after.result.bit ≡ at + l.i = omega arith in e)
          ∙ ap (set (paste b at f l.i) (at + l.i)) (sym (to_bits_at a.width a.v l.i (a.width - 1 - l.i) (omega arith)))
          ∙ paste-suc b at f l.i 0 (omega (arith, bits_length a.buf.now)) (omega (arith, to_bits_length a.width a.v))
          ∙ ap (paste b at f) (sym (add-one l.i)),
    )

pub returns : goal.returns
returns c =
    let a = c.args in
    c.loop-i.invariant.1
    ∙ ap (paste (bits a.buf.now) (8 * a.at.byte + a.at.bit) (to_bits a.width a.v)) (let e : c.loop-i.i ≡ a.width = omega arith in e)
