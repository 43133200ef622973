use native.Mathlib.Omega.{arith}
use Prim.Native.Nat.{ℕ, ◌+◌, ◌*◌}
use mathlib.Core.Path.{◌≡◌, refl, ap, ◌∙◌}
use mathlib.Core.List.{List}
use lib.ListN.{get_or, length, take}
use lib.Seq.{paste, paste-zero}
use Rattle.laws.specs.Lists.{flat}
use Rattle.laws.specs.Bits.{bits, to_bits}
use Rattle.laws.proofs.Fields.{bits_length}
use Rattle.rules.specs.declared.Stage.{Stage}
use Rattle.rules.specs.Streams.{no_stage, stages_of}
use Rattle.rules.specs.Sheet.{stage_bits}
use Rattle.sheet_write.proofs.Rounds.{stages_length}
use Rattle.sheet_write.proofs.Writing.{stage_more, stages_all, task_fits}
use Rattle.sheet_write.proofs.put_stages.Goals as goal

pub loop-g-init : goal.loop-g-init
loop-g-init c = (omega arith, refl, paste-zero (bits c.args.buf.now) c.args.at (flat stage_bits (take 0 (stages_of c.args.s))))

pub overflow_cast-g : goal.overflow_cast-g
overflow_cast-g c = omega (arith, task_fits c.args.s c.requires.0 c.loop-g.g-index no_stage c.loop-g-test.true)

pub put-requires : goal.put-requires
put-requires c =
    omega (arith, c.loop-g.invariant.0, c.loop-g.invariant.1, c.loop-g-test.true, stages_length (stages_of c.args.s))

pub put-requires-in-loop-g : goal.put-requires-in-loop-g
put-requires-in-loop-g c =
    omega (arith, c.put.auto.buf, c.loop-g.invariant.0, c.loop-g.invariant.1, c.loop-g-test.true, stages_length (stages_of c.args.s))

pub loop-g-preserved : goal.loop-g-preserved
loop-g-preserved c =
    let a = c.args in
    let l = c.loop-g in
    let d : List ℕ = bits a.buf.now in
    let gs : List Stage = stages_of a.s in
    let task : List ℕ = to_bits 4 (get_or gs l.g-index no_stage).task in
    let cost : List ℕ = to_bits 16 (get_or gs l.g-index no_stage).cost in (
      omega (arith, l.invariant.0),
      c.put-in-loop-g.auto.buf ∙ c.put.auto.buf ∙ l.invariant.1,
      c.put-in-loop-g.ensures
          ∙ ap (λ (b : List ℕ). paste b (l.here + 4) cost 16) (c.put.ensures ∙ ap (λ (b : List ℕ). paste b l.here task 4) l.invariant.2)
          ∙ ap (λ (h : ℕ). paste (paste (paste d a.at (flat stage_bits (take l.g-index gs)) (20 * l.g-index)) h task 4) (h + 4) cost 16) l.invariant.0
          ∙ stage_more d gs l.g-index a.at no_stage c.loop-g-test.true (omega (arith, bits_length a.buf.now)),
    )

pub returns : goal.returns
returns c =
    c.loop-g.invariant.2 ∙ stages_all (bits c.args.buf.now) (stages_of c.args.s) c.loop-g.g-index c.args.at (let e : c.loop-g.g-index ≡ length (stages_of c.args.s) = omega arith in e)
