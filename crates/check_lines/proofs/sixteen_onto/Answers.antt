use native.Mathlib.Omega.{arith}
use Prim.Native.Nat.{ℕ}
use mathlib.Core.Path.{sym}
use Rattle.std.specs.Prelude.{Option, None}
use Rattle.load_parts.specs.declared.Part.{Part}
use Rattle.check_lines.proofs.Shown.{show_start, show_turn, show_size, show_end, with_part, with_same, with_other, parts_more, showing_same}
use Rattle.check_lines.proofs.sixteen_onto.Goals as goal

pub loop-k-init : goal.loop-k-init
loop-k-init g c = ((λ j. None), (λ j h. absurd (omega arith)), show_start _ _ _)

pub loop-k-preserved : goal.loop-k-preserved
loop-k-preserved g c =
    let f : ℕ → Option Part = c.loop-k.invariant.0 in
    let k : ℕ = c.loop-k.k in
    let p : Option Part = c.part.result in
    let s = showing_same f (with_part f k p) _ _ _ _ k (λ j h. sym (with_other f k p j h)) c.loop-k.invariant.2 in (
      with_part f k p,
      parts_more (λ (j : ℕ) (r : Option Part). goal.F-post g c.args.part j r) f k p c.loop-k.invariant.1 c.part.ensures,
      show_turn (with_part f k p) c.args.out.now c.args.at c.loop-k.out c.loop-k.end k p c.part_line.result _ _ s c.requires.room c.loop-k-test.true
          (sym (with_same f k p)) c.part_line.ensures c.append-end.ensures,
    )

pub shape_of-out : goal.shape_of-out
shape_of-out g c = show_size c.loop-k.invariant.0 _ _ _ _ _ c.loop-k.invariant.2

pub returns : goal.returns
returns g c =
    let f : ℕ → Option Part = c.loop-k.invariant.0 in
    (f, (λ k h. c.loop-k.invariant.1 k (omega arith)), show_end f _ _ _ _ _ c.loop-k.invariant.2 c.loop-k-test.false)
