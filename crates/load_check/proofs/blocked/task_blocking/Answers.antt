use native.Mathlib.Omega.{arith}
use mathlib.Core.Bool.{Bool, true, false, cond}
use mathlib.Core.List.{List}
use mathlib.Core.Path.{◌≡◌, refl, sym, ◌∙◌}
use Prim.Native.Nat.{ℕ}
use Rattle.std.specs.List.{list_any}
use Rattle.laws.specs.Lists.{top}
use Rattle.laws.proofs.Sums.{top_take}
use Rattle.std.proofs.lemmas.List.{take_all}
use Rattle.rules.specs.declared.Stream.{Stream}
use Rattle.rules.specs.Load.{urgent, blocks, blocking}
use Rattle.load_cycles.proofs.Bounds.{blank, ord_max_nat}
use Rattle.load_check.proofs.blocked.task_blocking.Goals as goal

blocking_by : (ss : List Stream) (i t most : ℕ) (b : Bool) → list_any (urgent t i) ss ≡ b → cond b most 0 ≡ cond b (top (blocks t i) ss) 0 → cond b most 0 ≡ blocking ss i t
unfolding blocking
blocking_by ss i t most b e h = rw e h

pub returns-then-not-any_urgent : goal.returns-then-not-any_urgent
returns-then-not-any_urgent c = blocking_by _ c.args.i c.args.t 0 false (sym c.any_urgent.ensures ∙ c.if-not-any_urgent.true) refl

pub loop-s-preserved : goal.loop-s-preserved
loop-s-preserved c = omega (arith, ord_max_nat, c.blocks_of.ensures, c.max-most.ensures, top_take (blocks c.args.t c.args.i) c.streams_of-s-items.result.now c.loop-s.s-index blank (omega arith))

pub returns : goal.returns
returns c =
    let ss = c.streams_of-s-items in
    blocking_by _ c.args.i c.args.t c.loop-s.most true (sym c.any_urgent.ensures ∙ c.if-not-any_urgent.false)
    (rw (c.loop-s.invariant, take_all c.loop-s.s-index ss.result.now (omega arith), ss.ensures.value) refl)
