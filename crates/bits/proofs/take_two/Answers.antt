use native.Mathlib.Omega.{arith}
use mathlib.Core.Path.{sym, ◌∙◌}
use Rattle.bits.proofs.Answers.{first_lt, in_eight_lem, second_lt, two_is, two_none}
use Rattle.bits.proofs.take_two.Goals as goal

-- src/lib.rt:181:13
pub eight-w-requires : goal.eight-w-requires
eight-w-requires c =
    (in_eight_lem _ _ _ _ _ (sym c.in_eight.ensures ∙ c.if-in_eight.true)).there

-- src/lib.rt:184:22
pub overflow_shl-one : goal.overflow_shl-one
overflow_shl-one c =
    let h = in_eight_lem _ _ _ _ _ (sym c.in_eight.ensures ∙ c.if-in_eight.true) in omega arith

-- src/lib.rt:184:36
pub overflow_sub-one : goal.overflow_sub-one
overflow_sub-one c =
    let h = in_eight_lem _ _ _ _ _ (sym c.in_eight.ensures ∙ c.if-in_eight.true) in omega arith

-- src/lib.rt:184:21
pub overflow_shr-one : goal.overflow_shr-one
overflow_shr-one c =
    let h = in_eight_lem _ _ _ _ _ (sym c.in_eight.ensures ∙ c.if-in_eight.true) in omega arith

-- src/lib.rt:184:20
pub overflow_cast-one-then-in_eight-2 : goal.overflow_cast-one-then-in_eight-2
overflow_cast-one-then-in_eight-2 c =
    record { fits = first_lt c.args.s.now _ _ _ _ c.eight-w.result (in_eight_lem _ _ _ _ _ (sym c.in_eight.ensures ∙ c.if-in_eight.true)) c.eight-w.ensures }

-- src/lib.rt:185:29
pub overflow_add-other : goal.overflow_add-other
overflow_add-other c =
    let h = in_eight_lem _ _ _ _ _ (sym c.in_eight.ensures ∙ c.if-in_eight.true) in omega arith

-- src/lib.rt:185:23
pub overflow_shl-other : goal.overflow_shl-other
overflow_shl-other c =
    let h = in_eight_lem _ _ _ _ _ (sym c.in_eight.ensures ∙ c.if-in_eight.true) in omega arith

-- src/lib.rt:185:47
pub overflow_sub-other : goal.overflow_sub-other
overflow_sub-other c =
    let h = in_eight_lem _ _ _ _ _ (sym c.in_eight.ensures ∙ c.if-in_eight.true) in omega arith

-- src/lib.rt:185:22
pub overflow_shr-other : goal.overflow_shr-other
overflow_shr-other c =
    let h = in_eight_lem _ _ _ _ _ (sym c.in_eight.ensures ∙ c.if-in_eight.true) in omega arith

-- src/lib.rt:185:21
pub overflow_cast-other-then-in_eight-2 : goal.overflow_cast-other-then-in_eight-2
overflow_cast-other-then-in_eight-2 c =
    record { fits = second_lt c.args.s.now _ _ _ _ c.eight-w.result (in_eight_lem _ _ _ _ _ (sym c.in_eight.ensures ∙ c.if-in_eight.true)) c.eight-w.ensures }

-- src/lib.rt:182:9
pub returns-then-in_eight : goal.returns-then-in_eight
returns-then-in_eight c =
    two_is c.args.s.now _ _ _ _ c.eight-w.result (in_eight_lem _ _ _ _ _ (sym c.in_eight.ensures ∙ c.if-in_eight.true)) c.eight-w.ensures (sym c.in_eight.ensures ∙ c.if-in_eight.true)

-- src/lib.rt:177:1
pub returns : goal.returns
returns c =
    two_none _ _ _ _ _ (sym c.in_eight.ensures ∙ c.if-in_eight.false)
