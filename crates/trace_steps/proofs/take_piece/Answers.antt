use mathlib.Core.Path.{refl}
use native.Mathlib.Omega.{arith}
use Rattle.trace_steps.proofs.take_piece.Goals as goal

pub returns-then-piece-out : goal.returns-then-piece-out
returns-then-piece-out c =
    record { room = λ h. c.feed.ensures; none = λ h. absurd (omega (arith, c.if-piece-out.true, h)) }

pub returns-else-piece-out : goal.returns-else-piece-out
returns-else-piece-out c =
    record { room = λ h. absurd (omega (arith, c.if-piece-out.false, h)); none = λ h. (refl, (refl, refl)) }
