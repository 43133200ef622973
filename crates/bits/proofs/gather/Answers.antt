use native.Mathlib.Omega.{arith}
use lib.ListN.{length}
use Rattle.bits.specs.Places.{Near}
use Rattle.bits.proofs.Words.{near_field}
use Rattle.bits.proofs.Answers.{gather_near}
use Rattle.bits.proofs.gather.Goals as goal

pub returns-then-near : goal.returns-then-near
returns-then-near c =
    let a = c.args in
    let n : Near (length a.s.now) a.at.byte a.at.bit a.width = c.near.ensures c.if-near.true in
    gather_near a.s.now a.at.byte a.at.bit a.width _ n
    (near_field a.s.now a.at.byte a.at.bit a.width c.four.result n.there (omega (arith, n.few, n.first)) c.four.ensures)
