use Rattle.line.proofs.Puts.{turn, done}
use native.Mathlib.Omega.{arith}
use Rattle.line.proofs.word.Goals as goal

pub loop-b-preserved : goal.loop-b-preserved
loop-b-preserved c =
    turn _ _ _ c.args.w.now c.loop-b.b-index c.loop-b.invariant (omega arith) c.put-next.ensures

pub returns : goal.returns
returns c =
    done _ _ c.args.w.now c.loop-b.b-index c.loop-b.invariant (omega arith)
