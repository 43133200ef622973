use mathlib.Core.Path.{◌∙◌}
use lib.ListN.{length-set}
use native.Mathlib.Omega.{arith}
use Rattle.page_hex.proofs.Pairs.{reading_start, reading_turn, reading_end}
use Rattle.page_hex.proofs.unhex.Goals as goal

pub loop-k-init : goal.loop-k-init
loop-k-init c =
    reading_start _ _

pub loop-k-preserved : goal.loop-k-preserved
loop-k-preserved c =
    let l = c.loop-k in
    reading_turn _ _ l.bytes l.k l.invariant c.byte_of.result (omega (arith, l.invariant.size)) (omega arith) c.byte_of.ensures (length-set l.bytes l.k c.byte_of.result ∙ l.invariant.size)

pub returns : goal.returns
returns c =
    reading_end _ _ _ _ c.loop-k.invariant _ (omega arith) c.min-n.ensures
