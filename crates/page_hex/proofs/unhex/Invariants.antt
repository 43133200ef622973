use Rattle.page_hex.proofs.Pairs.{Reading}
use Rattle.page_hex.proofs.unhex.Given as goal

abbrev pub invariant-loop-k : goal.invariant-loop-k
invariant-loop-k l = Reading l.digits l.initial.bytes l.bytes l.k
