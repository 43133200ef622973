use Rattle.std.proofs.Common.{◌≤◌}
use Rattle.text_io.proofs.take_piece.Given as goal

abbrev pub invariant-loop-k : goal.invariant-loop-k
invariant-loop-k g l = l.from ≤ l.k
