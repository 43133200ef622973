-- Behind each byte half of the page is free, and the two buffers keep their lengths.
-- Assumes nothing.
use Rattle.std.proofs.Common.{◌≡◌, ◌≤◌, length}
use Rattle.console_io.specs.Room.{half_page}
use Rattle.console_io.proofs.take_piece.Given as goal

abbrev pub invariant-loop-b : goal.invariant-loop-b
invariant-loop-b g l = (length l.line ≡ length l.initial.line) × ((length l.out ≡ length l.initial.out) × (l.next.at ≤ half_page))
