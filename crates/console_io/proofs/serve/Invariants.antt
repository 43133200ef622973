-- Behind each turn half of the page is free, and the two buffers keep their lengths.
-- Assumes nothing.
use Rattle.std.proofs.Common.{◌≡◌, ◌≤◌, length}
use Rattle.console_io.specs.Room.{half_page}
use Rattle.console_io.proofs.serve.Given as goal

abbrev pub invariant-loop : goal.invariant-loop
invariant-loop g l = (length l.line ≡ length l.initial.line) × ((length l.out ≡ length l.initial.out) × (l.c.at ≤ half_page))
