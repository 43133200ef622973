-- What is said of a recording takes no more bytes than a line has.
-- Assumes nothing.
use Prim.Native.Nat.{ℕ, ◌≤◌}
use native.Mathlib.Omega.{arith}
use lib.ListN.{length}
use Rattle.ascii.specs.Decimal.{letters}
use Rattle.answer_words.proofs.Lengths.{one, two}
use Rattle.console_words.specs.Words.{recording_words, at_words}

pub recording_short : (n : ℕ) → length (recording_words n) ≤ 95
recording_short n = omega (arith, one (letters "recording") n)

pub at_short : (byte bit : ℕ) → length (at_words byte bit) ≤ 95
at_short byte bit = omega (arith, two (letters "at") byte bit)
