-- The console's page: what is said of a set, of a state, and of a recording.
-- Assumes nothing.
use Rattle.std.specs.Prelude.{ℕ, Bool, cond, List, ◌++◌}
use Rattle.ascii.specs.Decimal.{letters}
use Rattle.answer_words.specs.Words.{nr}

-- "prints `valid` or `invalid`"
abbrev pub valid_words : Bool → List ℕ
valid_words t = cond t (letters "valid") (letters "invalid")

-- "prints `well formed` or `refused 12`"
abbrev pub formed_words : Bool → List ℕ
formed_words t = cond t (letters "well formed") (letters "refused 12")

-- "Prints `recording N` with its bytes."
abbrev pub recording_words : ℕ → List ℕ
recording_words n = letters "recording" ++ nr n

-- "prints `at BYTE BIT`"
abbrev pub at_words : ℕ → ℕ → List ℕ
at_words byte bit = letters "at" ++ nr byte ++ nr bit
