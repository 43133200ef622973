-- Are two words the same?
-- Assumes nothing.
use Rattle.std.specs.Prelude.{ℕ, Bool, List}
use Rattle.std.specs.Str.{bytes_eq}

-- letter by letter, and none is left over
abbrev pub same : List ℕ → List ℕ → Bool
same v w = bytes_eq v w
