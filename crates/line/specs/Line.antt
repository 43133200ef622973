-- What a line holds.
-- Assumes nothing.
use Rattle.std.specs.Prelude.{ℕ, ◌+◌, ◌-◌, cond, List, [], ◌∷◌, ◌++◌, length, set, ltb}
use Rattle.laws.specs.Bits.{zeros}
use Rattle.line.specs.declared.Line.{Line}

-- how many bytes a line has room for
abbrev pub line_room : ℕ
line_room = 128

-- the line that holds these bytes, of which it has room for all, and zeros behind them
unfoldable pub holding : List ℕ → Line
holding w = record { bytes = w ++ zeros (line_room - length w); len = length w }

-- one byte more; a full line stays as it is
unfoldable pub put_of : Line → ℕ → Line
put_of l b = cond (ltb l.len line_room) (record { bytes = set l.bytes l.len b; len = l.len + 1 }) l

-- these bytes more, one after the other
unfoldable pub puts : Line → List ℕ → Line
puts l [] = l
puts l (b ∷ w) = puts (put_of l b) w
