-- Bytes, and lines, behind the first bytes of a page.
-- Assumes nothing.
use Rattle.std.specs.Prelude.{ℕ, ◌+◌, ◌-◌, Bool, cond, ◌&&◌, List, ◌≡◌, length, leb}
use Rattle.std.proofs.Math.Seq.{paste}
use Rattle.line.specs.declared.Line.{Line}
use Rattle.line.specs.Line.{line_room}

-- there is room for n bytes behind the first `at`
unfoldable pub room_for : List ℕ → ℕ → ℕ → Bool
room_for out at n = leb at (length out) && leb n (length out - at)

-- the page with these bytes there, and where they end; one that has no room for all of them stays as it is.
-- `paste out at w n` is out with the first n bytes of w from `at` on
unfoldable pub printed : List ℕ → ℕ → List ℕ → List ℕ
printed out at w = cond (room_for out at (length w)) (paste out at w (length w)) out

unfoldable pub printed_end : List ℕ → ℕ → List ℕ → ℕ
printed_end out at w = cond (room_for out at (length w)) (at + length w) at

-- the bytes w were printed behind the first `at` of the page out: where they end, and the page then
abbrev pub Onto : List ℕ → ℕ → List ℕ → ℕ → List ℕ → Type 0
Onto out at w end page = (end ≡ printed_end out at w) × (page ≡ printed out at w)

-- there is room for the line, which has at most `line_room` bytes
unfoldable pub has_room : List ℕ → ℕ → Line → Bool
has_room out at l = leb l.len line_room && room_for out at l.len

-- the page with the line there, and where the line ends
unfoldable pub appended : List ℕ → ℕ → Line → List ℕ
appended out at l = cond (has_room out at l) (paste out at l.bytes l.len) out

unfoldable pub end_of : List ℕ → ℕ → Line → ℕ
end_of out at l = cond (has_room out at l) (at + l.len) at
