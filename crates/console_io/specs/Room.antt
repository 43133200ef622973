-- The page that the console prints on has room for any answer.
-- Assumes nothing.
use Rattle.std.specs.Prelude.{ℕ, ◌≤◌, List, ◌≡◌, length}

-- the bytes of the page, which is written out beyond half of them
abbrev pub page_room : ℕ
page_room = 65536

abbrev pub half_page : ℕ
half_page = 32768

abbrev pub Roomy : ℕ → List ℕ → Type 0
Roomy at out = (at ≤ half_page) × (length out ≡ page_room)
