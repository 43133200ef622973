-- A line, and behind it the bytes of a buffer in hex on a line of their own; and the front of a buffer whose bytes are all the same.
-- Assumes nothing.
use Prim.Native.Nat.{ℕ, zero, suc, ◌+◌, ◌*◌, ◌≤◌}
use native.Mathlib.Omega.{arith}
use mathlib.Core.Path.{◌≡◌, refl, ap}
use mathlib.Core.Bool.{true}
use mathlib.Core.List.{List, ◌∷◌, ◌++◌}
use lib.ListN.{length, take, replicate, length-append}
use Rattle.ascii.specs.Decimal.{newline}
use Rattle.ascii.specs.Hex.{hexed}
use Rattle.line.specs.declared.Line.{Line}
use Rattle.line.specs.Line.{line_room, holding}
use Rattle.page.specs.Pages.{room_for, Onto, appended, end_of}
use Rattle.page.proofs.Pieces.{onto_line, onto_room, onto_then}
use Rattle.page_hex.proofs.Prints.{twice}

pub hex_lines_onto : (w buf out : List ℕ) (at n : ℕ) → room_for out at n ≡ true → length w ≤ line_room → length w + (2 * length buf + 1) ≤ n
    → (k l : Line) (a b end : ℕ) (o p page : List ℕ) → k ≡ holding w → (a ≡ end_of out at k) × (o ≡ appended out at k)
    → Onto o a (hexed buf) b p → l ≡ holding newline → (end ≡ end_of p b l) × (page ≡ appended p b l)
    → Onto out at (w ++ (hexed buf ++ newline)) end page
hex_lines_onto w buf out at n room short fits k l a b end o p page e f hex g h =
    let first : Onto out at w a o = onto_line out w at k a o short e f in
    let size : length (hexed buf) ≡ 2 * length buf = twice buf in
    let left : room_for o a (2 * length buf + 1) ≡ true = onto_room out w at n a o room first (2 * length buf + 1) fits in
    let last : Onto p b newline end page = onto_line p newline b l end page (omega arith) g h in
    onto_then out w at n a o room first (hexed buf ++ newline) end page (omega (arith, length-append (hexed buf) newline))
    (onto_then o (hexed buf) a (2 * length buf + 1) b p left hex newline end page (omega arith) last)

pub take_fill : (k m b : ℕ) → k ≤ m → take k (replicate m b) ≡ replicate k b
take_fill zero m b h = refl
take_fill (suc k) zero b h = absurd (omega (arith, h))
take_fill (suc k) (suc m) b h = ap (λ (w : List ℕ). b ∷ w) (take_fill k m b (omega (arith, h)))
