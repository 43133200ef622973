-- A line of a readable text made tidy.
-- Assumes nothing.
use Rattle.std.specs.Prelude.{ℕ, ◌+◌, ◌-◌, Bool, true, false, cond, ◌&&◌, ◌||◌, List, [], ◌∷◌, ◌++◌, length, set, take, eqb, ltb}
use Prim.Native.Char.{code}
use Rattle.laws.specs.Bits.{zeros}
use Rattle.text_tidy.specs.declared.Row.{Row}
use Rattle.text_tidy.specs.declared.Spot.{Spot}
use Rattle.text_tidy.specs.declared.Spot.TheVariants.{Word, Gap, Comment}
use Rattle.text_tidy.specs.declared.Tidy.{Tidy}

-- a comment runs from `#` to the end of the line
unfoldable pub uncommented : List ℕ → List ℕ
uncommented [] = []
uncommented (b ∷ l) = cond (eqb b (code "#")) [] (b ∷ uncommented l)

-- a space, a tab, a carriage return
abbrev pub is_blank : ℕ → Bool
is_blank b = eqb b (code " ") || (eqb b 9 || eqb b 13)

-- a run of blanks between two bytes becomes one space, at the ends it is left out. `some`: a byte stands before; `gap`: a blank does
unfoldable pub squeezed : Bool → Bool → List ℕ → List ℕ
squeezed some gap [] = []
squeezed some gap (b ∷ l) =
    cond (is_blank b) (squeezed some true l)
    (cond (gap && some) (code " " ∷ b ∷ squeezed true false l) (b ∷ squeezed true false l))

unfoldable pub tidied : List ℕ → List ℕ
tidied l = squeezed false false (uncommented l)

-- ---- the same, byte by byte

-- how many bytes of a tidy line are kept
abbrev pub row_room : ℕ
row_room = 192

-- the row of these bytes: as many of them as it has room for, and zeros behind
unfoldable pub row_of : List ℕ → Row
row_of v = record { bytes = take row_room v ++ zeros (row_room - length v); len = cond (ltb (length v) row_room) (length v) row_room }

-- one byte more; a full row stays as it is
unfoldable pub row_put : Row → ℕ → Row
row_put r b = cond (ltb r.len row_room) (record { bytes = set r.bytes r.len b; len = r.len + 1 }) r

unfoldable pub fresh : Tidy
fresh = record { row = row_of []; spot = Word }

-- a gap waits for a byte behind it
abbrev pub waits : Spot → Bool
waits Word = false
waits Gap = true
waits Comment = false

unfoldable pub spaced_for : Spot → Row → Row
spaced_for spot r = cond (waits spot && ltb 0 r.len) (row_put r (code " ")) r

-- a comment runs
abbrev pub commented : Spot → Bool
commented Word = false
commented Gap = false
commented Comment = true

unfoldable pub kept_of : Tidy → ℕ → Tidy
kept_of t b =
    cond (commented t.spot) t
    (cond (eqb b (code "#")) (record { row = t.row; spot = Comment })
    (cond (is_blank b) (record { row = t.row; spot = Gap })
    (record { row = row_put (spaced_for t.spot t.row) b; spot = Word })))

-- bytes one after the other
unfoldable pub kept_on : Tidy → List ℕ → Tidy
kept_on t [] = t
kept_on t (b ∷ l) = kept_on (kept_of t b) l
