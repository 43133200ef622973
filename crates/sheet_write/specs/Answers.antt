-- Document 01, "Numbers the cab prints": when reading and writing a sheet give each number, and what comes with it.
-- Assumes nothing.
use Rattle.std.specs.Prelude.{ℕ, ◌≤◌, ◌<◌, true, false, ◌&&◌, List, [], ◌∷◌, ◌++◌, ◌↔◌, ◌≡◌, length, take, eqb, ltb}
use Rattle.std.specs.List.{list_all, list_any}
use Rattle.laws.specs.Bits.{bits, value}
use Rattle.rules.specs.declared.Set.{Set}
use Rattle.rules.specs.Streams.{Placed, empty_set, valid}
use Rattle.rules.specs.Sheet.{is_zero, read_of, sheet_bits, sheet_of, write_of}
use Rattle.rules.specs.Numbers.{Says, read_says, refused, write_says, wrote}

abbrev pub reading_says : List ℕ → Says
reading_says s = read_says (read_of s).answer

abbrev pub writing_says : Set → ℕ → Says
writing_says x room = write_says (write_of x room)

-- bits that begin with the fields of a valid set, and end with others
pub record Begins (bs : List ℕ) : Type 0 where
  pub set : Set
  pub ok : valid set ≡ true
  pub placed : Placed set
  pub rest : List ℕ
  pub same : bs ≡ sheet_bits set ++ rest
  pub bad : ltb (length rest) 8 && list_all is_zero rest ≡ false

-- "5, 6, 10 .. empty set"; 7 likewise. No other number is given
pub record ReadRefusal (s : List ℕ) (no : ℕ) : Type 0 where
  pub one : list_any (eqb no) (5 ∷ 6 ∷ 7 ∷ 10 ∷ []) ≡ true
  pub empty : (read_of s).set ≡ empty_set

unfoldable pub ReadRefusals : Type 0
ReadRefusals = (s : List ℕ) (no : ℕ) → reading_says s ≡ refused no → ReadRefusal s no

-- "a bad version 6"; request 4: "6 is no longer given for version 2": there are bits for the version, and they are neither 1 nor 2
unfoldable pub SixExactly : Type 0
SixExactly = (s : List ℕ) → reading_says s ≡ refused 6 ↔ (4 ≤ length (bits s)) × ((value (take 4 (bits s)) ≡ 1 → ⊥) × (value (take 4 (bits s)) ≡ 2 → ⊥))

-- "After the last field, a set padding bit or a further byte gives 10."
unfoldable pub TenExactly : Type 0
TenExactly = (s : List ℕ) → reading_says s ≡ refused 10 ↔ Begins (bits s)

-- "7: .. set out of rule"
unfoldable pub WriteSevenExactly : Type 0
WriteSevenExactly = (x : Set) (room : ℕ) → writing_says x room ≡ refused 7 ↔ valid x ≡ false

-- "11: sheet longer than the buffer lent for writing"; "Writing 7, 11."
unfoldable pub WriteElevenExactly : Type 0
WriteElevenExactly = (x : Set) (room : ℕ) → writing_says x room ≡ refused 11 ↔ (valid x ≡ true) × (room < length (sheet_of x))

-- else it is written, and no other number is given
unfoldable pub WroteExactly : Type 0
WroteExactly = (x : Set) (room : ℕ) → writing_says x room ≡ wrote (length (sheet_of x)) ↔ (valid x ≡ true) × (length (sheet_of x) ≤ room)

-- two sets have two sheets, and so have two versions of the same streams
unfoldable pub SheetTells : Type 0
SheetTells = (x y : Set) → valid x ≡ true → valid y ≡ true → Placed x → Placed y → sheet_of x ≡ sheet_of y → x ≡ y

-- what is read, or the empty set of a refusal, has the places that its type gives it
unfoldable pub ReadPlaced : Type 0
ReadPlaced = (s : List ℕ) → Placed (read_of s).set
