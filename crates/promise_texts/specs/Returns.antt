-- What is written as text and read again is what was written, and so it is with a sheet between.
-- Assumes nothing.
use Rattle.std.specs.Prelude.{ℕ, ◌-◌, ◌*◌, ◌≤◌, true, List, [], ◌∷◌, ◌++◌, ◌≡◌, length}
use Rattle.rules.specs.declared.Tuple.TheVariants.{Once, Every}
use Rattle.rules.specs.declared.TuplePlace.{TuplePlace}
use Rattle.rules.specs.declared.Stage.{Stage}
use Rattle.rules.specs.declared.Stream.{Stream}
use Rattle.rules.specs.declared.Set.{Set}
use Rattle.std.specs.Prelude.{Some, Ok}
use Rattle.rules.specs.Streams.{FourPlaces, Placed, no_streams, empty_set, stream_ok, valid, jitter_ok}
use Rattle.rules.specs.Sheet.{stream_of, sheet_of, read_of}
use Rattle.rules.specs.Valid.{Between, ValidStage}
use Rattle.laws.specs.Lists.{All, flat}
use Rattle.laws.proofs.Fields.{AreBytes}
use Rattle.ascii.specs.Decimal.{letters, decimal_of}
use Rattle.text_tidy.specs.Tidied.{row_of}
use Rattle.text_line.specs.declared.Said.TheVariants.{Stream as IsStream}
use Rattle.text_line.specs.Lines.{stage_text, stream_text, version_text, most_stages, line_read, judged}
use Rattle.text_read.specs.Texts.{text_read}
use Rattle.text_print.specs.Listed.{text_of}

-- a stream's own line says that stream, in a text of a version that allows its stages; and so does the row that keeps its bytes
unfoldable pub LineReturns : Type 0
LineReturns = (version : ℕ) (s : Stream) → FourPlaces s → stream_ok s ≡ true → s.depth ≤ most_stages version → line_read version (stream_text s) ≡ Ok (Some (IsStream s))

unfoldable pub JudgedReturns : Type 0
JudgedReturns = (version : ℕ) (s : Stream) → FourPlaces s → stream_ok s ≡ true → s.depth ≤ most_stages version → judged version (row_of (stream_text s)) ≡ Ok (Some (IsStream s))

-- a line with a jitter says the stream with the jitter's two tuples
unfoldable pub jitter_text : List Stage → ℕ → ℕ → ℕ → List ℕ
jitter_text gs deadline z j =
    flat stage_text gs ++ (letters "deadline " ++ decimal_of deadline ++ (letters " jitter " ++ decimal_of z ++ (letters " " ++ decimal_of j)))

abbrev pub jitter_tuples : ℕ → ℕ → List TuplePlace
jitter_tuples z j = record { tuple = Once 0 } ∷ record { tuple = Every z (z - 2 * j) } ∷ []

unfoldable pub JitterReturns : Type 0
JitterReturns =
    (version : ℕ) (gs : List Stage) (deadline z j : ℕ) → Between 1 (length gs) (most_stages version) → All ValidStage gs → Between 1 deadline 200000
    → jitter_ok z j ≡ true → line_read version (jitter_text gs deadline z j) ≡ Ok (Some (IsStream (stream_of gs deadline (jitter_tuples z j))))

-- a set's own text reads as that set
unfoldable pub TextReturns : Type 0
TextReturns = (x : Set) → Placed x → valid x ≡ true → text_read (text_of x) ≡ Ok x

-- so two sets have two texts, of whichever versions they are
unfoldable pub TextTells : Type 0
TextTells = (x y : Set) → Placed x → valid x ≡ true → Placed y → valid y ≡ true → text_of x ≡ text_of y → x ≡ y

-- an empty text is the empty set, and `version 2` alone is the empty set of version 2
pub record NoStreams : Type 0 where
  pub first : text_read [] ≡ Ok empty_set
  pub second : text_read version_text ≡ Ok (no_streams 2)

-- what any text reads as is a valid set, and so has a sheet
pub record Fit (x : Set) : Type 0 where
  pub placed : Placed x
  pub ok : valid x ≡ true

unfoldable pub ReadValid : Type 0
ReadValid = (l : List ℕ) (x : Set) → text_read l ≡ Ok x → Fit x

-- text, sheet, text: the text that is printed of a set, read, written as a sheet, read and printed, is the same text
unfoldable pub TextSheetText : Type 0
TextSheetText = (x : Set) → Placed x → valid x ≡ true → (y : Set) × ((text_read (text_of x) ≡ Ok y) × (text_of (read_of (sheet_of y)).set ≡ text_of x))

-- sheet, text, sheet: a sheet that is read, printed as text, read and written, is the same sheet
unfoldable pub SheetTextSheet : Type 0
SheetTextSheet = (s : List ℕ) → AreBytes s → (read_of s).answer ≡ (Ok tt) → (y : Set) × ((text_read (text_of (read_of s).set) ≡ Ok y) × (sheet_of y ≡ s))
