-- Request 5: what feeding a piece and closing give, for every carried state, and that they are the cable that document 02 asks for.
-- Assumes nothing.
use Rattle.std.specs.Prelude.{cond, List, ℕ}
use Rattle.laws.specs.Bits.{bits}
use Rattle.rules.specs.declared.Refusal.TheVariants.{IllFormed}
use Rattle.std.specs.Prelude.{Result, Ok, Err}
use Rattle.rules.specs.declared.Refusal.{Refusal}
use Rattle.rules.specs.declared.ReadResult.{ReadResult}
use Rattle.rules.specs.Sheet.{no_set}
use Rattle.rules.specs.Pieces.{Cable, TakesPieces}
use Rattle.sheet_carried.specs.declared.Carried.{Carried}
use Rattle.sheet_carried.specs.Reader.{close_of, run, start_of}
use Rattle.sheet_carried.specs.Left.{Boxed, could_be_left}
use Rattle.sheet_read.specs.declared.FeedResult.{FeedResult}

-- "12 for a carried state that no pieces could have left, which stays unchanged"; any other takes the bits of the piece
unfoldable pub feed_of : Carried → List ℕ → FeedResult
feed_of c piece =
    cond (could_be_left c) (record { answer = Ok tt; carried = run c (bits piece) }) (record { answer = Err IllFormed; carried = c })

-- 12 with the empty set, or what has come, read as a sheet
unfoldable pub closed_of : Carried → ReadResult
closed_of c = cond (could_be_left c) (close_of c) (no_set IllFormed)

abbrev pub feed_answer : Carried → List ℕ → Result (Unit {0}) Refusal
feed_answer c piece = (feed_of c piece).answer

abbrev pub feed_leaves : Carried → List ℕ → Carried
feed_leaves c piece = (feed_of c piece).carried

abbrev pub sheet_cable : Cable Carried
sheet_cable = record { first = start_of; feeds = feed_answer; leaves = feed_leaves; closes = closed_of }

-- request 5, of the functions of this crate
unfoldable pub SheetPieces : Type 0
SheetPieces = TakesPieces sheet_cable Boxed
