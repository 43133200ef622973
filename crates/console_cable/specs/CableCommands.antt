-- The console's page, **CR 5**: what each command of the service cable leaves of what is carried and of the set, and what it prints.
-- Assumes nothing.
use Rattle.std.specs.Prelude.{ℕ, cond, List, [], ◌∷◌, ◌≡◌}
use Rattle.laws.specs.Lists.{All}
use Rattle.rules.specs.declared.Set.{Set}
use Rattle.rules.specs.Numbers.{feed_says}
use Rattle.rules.specs.Sheet.{read_of}
use Rattle.rules.specs.Pieces.{Piece, joined}
use Rattle.sheet_carried.specs.declared.Carried.{Carried}
use Rattle.sheet_carried.specs.Reader.{start_of}
use Rattle.sheet_carried.specs.Left.{could_be_left}
use Rattle.sheet_read.specs.Cable.{closed_of, feed_of}
use Rattle.ascii.specs.Decimal.{letters}
use Rattle.answer_words.specs.Words.{says, read_words, line_of}
use Rattle.console_names.specs.declared.CableCommand.{CableCommand}
use Rattle.console_names.specs.declared.CableCommand.TheVariants.{Cable, Feed, Close}

-- "a new carried state .. (So it is at first.)"
abbrev pub first_carried : Carried
first_carried = start_of

-- "prints `fed` or `refused 12`"
unfoldable pub fed_line : Carried → List ℕ → List ℕ
fed_line c piece = line_of (says (feed_says (feed_of c piece).answer))

-- "prints what `read` prints for the joined bytes .. or `refused 12`"
unfoldable pub closed_line : Carried → List ℕ
closed_line c = line_of (read_words (closed_of c).answer (closed_of c).set.count)

-- "does what it does with the set, and the carried state is new again; or `refused 12`, and the console's set and carried state stay"
unfoldable pub set_behind : Carried → Set → Set
set_behind c x = cond (could_be_left c) (closed_of c).set x

unfoldable pub carried_behind : Carried → Carried
carried_behind c = cond (could_be_left c) first_carried c

-- What is carried after a command; `piece` is the bytes behind `feed`.
abbrev pub cable_after : CableCommand → List ℕ → Carried → Carried
cable_after Cable piece c = first_carried
cable_after Feed piece c = (feed_of c piece).carried
cable_after Close piece c = carried_behind c

-- The set: only closing changes it.
abbrev pub cable_set_after : CableCommand → Carried → Set → Set
cable_set_after Cable c x = x
cable_set_after Feed c x = x
cable_set_after Close c x = set_behind c x

-- What it prints.
abbrev pub cable_line : CableCommand → List ℕ → Carried → List ℕ
-- "Prints `put`."
cable_line Cable piece c = line_of (letters "put")
cable_line Feed piece c = fed_line c piece
cable_line Close piece c = closed_line c

-- what is carried after `feed` of each of these pieces, one behind the other
unfoldable pub fed_pieces : List (List ℕ) → Carried → Carried
fed_pieces [] c = c
fed_pieces (p ∷ ps) c = fed_pieces ps (cable_after Feed p c)

-- "prints what `read` prints for the joined bytes and does what it does with the set, and the carried state is new again", where these
-- are the joined bytes
pub record ClosesAs (bytes : List ℕ) (c : Carried) : Type 0 where
  pub line : cable_line Close [] c ≡ line_of (read_words (read_of bytes).answer (read_of bytes).set.count)
  pub set : (x : Set) → cable_set_after Close c x ≡ (read_of bytes).set
  pub carried : cable_after Close [] c ≡ first_carried

-- pieces that were fed since `cable`, since `close`, or since the console began
unfoldable pub ClosesJoined : Type 0
ClosesJoined = (ps : List (List ℕ)) → All Piece ps → ClosesAs (joined ps) (fed_pieces ps first_carried)
