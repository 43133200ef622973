-- The input of the program `cable`: "pieces from standard input in frames: a byte of length L (0 to 255), then L bytes, and so on to the
-- end of input".
-- Assumes nothing.
use Rattle.std.specs.Prelude.{ℕ, zero, suc, List, [], ◌∷◌, ◌++◌, ◌≡◌, length}
use Rattle.laws.specs.Lists.{All}
use Rattle.rules.specs.Sheet.{read_of}
use Rattle.rules.specs.Pieces.{Piece, joined}
use Rattle.sheet_carried.specs.declared.Carried.{Carried}
use Rattle.sheet_carried.specs.Reader.{start_of}
use Rattle.sheet_read.specs.Cable.{closed_of, feed_of}
use Rattle.cable_frames.specs.declared.Frames.{Frames}

-- ---- what an input in frames is

-- each piece behind its length
unfoldable pub framed : List (List ℕ) → List ℕ
framed [] = []
framed (p ∷ ps) = length p ∷ (p ++ framed ps)

-- an input of bytes that is not so is broken: "fewer bytes than its length says"
pub record InFrames (input : List ℕ) : Type 0 where
  pub pieces : List (List ℕ)
  pub bytes : All Piece pieces
  pub same : framed pieces ≡ input

-- ---- how it is taken, byte by byte

abbrev pub frames : Carried → ℕ → Frames
frames c n = record { carried = c; left = n }

abbrev pub first_frames : Frames
first_frames = frames start_of 0

-- a length where no byte of a piece is to come, else a byte of the piece
unfoldable pub step_from : Carried → ℕ → ℕ → Frames
step_from c zero b = frames c b
step_from c (suc n) b = frames (feed_of c (b ∷ [])).carried n

abbrev pub step_of : Frames → ℕ → Frames
step_of f b = step_from f.carried f.left b

unfoldable pub taken_of : Frames → List ℕ → Frames
taken_of f [] = f
taken_of f (b ∷ bs) = taken_of (step_of f b) bs

abbrev pub taken : List ℕ → Frames
taken input = taken_of first_frames input

-- ---- what is promised of it

pub record TakesFrames : Type 0 where
  -- the input may come in buffers, cut anywhere
  pub cut : (f : Frames) (a b : List ℕ) → taken_of (taken_of f a) b ≡ taken_of f (a ++ b)
  -- an input in frames is whole, and closing gives what the joined pieces give
  pub whole : (ps : List (List ℕ)) → All Piece ps → (taken (framed ps)).left ≡ 0
  pub reads : (ps : List (List ℕ)) → All Piece ps → closed_of (taken (framed ps)).carried ≡ read_of (joined ps)
  -- any other is not whole
  pub broken : (input : List ℕ) → Piece input → (InFrames input → ⊥) → (taken input).left ≡ 0 → ⊥
