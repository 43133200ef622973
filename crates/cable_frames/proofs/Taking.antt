-- An input in frames is taken whole and read as the joined pieces; any other is broken.
-- Assumes nothing.
use Prim.Native.Nat.{ℕ, zero, suc, ◌+◌, ◌-◌, ◌<◌, ◌≤◌}
use native.Mathlib.Numerals.{add-one}
use native.Mathlib.Omega.{arith}
use mathlib.Core.Path.{◌≡◌, refl, sym, ap, ap₂, ◌∙◌}
use mathlib.Core.List.{List, [], ◌∷◌, ◌++◌}
use lib.ListN.{length, drop, get_or, drop_of_length-le}
use lib.Seq.{drop-cons}
use Rattle.laws.specs.Lists.{All, flat}
use Rattle.laws.proofs.Fields.{IsByte, all_append}
use Rattle.rules.specs.Sheet.{read_of}
use Rattle.rules.specs.Pieces.{Piece, fed_from, joined}
use Rattle.sheet_carried.specs.declared.Carried.{Carried}
use Rattle.sheet_carried.specs.Reader.{start_of}
use Rattle.sheet_read.specs.declared.FeedResult.{FeedResult}
use Rattle.sheet_read.specs.Cable.{SheetPieces, closed_of, feed_of, sheet_cable}
use Rattle.sheet_read.proofs.Pieces.{sheet_pieces}
use Rattle.cable_frames.specs.declared.Frames.{Frames}
use Rattle.cable_frames.specs.Frames.{framed, InFrames, frames, step_from, step_of, taken_of, taken, TakesFrames}

-- ---- the code's step

pub length_comes : (c : Carried) (n b : ℕ) → n ≡ 0 → frames c b ≡ step_from c n b
unfolding step_from
length_comes c n b e = rw e

pub byte_comes : (c : Carried) (n b : ℕ) (r : FeedResult) → (n ≡ 0 → ⊥) → r ≡ feed_of c (b ∷ []) → frames r.carried (n - 1) ≡ step_from c n b
unfolding step_from
byte_comes c zero b r h e = absurd (h refl)
byte_comes c (suc n) b r h e = ap₂ frames (ap (λ (x : FeedResult). x.carried) e) (let f : suc n - 1 ≡ n = omega arith in f)

-- ---- the code's loop

module _ (bytes : List ℕ) (f₀ f : Frames) (i : ℕ) (inv : taken_of f (drop i bytes) ≡ taken_of f₀ bytes) where
  pub take_turn : (r : Frames) → i < length bytes → r ≡ step_of f (get_or bytes i 0) → taken_of r (drop (i + 1) bytes) ≡ taken_of f₀ bytes
  unfolding taken_of
  take_turn r h e = rw (e, add-one i) (rw (drop-cons bytes i 0 h) at inv)

  pub take_end : length bytes ≤ i → f ≡ taken_of f₀ bytes
  unfolding taken_of
  take_end h = rw (drop_of_length-le bytes h) at inv

-- ---- buffers

pub taken_cut : (f : Frames) (a b : List ℕ) → taken_of (taken_of f a) b ≡ taken_of f (a ++ b)
unfolding taken_of
taken_cut f [] b = refl
taken_cut f (x ∷ a) b = taken_cut (step_of f x) a b

-- ---- whole pieces

-- each byte as a piece
unfoldable singles : List ℕ → List (List ℕ)
singles [] = []
singles (b ∷ s) = (b ∷ []) ∷ singles s

singles_joined : (s : List ℕ) → joined (singles s) ≡ s
unfolding flat singles
singles_joined [] = refl
singles_joined (b ∷ s) = ap (λ (l : List ℕ). b ∷ l) (singles_joined s)

singles_pieces : (s : List ℕ) → Piece s → All Piece (singles s)
unfolding singles
singles_pieces [] h = tt
singles_pieces (b ∷ s) h = ((h.0, tt), singles_pieces s h.1)

singles_append : (p q : List ℕ) (c : Carried) → fed_from sheet_cable (fed_from sheet_cable c (singles p)) (singles q) ≡ fed_from sheet_cable c (singles (p ++ q))
unfolding fed_from singles
singles_append [] q c = refl
singles_append (b ∷ p) q c = singles_append p q (feed_of c (b ∷ [])).carried

piece_taken : (p q : List ℕ) (c : Carried) → taken_of (frames c (length p)) (p ++ q) ≡ taken_of (frames (fed_from sheet_cable c (singles p)) 0) q
unfolding taken_of step_from fed_from singles
piece_taken [] q c = refl
piece_taken (b ∷ p) q c = piece_taken p q (feed_of c (b ∷ [])).carried

framed_taken : (ps : List (List ℕ)) (c : Carried) → taken_of (frames c 0) (framed ps) ≡ frames (fed_from sheet_cable c (singles (joined ps))) 0
unfolding taken_of step_from framed flat fed_from singles
framed_taken [] c = refl
framed_taken (p ∷ ps) c =
    piece_taken p (framed ps) c ∙ framed_taken ps (fed_from sheet_cable c (singles p))
    ∙ ap (λ (y : Carried). frames y 0) (singles_append p (joined ps) c)

joined_bytes : (ps : List (List ℕ)) → All Piece ps → Piece (joined ps)
unfolding flat
joined_bytes [] h = tt
joined_bytes (p ∷ ps) h = all_append IsByte p (joined ps) h.0 (joined_bytes ps h.1)

framed_reads : (ps : List (List ℕ)) → All Piece ps → closed_of (taken (framed ps)).carried ≡ read_of (joined ps)
unfolding SheetPieces
framed_reads ps h =
    ap (λ (f : Frames). closed_of f.carried) (framed_taken ps start_of)
    ∙ sheet_pieces.closing (singles (joined ps)) (singles_pieces (joined ps) (joined_bytes ps h)) ∙ ap read_of (singles_joined (joined ps))

-- ---- what ends behind a whole piece is in frames

-- n bytes of a piece, then frames
record Ends (n : ℕ) (s : List ℕ) : Type 0 where
  first : List ℕ
  rest : List (List ℕ)
  bytes : Piece first
  pieces : All Piece rest
  size : length first ≡ n
  same : first ++ framed rest ≡ s

ends : (s : List ℕ) (n : ℕ) (c : Carried) → Piece s → (taken_of (frames c n) s).left ≡ 0 → Ends n s
unfolding taken_of step_from framed
ends [] n c h e = record { first = []; rest = []; bytes = tt; pieces = tt; size = sym e; same = refl }
ends (b ∷ s) zero c h e =
    let t = ends s b c h.1 e in
    record {
      first = [];
      rest = t.first ∷ t.rest;
      bytes = tt;
      pieces = (t.bytes, t.pieces);
      size = refl;
      same = ap₂ (λ (x : ℕ) (l : List ℕ). x ∷ l) t.size t.same;
    }
ends (b ∷ s) (suc n) c h e =
    let t = ends s n (feed_of c (b ∷ [])).carried h.1 e in
    record {
      first = b ∷ t.first;
      rest = t.rest;
      bytes = (h.0, t.bytes);
      pieces = t.pieces;
      size = ap suc t.size;
      same = ap (λ (l : List ℕ). b ∷ l) t.same;
    }

none_first : (s : List ℕ) (p : List ℕ) (ps : List (List ℕ)) → All Piece ps → length p ≡ 0 → p ++ framed ps ≡ s → InFrames s
none_first s [] ps h e f = record { pieces = ps; bytes = h; same = f }
none_first s (b ∷ p) ps h e f = absurd (omega arith)

pub whole_framed : (input : List ℕ) → Piece input → (taken input).left ≡ 0 → InFrames input
whole_framed input h e =
    let t = ends input 0 start_of h e in none_first input t.first t.rest t.pieces t.size t.same

pub takes_frames : TakesFrames
takes_frames =
    record {
      cut = taken_cut;
      whole = λ ps h. ap (λ (f : Frames). f.left) (framed_taken ps start_of);
      reads = framed_reads;
      broken = λ input h n e. n (whole_framed input h e);
    }
