-- The console's page: `close` is `read` of the joined bytes.
-- Assumes nothing.
use Prim.Native.Nat.{ℕ}
use mathlib.Core.Path.{◌≡◌, refl, ap, ◌∙◌}
use mathlib.Core.Bool.{true}
use mathlib.Core.List.{List, [], ◌∷◌, ◌++◌}
use Rattle.laws.specs.Lists.{All}
use Rattle.laws.specs.Bits.{bits}
use Rattle.laws.proofs.Fields.{IsByte, all_append, bits_append}
use Rattle.rules.specs.Sheet.{read_of}
use Rattle.rules.specs.Pieces.{Piece, fed_from, joined}
use Rattle.sheet_carried.specs.declared.Carried.{Carried}
use Rattle.sheet_carried.specs.Reader.{run, start_of}
use Rattle.sheet_carried.specs.Left.{Left, could_be_left}
use Rattle.sheet_carried.proofs.Chunks.{run_append}
use Rattle.sheet_carried.proofs.Exact.{complete}
use Rattle.sheet_read.specs.declared.FeedResult.{FeedResult}
use Rattle.sheet_read.specs.Cable.{SheetPieces, closed_of, feed_of, sheet_cable}
use Rattle.sheet_read.proofs.Pieces.{feed_takes, sheet_pieces}
use Rattle.console_cable.specs.CableCommands.{first_carried, closed_line, set_behind, carried_behind, fed_pieces, ClosesAs, ClosesJoined}

-- the pieces of `feed` are those of the cable
fed_same : (ps : List (List ℕ)) (c : Carried) → fed_pieces ps c ≡ fed_from sheet_cable c ps
unfolding fed_pieces fed_from
fed_same [] c = refl
fed_same (p ∷ ps) c = fed_same ps (feed_of c p).carried

closes : (ps : List (List ℕ)) → All Piece ps → closed_of (fed_pieces ps first_carried) ≡ read_of (joined ps)
unfolding SheetPieces
closes ps h = ap closed_of (fed_same ps first_carried) ∙ sheet_pieces.closing ps h

-- what pieces left is what bytes can have left
left_start : Left start_of
unfolding bits run
left_start = record { came = []; are = tt; leads = refl }

left_fed : (c : Carried) (p : List ℕ) → Left c → Piece p → Left (feed_of c p).carried
left_fed c p l h =
    record {
      came = l.came ++ p;
      are = all_append IsByte l.came p l.are h;
      leads =
          ap (run start_of) (bits_append l.came p) ∙ run_append start_of (bits l.came) (bits p) ∙ ap (λ (y : Carried). run y (bits p)) l.leads
          ∙ ap (λ (r : FeedResult). r.carried) (feed_takes c p (complete c l));
    }

left_all : (ps : List (List ℕ)) (c : Carried) → Left c → All Piece ps → Left (fed_pieces ps c)
unfolding fed_pieces
left_all [] c l h = l
left_all (p ∷ ps) c l h = left_all ps (feed_of c p).carried (left_fed c p l h.0) h.1

by_test : (bytes : List ℕ) (c : Carried) → could_be_left c ≡ true → closed_of c ≡ read_of bytes → ClosesAs bytes c
unfolding closed_line set_behind carried_behind
by_test bytes c t e = record { line = rw e; set = λ x. rw (t, e); carried = rw t }

pub closes_joined : ClosesJoined
unfolding ClosesJoined
closes_joined ps h = by_test (joined ps) (fed_pieces ps first_carried) (complete _ (left_all ps first_carried left_start h)) (closes ps h)
