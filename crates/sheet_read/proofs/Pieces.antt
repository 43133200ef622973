-- Request 5: any pieces, fed one behind the other and closed, give what the joined bytes give; 12 exactly.
-- Assumes nothing.
use Prim.Native.Nat.{ℕ}
use mathlib.Core.List.{List, [], ◌∷◌, ◌++◌, append_assoc, append-nil}
use mathlib.Core.Path.{◌≡◌, refl, sym, ap, ◌∙◌, subst}
use mathlib.Core.Bool.{true, false}
use Rattle.laws.specs.Lists.{All, flat}
use Rattle.laws.specs.Bits.{bits}
use Rattle.laws.proofs.Sums.{by_test}
use Rattle.laws.proofs.Fields.{AreBytes, IsByte, all_append, bits_append, bits_bits}
use Rattle.rules.specs.declared.Refusal.TheVariants.{IllFormed}
use Rattle.std.specs.Prelude.{Ok, Err}
use Rattle.rules.specs.Sheet.{no_set, read_of}
use Rattle.rules.specs.Pieces.{CouldLeave, Piece, fed_from, joined, left_by}
use Rattle.sheet_carried.specs.declared.Carried.{Carried}
use Rattle.sheet_carried.specs.Reader.{close_of, run, start_of}
use Rattle.sheet_carried.specs.Kept.{Kept}
use Rattle.sheet_carried.specs.Left.{Boxed, Left, could_be_left}
use Rattle.sheet_carried.proofs.Keeps.{kept_run, kept_start}
use Rattle.sheet_carried.proofs.Chunks.{run_append}
use Rattle.sheet_carried.proofs.Exact.{complete, left_exactly}
use Rattle.sheet_carried.specs.Left.{LeftExactly}
use Rattle.sheet_read.specs.Cable.{SheetPieces, closed_of, feed_of, sheet_cable}
use Rattle.sheet_read.proofs.ByField.{by_field_lem}

-- what bytes leave keeps what the reader's states keep
pub left_kept : (c : Carried) → Boxed c → could_be_left c ≡ true → Kept c
unfolding LeftExactly
left_kept c b e =
    let l : Left c = (left_exactly c b).0 e in subst Kept l.leads (kept_run start_of (bits l.came) kept_start (bits_bits l.came))

-- ---- feeding, by the test

pub feed_takes : (c : Carried) (p : List ℕ) → could_be_left c ≡ true → record { answer = Ok tt; carried = run c (bits p) } ≡ feed_of c p
unfolding feed_of
feed_takes c p e = sym (simp e)

pub feed_twelve : (c : Carried) (p : List ℕ) → could_be_left c ≡ false → record { answer = Err IllFormed; carried = c } ≡ feed_of c p
unfolding feed_of
feed_twelve c p e = sym (simp e)

pub close_takes : (c : Carried) → could_be_left c ≡ true → close_of c ≡ closed_of c
unfolding closed_of
close_takes c e = sym (simp e)

pub close_twelve : (c : Carried) → could_be_left c ≡ false → no_set IllFormed ≡ closed_of c
unfolding closed_of
close_twelve c e = sym (simp e)

-- ---- pieces

abbrev pub after : List ℕ → Carried
after s = run start_of (bits s)

pub could : (s : List ℕ) → AreBytes s → could_be_left (after s) ≡ true
could s b = complete (after s) (record { came = s; are = b; leads = refl })

-- one piece more is the bytes with its own behind them
pub feed_more : (s p : List ℕ) → AreBytes s → feed_of (after s) p ≡ record { answer = Ok tt; carried = after (s ++ p) }
feed_more s p b =
    sym (feed_takes (after s) p (could s b))
    ∙ ap (λ (c : Carried). record { answer = Ok tt; carried = c }) (sym (run_append start_of (bits s) (bits p)) ∙ ap (run start_of) (sym (bits_append s p)))

fed_all : (ps : List (List ℕ)) (s : List ℕ) → AreBytes s → All Piece ps → fed_from sheet_cable (after s) ps ≡ after (s ++ joined ps)
unfolding fed_from flat
fed_all [] s b h = ap after (sym (append-nil s))
fed_all (p ∷ ps) s b h =
    ap (λ (c : Carried). fed_from sheet_cable c ps) (ap (λ r. r.carried) (feed_more s p b)) ∙ fed_all ps (s ++ p) (all_append IsByte s p b h.0) h.1 ∙ ap after (append_assoc s p (joined ps))

left_all : (ps : List (List ℕ)) → All Piece ps → left_by sheet_cable ps ≡ after (joined ps)
unfolding bits run
left_all ps h = fed_all ps [] tt h

joined_bytes : (ps : List (List ℕ)) → All Piece ps → AreBytes (joined ps)
unfolding flat
joined_bytes [] h = tt
joined_bytes (p ∷ ps) h = all_append IsByte p (joined ps) h.0 (joined_bytes ps h.1)

pub close_after : (s : List ℕ) → AreBytes s → closed_of (after s) ≡ read_of s
close_after s b = sym (close_takes (after s) (could s b)) ∙ by_field_lem s

closes_joined : (ps : List (List ℕ)) → All Piece ps → closed_of (left_by sheet_cable ps) ≡ read_of (joined ps)
closes_joined ps h =
    ap closed_of (left_all ps h) ∙ close_after (joined ps) (joined_bytes ps h)

-- ---- 12

-- pieces could have left it exactly if bytes could
pieces_left : (c : Carried) → CouldLeave sheet_cable c → could_be_left c ≡ true
pieces_left c l =
    subst (λ (y : Carried). could_be_left y ≡ true) (sym (left_all l.pieces l.bytes) ∙ l.same) (could (joined l.pieces) (joined_bytes l.pieces l.bytes))

joined_one : (s : List ℕ) → joined (s ∷ []) ≡ s
unfolding flat
joined_one s = append-nil s

left_pieces : (c : Carried) → Boxed c → could_be_left c ≡ true → CouldLeave sheet_cable c
unfolding LeftExactly
left_pieces c b e =
    let l : Left c = (left_exactly c b).0 e in
    record { pieces = l.came ∷ []; bytes = (l.are, tt); same = left_all (l.came ∷ []) (l.are, tt) ∙ ap after (joined_one l.came) ∙ l.leads }

not_left : (c : Carried) → Boxed c → (CouldLeave sheet_cable c → ⊥) → could_be_left c ≡ false
not_left c b h = by_test (could_be_left c) (λ e. absurd (h (left_pieces c b e))) (λ e. e)

pub sheet_pieces : SheetPieces
unfolding SheetPieces
sheet_pieces =
    record {
      closing = closes_joined;
      feeding = λ c p b h l. ap (λ r. r.answer) (sym (feed_takes c p (pieces_left c l)));
      twelve = λ c p b h n. (ap (λ r. r.answer) (sym (feed_twelve c p (not_left c b n))), ap (λ r. r.carried) (sym (feed_twelve c p (not_left c b n))));
      shut = λ c b n. sym (close_twelve c (not_left c b n));
    }
