-- Bytes that are fed piece by piece.
-- Assumes nothing.
use Prim.Native.Nat.{ℕ}
use mathlib.Core.List.{List, [], ◌∷◌, ◌++◌, append_assoc, append-nil}
use mathlib.Core.Path.{◌≡◌, ap, sym, ◌∙◌}
use lib.ListN.{length}
use Rattle.std.proofs.lemmas.List.{nil_from_length}
use Rattle.laws.specs.Bits.{bits}
use Rattle.laws.proofs.Fields.{AreBytes}
use Rattle.sheet_carried.specs.declared.Carried.{Carried}
use Rattle.sheet_carried.specs.Reader.{run, start_of}
use Rattle.sheet_read.specs.declared.FeedResult.{FeedResult}
use Rattle.sheet_read.specs.Cable.{feed_of}
use Rattle.sheet_read.proofs.Pieces.{after, feed_more}

-- some of the bytes have been fed, and the rest is left
pub record Fed (bytes rest : List ℕ) (c : Carried) : Type 0 where
  pub came : List ℕ
  pub carried : c ≡ after came
  pub parts : came ++ rest ≡ bytes

pub fed_none : (bytes rest : List ℕ) (c : Carried) → c ≡ start_of → rest ≡ bytes → Fed bytes rest c
unfolding bits run
fed_none bytes rest c e f = record { came = []; carried = e; parts = f }

front_bytes : (a b : List ℕ) → AreBytes (a ++ b) → AreBytes a
front_bytes [] b h = tt
front_bytes (x ∷ a) b h = (h.0, front_bytes a b h.1)

pub fed_next : (bytes rest piece left : List ℕ) (c : Carried) (r : FeedResult) → AreBytes bytes → Fed bytes rest c → rest ≡ piece ++ left → r ≡ feed_of c piece → Fed bytes left r.carried
fed_next bytes rest piece left c r b h e q = record {
  came = h.came ++ piece;
  carried =
      ap (λ (y : FeedResult). y.carried) (q ∙ ap (λ (y : Carried). feed_of y piece) h.carried ∙ feed_more h.came piece (front_bytes h.came rest (rw h.parts b)));
  parts = append_assoc h.came piece left ∙ ap (λ (y : List ℕ). h.came ++ y) (sym e) ∙ h.parts;
}

pub fed_all : (bytes rest : List ℕ) (c : Carried) → Fed bytes rest c → length rest ≡ 0 → c ≡ after bytes
fed_all bytes rest c h e =
    h.carried ∙ ap after (sym (append-nil h.came) ∙ ap (λ (y : List ℕ). h.came ++ y) (sym (nil_from_length rest e)) ∙ h.parts)
