-- Tuples whose offsets never fall: one more behind them, and all but the last.
-- Assumes nothing.
use Prim.Native.Nat.{ℕ, zero, suc, ◌<◌}
use mathlib.Core.List.{List, [], ◌∷◌, ◌++◌}
use mathlib.Core.Path.{◌≡◌, refl, sym, subst}
use mathlib.Core.Bool.{true}
use native.Mathlib.Omega.{arith}
use lib.ListN.{length, get_or, take}
use borrow.Author.Tests.{ne_eqb}
use Rattle.laws.specs.Lists.{within}
use Rattle.rules.specs.declared.TuplePlace.{TuplePlace}
use Rattle.rules.specs.Streams.{no_tuple, offset_at}
use Rattle.rules.specs.Valid.{ValidPlace}
use Rattle.sheet_carried.specs.Table.{greatest_of, row_of}
use Rattle.sheet_carried.specs.Left.{last_of}
use Rattle.sheet_carried.proofs.Streams.{Chain}

-- how large the offset behind some tuples may be, where the first may be `high`
abbrev pub top_of : ℕ → List TuplePlace → ℕ
top_of high [] = high
top_of high (p ∷ ps) = 100000

pub top_is : (ps : List TuplePlace) → greatest_of 8 (length ps) ≡ top_of 0 ps
unfolding greatest_of row_of
top_is [] = refl
top_is (p ∷ ps) = simp (ne_eqb (suc (length ps)) 0 (λ e. omega arith))

pub last_snoc : (low : ℕ) (ps : List TuplePlace) (p : TuplePlace) → last_of low (ps ++ (p ∷ [])) ≡ offset_at p
unfolding last_of
last_snoc low [] p = refl
last_snoc low (q ∷ ps) p = last_snoc (offset_at q) ps p

pub top_snoc : (ps : List TuplePlace) (p : TuplePlace) → top_of 0 (ps ++ (p ∷ [])) ≡ 100000
top_snoc [] p = refl
top_snoc (q ∷ ps) p = refl

top_all : (ps : List TuplePlace) → top_of 100000 ps ≡ 100000
top_all [] = refl
top_all (p ∷ ps) = refl

-- one tuple more
pub chain_snoc : (low high : ℕ) (ps : List TuplePlace) (p : TuplePlace) → Chain low high ps → within (last_of low ps) (offset_at p) (top_of high ps) ≡ true → ValidPlace p → Chain low high (ps ++ (p ∷ []))
unfolding last_of
chain_snoc low high [] p c w v = (w, (v, tt))
chain_snoc low high (q ∷ ps) p c w v =
    (c.0, (c.1.0, chain_snoc (offset_at q) 100000 ps p c.1.1 (subst (λ (b : ℕ). within (last_of (offset_at q) ps) (offset_at p) b ≡ true) (sym (top_all ps)) w) v))

-- all but the last, and the last
pub record Last (low high : ℕ) (ps : List TuplePlace) (p : TuplePlace) : Type 0 where
  pub init : Chain low high ps
  pub rule : within (last_of low ps) (offset_at p) (top_of high ps) ≡ true
  pub place : ValidPlace p

pub chain_last : (low high : ℕ) (ps : List TuplePlace) (p : TuplePlace) → Chain low high (ps ++ (p ∷ [])) → Last low high ps p
unfolding last_of
chain_last low high [] p c = record { init = tt; rule = c.0; place = c.1.0 }
chain_last low high (q ∷ ps) p c =
    let r : Last (offset_at q) 100000 ps p = chain_last (offset_at q) 100000 ps p c.1.1 in
    record {
      init = (c.0, (c.1.0, r.init));
      rule = subst (λ (b : ℕ). within (last_of (offset_at q) ps) (offset_at p) b ≡ true) (top_all ps) r.rule;
      place = r.place;
    }

-- the offset of the last of the first tuples
pub last_taken : (low n : ℕ) (ps : List TuplePlace) → n < length ps → last_of low (take (suc n) ps) ≡ offset_at (get_or ps n no_tuple)
unfolding last_of
last_taken low n [] h = absurd (omega arith)
last_taken low zero (p ∷ ps) h = refl
last_taken low (suc n) (p ∷ ps) h = last_taken (offset_at p) n ps (omega arith)
