-- Places of which the first are in use: one place more.
-- Assumes nothing.
use Prim.Native.Nat.{ℕ, zero, suc, ◌+◌, ◌-◌, ◌≤◌, ◌<◌}
use mathlib.Core.List.{List, [], ◌∷◌, ◌++◌}
use mathlib.Core.Path.{◌≡◌, refl, sym, ap, ◌∙◌}
use mathlib.Core.Bool.{Bool, true, false, cond}
use native.Mathlib.Omega.{arith}
use native.Mathlib.Numerals.{add-one}
use lib.ListN.{length, take, drop, set, replicate, length-append, length-replicate, replicate-append-replicate}
use lib.Seq.{drop-append_seam, take-suc-set, set_at, append_snoc}
use Rattle.sheet_carried.specs.Kept.{Holds}

-- a case of a test
pub cond_elim : {A : Type 0} (P : A → Type 0) (b : Bool) (x y : A) → (b ≡ true → P x) → (b ≡ false → P y) → P (cond b x y)
cond_elim P true x y f g = f refl
cond_elim P false x y f g = g refl

module _ {A : Type 0} (N : ℕ) (none : A) where
  pub holds_none : Holds N none 0 (replicate N none)
  holds_none = record { used = refl; unused = ap (λ (n : ℕ). replicate n none) (let e : N ≡ N - 0 = omega arith in e) }

  module _ (n : ℕ) (l : List A) (h : Holds N none n l) where
    pub holds_length : n ≤ N → length l ≡ N
    holds_length k = omega (arith, ap length h.unused, length-append (take n l) (replicate (N - n) none), h.used, length-replicate {A = A} (N - n) none)

    pub taken_more : (a : A) → n < N → take (n + 1) (set l n a) ≡ take n l ++ (a ∷ [])
    taken_more a k =
        ap (λ (j : ℕ). take j (set l n a)) (add-one n) ∙ take-suc-set l n a (omega (arith, holds_length (omega arith)))

    set_more : (a : A) → n < N → set l n a ≡ (take n l ++ (a ∷ [])) ++ replicate (N - (n + 1)) none
    set_more a k =
        let r : List A = replicate (N - (n + 1)) none in
        ap (λ (x : List A). set x n a) (h.unused ∙ ap (λ (j : ℕ). take n l ++ replicate j none) (let e : N - n ≡ suc (N - (n + 1)) = omega arith in e))
        ∙ set_at (take n l) none r a n h.used ∙ sym (append_snoc (take n l) a r)

    pub holds_more : (a : A) → n < N → Holds N none (n + 1) (set l n a)
    holds_more a k =
        record {
          used = ap length (taken_more a k) ∙ (let e : length (take n l ++ (a ∷ [])) ≡ n + 1 = omega (arith, length-append (take n l) (a ∷ []), h.used) in e);
          unused = set_more a k ∙ ap (λ (x : List A). x ++ replicate (N - (n + 1)) none) (sym (taken_more a k));
        }

-- the places in use are cleared one by one
module _ {A : Type 0} (none : A) where
  cleared_next : (k : ℕ) (l : List A) → k < length l → set (replicate k none ++ drop k l) k none ≡ replicate (suc k) none ++ drop (suc k) l
  cleared_next zero [] h = absurd (omega arith)
  cleared_next zero (y ∷ l) h = refl
  cleared_next (suc k) [] h = absurd (omega arith)
  cleared_next (suc k) (y ∷ l) h = ap (λ (m : List A). none ∷ m) (cleared_next k l (omega arith))

  pub cleared_more : (k : ℕ) (l : List A) → k < length l → set (replicate k none ++ drop k l) k none ≡ replicate (k + 1) none ++ drop (k + 1) l
  cleared_more k l h = cleared_next k l h ∙ ap (λ (j : ℕ). replicate j none ++ drop j l) (sym (add-one k))

  pub cleared_all : (N n : ℕ) (l : List A) → Holds N none n l → n ≤ N → replicate n none ++ drop n l ≡ replicate N none
  cleared_all N n l h k =
      let r : List A = replicate (N - n) none in
      ap (λ (m : List A). replicate n none ++ m)
      (ap (drop n) h.unused ∙ ap (λ (j : ℕ). drop j (take n l ++ r)) (sym h.used) ∙ drop-append_seam (take n l) r)
      ∙ replicate-append-replicate n (N - n) none ∙ ap (λ (j : ℕ). replicate j none) (let e : n + (N - n) ≡ N = omega arith in e)
