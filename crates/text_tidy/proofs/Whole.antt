-- The bytes of a line kept one by one are the tidy line.
-- Assumes nothing.
use Prim.Native.Nat.{ℕ, suc, ◌+◌, ◌-◌, ◌≤◌, ◌<◌}
use native.Mathlib.Omega.{arith}
use mathlib.Core.Path.{◌≡◌, refl, sym, ap, ◌∙◌}
use mathlib.Core.Bool.{true, false, cond, ◌&&◌}
use mathlib.Core.List.{List, [], ◌∷◌, ◌++◌, append-nil}
use lib.ListN.{length, length-append}
use lib.Seq.{append_snoc, set-append_seam, take_all, take-append-le}
use lib.Dec.{ltb, eqb}
use borrow.Author.Tests.{lt-ltb, le-ltb, ltb-true, ltb-false}
use Rattle.laws.specs.Bits.{zeros}
use Rattle.laws.proofs.Sums.{by_test}
use Rattle.text_tidy.specs.declared.Spot.{Spot}
use Rattle.text_tidy.specs.declared.Spot.TheVariants.{Word, Gap, Comment}
use Rattle.text_tidy.specs.declared.Tidy.{Tidy}
use Rattle.text_tidy.specs.Tidied.{row_of, row_put, is_blank, uncommented, squeezed, tidied, fresh, waits, spaced_for, commented, kept_of, kept_on}

-- a line that has the tidy bytes v
abbrev pub kept : List ℕ → Spot → Tidy
kept v spot = record { row = row_of v; spot = spot }

-- what such a line is once the bytes h have come, too
unfoldable pub with : List ℕ → Spot → List ℕ → List ℕ
with v spot h = v ++ cond (commented spot) [] (squeezed (ltb 0 (length v)) (waits spot) (uncommented h))

pub with_none : (v : List ℕ) (spot : Spot) → with v spot [] ≡ v
unfolding with uncommented squeezed
with_none v Word = append-nil v
with_none v Gap = append-nil v
with_none v Comment = append-nil v

pub with_all : (h : List ℕ) → with [] Word h ≡ tidied h
unfolding with tidied
with_all h = refl

-- ---- a row

-- it has a byte exactly where a byte was kept
some_len : (v : List ℕ) → ltb 0 (row_of v).len ≡ ltb 0 (length v)
unfolding row_of
some_len v =
    by_test (ltb (length v) 192) (λ e. rw e)
    (λ e. let long : 192 ≤ length v = ltb-false (length v) 192 e in rw e (sym (lt-ltb 0 (length v) (omega arith))))

-- one byte more in a row with room, and in a full one
put_room : (v : List ℕ) (b : ℕ) → length v < 192 → row_put (row_of v) b ≡ row_of (v ++ (b ∷ []))
unfolding row_of row_put
put_room v b h =
    let size : length (v ++ (b ∷ [])) ≡ length v + 1 = length-append v (b ∷ []) in
    let room : 192 - length v ≡ suc (191 - length v) = omega arith in
    let rest : 192 - (length v + 1) ≡ 191 - length v = omega arith in
    let len : cond (ltb (length v + 1) 192) (length v + 1) 192 ≡ length v + 1 = by_test (ltb (length v + 1) 192) (λ e. rw e) (λ e. rw e (let full : 192 ≤ length v + 1 = ltb-false (length v + 1) 192 e in omega arith)) in
    rw (lt-ltb (length v) 192 h, lt-ltb (length v) 192 h, take_all 192 v (omega arith), take_all 192 (v ++ (b ∷ [])) (omega arith), size, len, rest, room)
    (rw (set-append_seam v 0 (zeros (191 - length v)) b, append_snoc v b (zeros (191 - length v))))

put_full : (v : List ℕ) (b : ℕ) → 192 ≤ length v → row_put (row_of v) b ≡ row_of (v ++ (b ∷ []))
unfolding row_of row_put
put_full v b h =
    let size : length (v ++ (b ∷ [])) ≡ length v + 1 = length-append v (b ∷ []) in
    let none : 192 - length v ≡ 0 = omega arith in
    let rest : 192 - (length v + 1) ≡ 0 = omega arith in
    rw (le-ltb (length v) 192 h, take-append-le 192 v (b ∷ []) h, size, le-ltb (length v + 1) 192 (omega arith), none, rest)

put_behind : (v : List ℕ) (b : ℕ) → row_put (row_of v) b ≡ row_of (v ++ (b ∷ []))
put_behind v b = by_test (ltb (length v) 192) (λ e. put_room v b (ltb-true (length v) 192 e)) (λ e. put_full v b (ltb-false (length v) 192 e))

-- ---- one byte more

pub record Next (v : List ℕ) (spot : Spot) (b : ℕ) : Type 0 where
  pub bytes : List ℕ
  pub stands : Spot
  pub step : kept_of (kept v spot) b ≡ kept bytes stands
  pub same : (h : List ℕ) → with v spot (b ∷ h) ≡ with bytes stands h

some_behind : (v : List ℕ) (b : ℕ) → ltb 0 (length (v ++ (b ∷ []))) ≡ true
some_behind v b = lt-ltb 0 (length (v ++ (b ∷ []))) (omega (arith, length-append v (b ∷ [])))

module _ (v : List ℕ) (spot : Spot) (b : ℕ) (open_line : commented spot ≡ false) where
  next_hash : eqb b 35 ≡ true → Next v spot b
  unfolding kept_of with uncommented squeezed
  next_hash e = record { bytes = v; stands = Comment; step = rw (open_line, e); same = λ h. rw (open_line, e) }

  module _ (n : eqb b 35 ≡ false) where
    next_blank : is_blank b ≡ true → Next v spot b
    unfolding kept_of with uncommented squeezed
    next_blank e = record { bytes = v; stands = Gap; step = rw (open_line, n, e); same = λ h. rw (open_line, n, e) }

    next_space : is_blank b ≡ false → (waits spot && ltb 0 (length v)) ≡ true → Next v spot b
    unfolding kept_of spaced_for with uncommented squeezed
    next_space e s =
        record {
          bytes = (v ++ (32 ∷ [])) ++ (b ∷ []);
          stands = Word;
          step = rw (open_line, n, e, some_len v, s, put_behind v 32, put_behind (v ++ (32 ∷ [])) b);
          same = λ h. rw (open_line, n, e, s, some_behind (v ++ (32 ∷ [])) b, append_snoc (v ++ (32 ∷ [])) b (squeezed true false (uncommented h)), append_snoc v 32 (b ∷ squeezed true false (uncommented h)));
        }

    next_byte : is_blank b ≡ false → (waits spot && ltb 0 (length v)) ≡ false → Next v spot b
    unfolding kept_of spaced_for with uncommented squeezed
    next_byte e s =
        record {
          bytes = v ++ (b ∷ []);
          stands = Word;
          step = rw (open_line, n, e, some_len v, s, put_behind v b);
          same = λ h. rw (open_line, n, e, s, some_behind v b, append_snoc v b (squeezed true false (uncommented h)));
        }

  next_open : Next v spot b
  next_open =
      by_test (eqb b 35) (λ e. next_hash e)
      (λ n. by_test (is_blank b) (λ e. next_blank n e) (λ e. by_test (waits spot && ltb 0 (length v)) (λ s. next_space n e s) (λ s. next_byte n e s)))

pub next : (v : List ℕ) (spot : Spot) (b : ℕ) → Next v spot b
unfolding kept_of with uncommented squeezed
next v Word b = next_open v Word b refl
next v Gap b = next_open v Gap b refl
next v Comment b = record { bytes = v; stands = Comment; step = refl; same = λ h. refl }

-- ---- all of them

keeps : (l v : List ℕ) (spot : Spot) → (kept_on (kept v spot) l).row ≡ row_of (with v spot l)
unfolding kept_on
keeps [] v spot = ap row_of (sym (with_none v spot))
keeps (b ∷ l) v spot =
    let x : Next v spot b = next v spot b in
    ap (λ (t : Tidy). (kept_on t l).row) x.step ∙ keeps l x.bytes x.stands ∙ ap row_of (sym (x.same l))

-- a line kept byte by byte is the row of the tidy line
pub tidy_line : (l : List ℕ) → (kept_on fresh l).row ≡ row_of (tidied l)
unfolding fresh
tidy_line l = keeps l [] Word ∙ ap row_of (with_all l)
