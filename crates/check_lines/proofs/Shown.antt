-- The lines of a check, one behind the other on a page.
-- Assumes nothing.
use Prim.Native.Nat.{ℕ, zero, suc, ◌+◌, ◌*◌, ◌≤◌, ◌<◌}
use native.Mathlib.Omega.{arith}
use native.Mathlib.Numerals.{add-one}
use mathlib.Core.Path.{◌≡◌, refl, sym, ap, ap₂, subst, ◌∙◌}
use mathlib.Core.Bool.{Bool, true, false, cond}
use mathlib.Core.List.{List, [], ◌∷◌, ◌++◌, append_assoc, append-nil}
use lib.ListN.{length, length-append}
use lib.Dec.{leb, eqb}
use native.Mathlib.Decide.{dec_lt}
use borrow.Author.Tests.{le-leb, lt-leb, eq-eqb, ne_eqb}
use Rattle.std.specs.Prelude.{Option, Some, None}
use Rattle.laws.specs.Lists.{flat}
use Rattle.rules.specs.declared.Set.{Set}
use Rattle.rules.specs.declared.Verdict.{Verdict}
use Rattle.rules.specs.declared.Verdict.TheVariants.{Accept, Late, Overload, Refused}
use Rattle.rules.specs.Numbers.{verdict_says}
use Rattle.ascii.specs.Decimal.{letters, decimal_of, spaced}
use Rattle.line.specs.declared.Line.{Line}
use Rattle.line.specs.Line.{line_room, holding}
use Rattle.answer_words.specs.Words.{says, line_of}
use Rattle.answer_words.proofs.Lengths.{one, says_short, line_short}
use Rattle.page.specs.Pages.{room_for, Onto, appended, end_of}
use Rattle.page.proofs.Pieces.{onto_line, onto_none, onto_room, onto_then, onto_size}
use Rattle.page.proofs.Rooms.{room_for_lem}
use Rattle.load_parts.specs.declared.Part.{Part}
use Rattle.load_parts.specs.declared.Part.TheVariants.{Due, Blocks}
use Rattle.load_parts.specs.Parts.{stream_part, task_part, first_of, parts_of}
use Rattle.check_lines.specs.Told.{progress_words, due_words, block_words, part_line, sixteen_room, parts_room, shown_room, first_lines, part_lines, LinesOfParts, made_of, shown_of}

-- ---- one line

-- two words with a number each
pub two_words : (v w : List ℕ) (a b : ℕ) → length v + length w ≤ 53 → length (v ++ spaced (decimal_of a) ++ (w ++ spaced (decimal_of b))) ≤ 95
two_words v w a b h = omega (arith, length-append (v ++ spaced (decimal_of a)) (w ++ spaced (decimal_of b)), one v a, one w b)

pub due_words_lem : (k c e : ℕ) → length (due_words k c e) ≤ 95
due_words_lem k c e =
    omega (
      arith,
      length-append (letters "stream" ++ spaced (decimal_of k) ++ (letters " cost" ++ spaced (decimal_of c))) (letters " times" ++ spaced (decimal_of e)),
      length-append (letters "stream" ++ spaced (decimal_of k)) (letters " cost" ++ spaced (decimal_of c)),
      one (letters "stream") k,
      one (letters " cost") c,
      one (letters " times") e,
    )

pub part_short : (p : Option Part) → length (part_line p) ≤ line_room
part_short None = omega arith
part_short (Some (Due k c e)) = line_short (due_words k c e) (due_words_lem k c e)
part_short (Some (Blocks t b)) = line_short (block_words t b) (two_words (letters "task") (letters " blocked by") t b (omega arith))

pub progress_short : (k n : ℕ) → length (progress_words k n) ≤ 95
progress_short k n = two_words (letters "tested") (letters " of") k n (omega arith)

pub block_short : (t b : ℕ) → length (block_words t b) ≤ 95
block_short t b = two_words (letters "task") (letters " blocked by") t b (omega arith)

-- ---- the lines of the first parts stand on the page

pub record Showing (f : ℕ → Option Part) (out₀ : List ℕ) (at : ℕ) (out : List ℕ) (end k : ℕ) : Type 0 where
  pub few : k ≤ 16
  pub low : length (first_lines f k) ≤ k * 128
  pub onto : Onto out₀ at (first_lines f k) end out

pub show_start : (f : ℕ → Option Part) (out : List ℕ) (at : ℕ) → Showing f out at out at 0
unfolding first_lines
show_start f out at = record { few = omega arith; low = omega arith; onto = onto_none out at }

pub show_turn : (f : ℕ → Option Part) (out₀ : List ℕ) (at : ℕ) (out : List ℕ) (end k : ℕ) (p : Option Part) (l : Line) (end' : ℕ) (out' : List ℕ)
    → Showing f out₀ at out end k → room_for out₀ at sixteen_room ≡ true → k < 16 → p ≡ f k → l ≡ holding (part_line p)
    → (end' ≡ end_of out end l) × (out' ≡ appended out end l) → Showing f out₀ at out' end' (k + 1)
unfolding first_lines
show_turn f out₀ at out end k p l end' out' s room h e g q =
    let w : List ℕ = part_line (f k) in
    let short : length w ≤ 128 = part_short (f k) in
    let line : Onto out end w end' out' = onto_line out w end l end' out' short (g ∙ ap (λ (y : Option Part). holding (part_line y)) e) q in
    let both : Onto out₀ at (first_lines f k ++ w) end' out' = onto_then out₀ (first_lines f k) at sixteen_room end out room s.onto w end' out' (omega (arith, s.low)) line in
    let more : length (first_lines f k ++ w) ≤ (k + 1) * 128 = omega (arith, length-append (first_lines f k) w, s.low) in
    record {
      few = omega arith;
      low = subst (λ (n : ℕ). length (first_lines f n) ≤ (k + 1) * 128) (sym (add-one k)) more;
      onto = subst (λ (n : ℕ). Onto out₀ at (first_lines f n) end' out') (sym (add-one k)) both;
    }

pub show_size : (f : ℕ → Option Part) (out₀ : List ℕ) (at : ℕ) (out : List ℕ) (end k : ℕ) → Showing f out₀ at out end k → length out ≡ length out₀
show_size f out₀ at out end k s = onto_size out₀ (first_lines f k) at end out s.onto

pub show_end : (f : ℕ → Option Part) (out₀ : List ℕ) (at : ℕ) (out : List ℕ) (end k : ℕ) → Showing f out₀ at out end k → 16 ≤ k → Onto out₀ at (first_lines f 16) end out
show_end f out₀ at out end k s h = subst (λ (n : ℕ). Onto out₀ at (first_lines f n) end out) (let e : k ≡ 16 = omega (arith, s.few) in e) s.onto

-- the same parts have the same lines
pub lines_same : (f g : ℕ → Option Part) (n : ℕ) → ((k : ℕ) → k < n → f k ≡ g k) → first_lines f n ≡ first_lines g n
unfolding first_lines
lines_same f g zero e = refl
lines_same f g (suc n) e = ap₂ ◌++◌ (lines_same f g n (λ k h. e k (omega arith))) (ap part_line (e n (omega arith)))

pub lines_onto : (f g : ℕ → Option Part) (out₀ : List ℕ) (at : ℕ) (end : ℕ) (out : List ℕ) → ((k : ℕ) → k < 16 → f k ≡ g k) → Onto out₀ at (first_lines f 16) end out
    → Onto out₀ at (first_lines g 16) end out
lines_onto f g out₀ at end out e o = subst (λ (w : List ℕ). Onto out₀ at w end out) (lines_same f g 16 e) o

-- f, with p at k
abbrev pub with_part : (ℕ → Option Part) → ℕ → Option Part → ℕ → Option Part
with_part f k p j = cond (eqb j k) p (f j)

pub with_same : (f : ℕ → Option Part) (k : ℕ) (p : Option Part) → with_part f k p k ≡ p
with_same f k p = rw (eq-eqb k k refl)

pub with_other : (f : ℕ → Option Part) (k : ℕ) (p : Option Part) (j : ℕ) → j < k → with_part f k p j ≡ f j
with_other f k p j h = rw (ne_eqb j k (apart h))
  where
    apart : j < k → j ≡ k → ⊥
    apart h e = omega arith

-- what is true of each number below k and its part is true below k + 1
pub parts_more : (P : ℕ → Option Part → Type 0) (f : ℕ → Option Part) (k : ℕ) (p : Option Part) → ((j : ℕ) → j < k → P j (f j)) → P k p
    → (j : ℕ) → j < k + 1 → P j (with_part f k p j)
parts_more P f k p old new j h =
    elim (dec_lt j k) [
      | yes y ↦ subst (P j) (sym (with_other f k p j y)) (old j y)
      | no g ↦ subst (λ (n : ℕ). P n (with_part f k p n)) (same g) (subst (P k) (sym (with_same f k p)) new)
    ]
  where
    same : ¬ (j < k) → k ≡ j
    same g = omega arith

pub showing_same : (f g : ℕ → Option Part) (out₀ : List ℕ) (at : ℕ) (out : List ℕ) (end k : ℕ) → ((j : ℕ) → j < k → f j ≡ g j) → Showing f out₀ at out end k → Showing g out₀ at out end k
showing_same f g out₀ at out end k e s =
    let same : first_lines f k ≡ first_lines g k = lines_same f g k e in
    record {
      few = s.few;
      low = subst (λ (w : List ℕ). length w ≤ k * 128) same s.low;
      onto = subst (λ (w : List ℕ). Onto out₀ at w end out) same s.onto;
    }

lines_low : (f : ℕ → Option Part) (k : ℕ) → length (first_lines f k) ≤ k * 128
unfolding first_lines
lines_low f zero = omega arith
lines_low f (suc k) = omega (arith, length-append (first_lines f k) (part_line (f k)), lines_low f k, part_short (f k))

-- the tasks behind the streams
module _ (x : Set) (i : ℕ) (out : List ℕ) (at end : ℕ) (page : List ℕ) (room : room_for out at parts_room ≡ true) (p : Onto out at (first_lines (stream_part x i) 16) end page) where
  pub room_behind : room_for page end sixteen_room ≡ true
  room_behind = onto_room out (first_lines (stream_part x i) 16) at parts_room end page room p sixteen_room (omega (arith, lines_low (stream_part x i) 16))

  pub both_onto : (end' : ℕ) (page' : List ℕ) → Onto page end (first_lines (task_part x i) 16) end' page' → Onto out at (part_lines x i) end' page'
  unfolding part_lines
  both_onto end' page' q =
      onto_then out (first_lines (stream_part x i) 16) at parts_room end page room p (first_lines (task_part x i) 16) end' page'
      (omega (arith, lines_low (stream_part x i) 16, lines_low (task_part x i) 16)) q

-- ---- the verdict, and what it is made of

parts_low : (x : Set) (i : ℕ) → length (part_lines x i) ≤ 4096
unfolding part_lines
parts_low x i = omega (arith, length-append (first_lines (stream_part x i) 16) (first_lines (task_part x i) 16), lines_low (stream_part x i) 16, lines_low (task_part x i) 16)

module _ (x : Set) {v : Verdict} (i w : ℕ) (e : v ≡ Late i w) (out : List ℕ) (at : ℕ) where
  pub made_late : i ≤ 4294967295 → (end : ℕ) (page : List ℕ) → Onto out at (part_lines x i) end page → Onto out at (made_of x v) end page
  made_late h end page p = rw (e, le-leb i 4294967295 h) p

  pub made_long : 4294967295 < i → Onto out at (made_of x v) at out
  made_long h = rw (e, lt-leb i 4294967295 h) (onto_none out at)

pub made_low : (x : Set) (v : Verdict) → length (made_of x v) ≤ 4096
made_low x Accept = omega arith
made_low x (Late i w) = go (leb i 4294967295)
  where
    go : (b : Bool) → length (cond b (part_lines x i) []) ≤ 4096
    go true = parts_low x i
    go false = omega arith
made_low x Overload = omega arith
made_low x (Refused why) = omega arith

-- the line of the verdict stands at the front of a page with room
module _ (x : Set) (v : Verdict) (out : List ℕ) (l : Line) (end : ℕ) (page : List ℕ) (h : shown_room ≤ length out) (g : l ≡ holding (line_of (says (verdict_says v))))
    (q : (end ≡ end_of out 0 l) × (page ≡ appended out 0 l)) where
  room : room_for out 0 shown_room ≡ true
  room = room_for_lem out 0 shown_room (omega arith) (omega arith)

  short : length (line_of (says (verdict_says v))) ≤ 128
  short = line_short (says (verdict_says v)) (says_short (verdict_says v))

  first_line_lem : Onto out 0 (line_of (says (verdict_says v))) end page
  first_line_lem = onto_line out (line_of (says (verdict_says v))) 0 l end page short g q

  pub room_for_parts : room_for page end parts_room ≡ true
  room_for_parts = onto_room out (line_of (says (verdict_says v))) 0 shown_room end page room first_line_lem parts_room (omega (arith, short))

  pub all_onto : (end' : ℕ) (page' : List ℕ) → Onto page end (made_of x v) end' page' → Onto out 0 (shown_of x v out) end' page'
  unfolding shown_of
  all_onto end' page' p =
      rw (le-leb shown_room (length out) h)
      (onto_then out (line_of (says (verdict_says v))) 0 shown_room end page room first_line_lem (made_of x v) end' page' (omega (arith, short, made_low x v)) p)

pub no_room_for_all : (x : Set) (v : Verdict) (out : List ℕ) → length out < shown_room → Onto out 0 (shown_of x v out) 0 out
unfolding shown_of
no_room_for_all x v out h = rw (lt-leb shown_room (length out) h) (onto_none out 0)

-- ---- the lines are those of the parts of a demand

flat_append : (ps qs : List (Option Part)) → flat part_line (ps ++ qs) ≡ flat part_line ps ++ flat part_line qs
unfolding flat
flat_append [] qs = refl
flat_append (p ∷ ps) qs = ap (λ (w : List ℕ). part_line p ++ w) (flat_append ps qs) ∙ sym (append_assoc (part_line p) (flat part_line ps) (flat part_line qs))

lines_first : (f : ℕ → Option Part) (n : ℕ) → first_lines f n ≡ flat part_line (first_of f n)
unfolding first_lines first_of flat
lines_first f zero = refl
lines_first f (suc n) =
    ap₂ ◌++◌ (lines_first f n) (sym (append-nil (part_line (f n)))) ∙ sym (flat_append (first_of f n) (f n ∷ []))

pub lines_of_parts : LinesOfParts
unfolding part_lines parts_of
lines_of_parts x i =
    ap₂ ◌++◌ (lines_first (stream_part x i) 16) (lines_first (task_part x i) 16) ∙ sym (flat_append (first_of (stream_part x i) 16) (first_of (task_part x i) 16))
