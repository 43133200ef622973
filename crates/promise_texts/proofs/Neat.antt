-- A stream's own line, and the line for the version, are tidy and hold no newline.
-- Assumes nothing.
use Prim.Native.Nat.{ℕ, ◌≤◌}
use native.Mathlib.Omega.{arith}
use mathlib.Core.Path.{◌≡◌, refl, sym, ap, ◌∙◌}
use mathlib.Core.Bool.{Bool, true, false, cond, ◌&&◌, not, false≢true}
use mathlib.Core.List.{List, [], ◌∷◌, ◌++◌, append_assoc}
use lib.ListN.{length}
use lib.Dec.{leb, eqb}
use borrow.Author.Tests.{leb-true, le-leb, eqb-true, ne_eqb, not-true}
use Rattle.std.specs.List.{list_all}
use Rattle.laws.specs.Lists.{flat}
use Rattle.laws.proofs.Sums.{by_test, and_parts}
use Rattle.rules.specs.declared.Tuple.{Tuple}
use Rattle.rules.specs.declared.Tuple.TheVariants.{Once, Every}
use Rattle.rules.specs.declared.TuplePlace.{TuplePlace}
use Rattle.rules.specs.declared.Stage.{Stage}
use Rattle.rules.specs.declared.Stream.{Stream}
use Rattle.rules.specs.Streams.{stages_of, tuples_of}
use Rattle.ascii.specs.Decimal.{letters, decimal_of, is_digit}
use Rattle.text_line.specs.Lines.{stage_text, tuple_text, place_text, stages_text, limit_text, stream_text, version_text}
use Rattle.text_tidy.specs.Tidied.{is_blank, uncommented, squeezed, tidied}
use Rattle.text_read.specs.Texts.{is_newline, first_line, more_lines}
use Rattle.promise_texts.proofs.Fields.{all_digits, some_digits}

-- a byte of a word: above the space, and no `#`
abbrev solid : ℕ → Bool
solid b = leb 33 b && not (eqb b 35)

-- words with one space between; `space`: a space, or the line's start, stands before
unfoldable neat : Bool → List ℕ → Bool
neat space [] = not space
neat space (b ∷ l) = cond (eqb b 32) (not space && neat true l) (solid b && neat false l)

-- ---- what neat bytes are not

module _ (b : ℕ) (e : solid b ≡ true) where
  above : 33 ≤ b
  above = leb-true 33 b (and_parts (leb 33 b) (not (eqb b 35)) e).0

  no_hash : eqb b 35 ≡ false
  no_hash = not-true (eqb b 35) (and_parts (leb 33 b) (not (eqb b 35)) e).1

  no_blank : is_blank b ≡ false
  no_blank =
      let h : 33 ≤ b = above in
      rw (ne_eqb b 32 (λ z. omega arith), ne_eqb b 9 (λ z. omega arith), ne_eqb b 13 (λ z. omega arith))

  no_newline : is_newline b ≡ false
  no_newline = let h : 33 ≤ b = above in ne_eqb b 10 (λ z. omega arith)

space_hash : (b : ℕ) → eqb b 32 ≡ true → eqb b 35 ≡ false
space_hash b e = let h : b ≡ 32 = eqb-true b 32 e in ne_eqb b 35 (λ z. omega arith)

space_newline : (b : ℕ) → eqb b 32 ≡ true → is_newline b ≡ false
space_newline b e = let h : b ≡ 32 = eqb-true b 32 e in ne_eqb b 10 (λ z. omega arith)

-- ---- neat bytes are tidy

-- behind a byte, with a gap that waits or none
neat_on : (gap : Bool) (l : List ℕ) → neat gap l ≡ true → squeezed true gap (uncommented l) ≡ cond gap (32 ∷ l) l
unfolding neat squeezed uncommented
neat_on true [] e = absurd (false≢true e)
neat_on false [] e = refl
neat_on true (b ∷ l) e =
    by_test (eqb b 32) (λ t. absurd (false≢true (rw t at e)))
    (λ t. let u : (solid b ≡ true) × (neat false l ≡ true) = and_parts (solid b) (neat false l) (rw t at e) in
    rw (no_hash b u.0, no_blank b u.0) (ap (λ (w : List ℕ). 32 ∷ b ∷ w) (neat_on false l u.1)))
neat_on false (b ∷ l) e =
    by_test (eqb b 32)
    (λ t. let s : b ≡ 32 = eqb-true b 32 t in rw (space_hash b t, t) (neat_on true l (rw t at e) ∙ ap (λ (c : ℕ). c ∷ l) (sym s)))
    (λ t. let u : (solid b ≡ true) × (neat false l ≡ true) = and_parts (solid b) (neat false l) (rw t at e) in
    rw (no_hash b u.0, no_blank b u.0) (ap (λ (w : List ℕ). b ∷ w) (neat_on false l u.1)))

neat_tidy : (l : List ℕ) → neat true l ≡ true → tidied l ≡ l
unfolding neat squeezed uncommented tidied
neat_tidy [] e = refl
neat_tidy (b ∷ l) e =
    by_test (eqb b 32) (λ t. absurd (false≢true (rw t at e)))
    (λ t. let u : (solid b ≡ true) × (neat false l ≡ true) = and_parts (solid b) (neat false l) (rw t at e) in
    rw (no_hash b u.0, no_blank b u.0) (ap (λ (w : List ℕ). b ∷ w) (neat_on false l u.1)))

-- ---- neat bytes are one line

neat_line : (space : Bool) (v l : List ℕ) → neat space v ≡ true → first_line (v ++ (10 ∷ l)) ≡ v
unfolding neat first_line
neat_line space [] l e = refl
neat_line space (b ∷ v) l e =
    by_test (eqb b 32)
    (λ t. rw (space_newline b t) (ap (λ (w : List ℕ). b ∷ w) (neat_line true v l (and_parts (not space) (neat true v) (rw t at e)).1)))
    (λ t. let u : (solid b ≡ true) × (neat false v ≡ true) = and_parts (solid b) (neat false v) (rw t at e) in
    rw (no_newline b u.0) (ap (λ (w : List ℕ). b ∷ w) (neat_line false v l u.1)))

neat_lines : (space : Bool) (v l : List ℕ) → neat space v ≡ true → more_lines (v ++ (10 ∷ l)) ≡ first_line l ∷ more_lines l
unfolding neat more_lines
neat_lines space [] l e = refl
neat_lines space (b ∷ v) l e =
    by_test (eqb b 32) (λ t. rw (space_newline b t) (neat_lines true v l (and_parts (not space) (neat true v) (rw t at e)).1))
    (λ t. let u : (solid b ≡ true) × (neat false v ≡ true) = and_parts (solid b) (neat false v) (rw t at e) in
    rw (no_newline b u.0) (neat_lines false v l u.1))

-- ---- a stream's line is neat

solid_digit : (b : ℕ) → is_digit b ≡ true → (eqb b 32 ≡ false) × (solid b ≡ true)
solid_digit b e =
    let h : 48 ≤ b = leb-true 48 b (and_parts (leb 48 b) (leb b 57) e).0 in
    (ne_eqb b 32 (λ z. omega arith), rw (le-leb 33 b (omega arith), ne_eqb b 35 (λ z. omega arith)))

-- digits, and what stands behind them
run : (space : Bool) (v l : List ℕ) → 1 ≤ length v → list_all is_digit v ≡ true → neat space (v ++ l) ≡ neat false l
unfolding neat
run space [] l h e = absurd (let z : 1 ≤ 0 = h in omega arith)
run space (b ∷ []) l h e =
    let u : (eqb b 32 ≡ false) × (solid b ≡ true) = solid_digit b (and_parts (is_digit b) true e).0 in
    rw (u.0, u.1)
run space (b ∷ (c ∷ v)) l h e =
    let w : (is_digit b ≡ true) × (list_all is_digit (c ∷ v) ≡ true) = and_parts (is_digit b) (list_all is_digit (c ∷ v)) e in
    let u : (eqb b 32 ≡ false) × (solid b ≡ true) = solid_digit b w.0 in
    rw (u.0, u.1) (run false (c ∷ v) l (omega arith) w.1)

number : (n : ℕ) (space : Bool) (l : List ℕ) → neat space (decimal_of n ++ l) ≡ neat false l
number n space l = run space (decimal_of n) l (some_digits 19 n) (all_digits 20 n)

tuple_neat : (t : Tuple) (l : List ℕ) → neat false (tuple_text t ++ l) ≡ neat false l
unfolding neat
tuple_neat (Once a) l = number a false l
tuple_neat (Every z a) l = ap (neat true) again ∙ number z true (letters "@" ++ (decimal_of a ++ l)) ∙ number a false l
  where
    again : (decimal_of z ++ letters "@" ++ decimal_of a) ++ l ≡ decimal_of z ++ (letters "@" ++ (decimal_of a ++ l))
    again = append_assoc (decimal_of z ++ letters "@") (decimal_of a) l ∙ append_assoc (decimal_of z) (letters "@") (decimal_of a ++ l)

tuples_neat : (ts : List TuplePlace) → neat false (flat place_text ts) ≡ true
unfolding neat flat
tuples_neat [] = refl
tuples_neat (p ∷ ts) = tuple_neat p.tuple (flat place_text ts) ∙ tuples_neat ts

-- a stage ends with a space
stage_neat : (g : Stage) (l : List ℕ) → neat true (stage_text g ++ l) ≡ neat true l
unfolding neat
stage_neat g l =
    let T : List ℕ = decimal_of g.task in
    let C : List ℕ = decimal_of g.cost in
    let again : stage_text g ++ l ≡ letters "task " ++ (T ++ (letters " cost " ++ (C ++ (letters " " ++ l)))) = simp append_assoc in
    ap (neat true) again
    ∙ number g.task true (letters " cost " ++ (C ++ (letters " " ++ l)))
    ∙ number g.cost true (letters " " ++ l)

stages_neat : (gs : List Stage) (l : List ℕ) → neat true (flat stage_text gs ++ l) ≡ neat true l
unfolding flat
stages_neat [] l = refl
stages_neat (g ∷ gs) l =
    ap (neat true) (append_assoc (stage_text g) (flat stage_text gs) l) ∙ stage_neat g (flat stage_text gs ++ l) ∙ stages_neat gs l

limit_neat : (s : Stream) → neat true (limit_text s) ≡ true
unfolding neat limit_text
limit_neat s =
    ap (neat true) (append_assoc (letters "deadline ") (decimal_of s.deadline) (flat place_text (tuples_of s)))
    ∙ number s.deadline true (flat place_text (tuples_of s))
    ∙ tuples_neat (tuples_of s)

line_neat : (s : Stream) → neat true (stream_text s) ≡ true
unfolding stages_text
line_neat s = stages_neat (stages_of s) (limit_text s) ∙ limit_neat s

version_neat : neat true version_text ≡ true
unfolding neat
version_neat = refl

-- ---- what the others cite

module _ (s : Stream) where
  pub line_tidy : tidied (stream_text s) ≡ stream_text s
  line_tidy = neat_tidy (stream_text s) (line_neat s)

  pub line_first : (l : List ℕ) → first_line (stream_text s ++ (10 ∷ l)) ≡ stream_text s
  line_first l = neat_line true (stream_text s) l (line_neat s)

  pub line_more : (l : List ℕ) → more_lines (stream_text s ++ (10 ∷ l)) ≡ first_line l ∷ more_lines l
  line_more l = neat_lines true (stream_text s) l (line_neat s)

pub version_tidy : tidied version_text ≡ version_text
version_tidy = neat_tidy version_text version_neat

pub version_first : (l : List ℕ) → first_line (version_text ++ (10 ∷ l)) ≡ version_text
version_first l = neat_line true version_text l version_neat

pub version_more : (l : List ℕ) → more_lines (version_text ++ (10 ∷ l)) ≡ first_line l ∷ more_lines l
version_more l = neat_lines true version_text l version_neat
