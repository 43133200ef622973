-- The set's sheet on a page: what was written, and the whole buffer in hex.
-- Assumes nothing.
use Prim.Native.Nat.{ℕ, ◌≤◌, ◌<◌}
use native.Mathlib.Omega.{arith}
use mathlib.Core.Path.{◌≡◌, ap, ◌∙◌}
use mathlib.Core.Bool.{true}
use mathlib.Core.List.{List, [], ◌∷◌}
use lib.ListN.{length, take, drop, replicate, length-append, length-drop, length-replicate}
use lib.Dec.{leb}
use borrow.Author.Tests.{le-leb, lt-leb, leb-true}
use Rattle.laws.proofs.Sums.{by_test}
use Rattle.rules.specs.declared.Set.{Set}
use Rattle.std.specs.Prelude.{Result}
use Rattle.rules.specs.declared.Refusal.{Refusal}
use Rattle.rules.specs.Numbers.{write_says}
use Rattle.rules.specs.Streams.{valid}
use Rattle.rules.specs.Sheet.{sheet_of, write_of, buffer_of}
use Rattle.line.specs.declared.Line.{Line}
use Rattle.ascii.specs.Decimal.{letters}
use Rattle.ascii.specs.Hex.{hexed}
use Rattle.line.specs.Line.{line_room, holding}
use Rattle.answer_words.specs.Words.{says, line_of}
use Rattle.answer_words.proofs.Lengths.{says_short, line_short}
use Rattle.page.specs.Pages.{room_for, Onto, appended, end_of}
use Rattle.console_names.specs.Rows.{most_bytes}
use Rattle.console_ask.specs.Questions.{sheet_lines, write_lines, answer_room}
use Rattle.page.proofs.Pieces.{onto_line}
use Rattle.page_hex.proofs.Prints.{twice}
use Rattle.page_hex.proofs.Buffers.{hex_lines_onto, take_fill}

module _ (x : Set) (buf out : List ℕ) (at : ℕ) (small : length buf ≤ most_bytes) (room : room_for out at answer_room ≡ true) where
  abbrev wrote_line : List ℕ
  wrote_line = line_of (says (write_says (write_of x (length buf))))

  wrote_short : length wrote_line ≤ line_room
  wrote_short = line_short (says (write_says (write_of x (length buf)))) (says_short (write_says (write_of x (length buf))))

  pub sheet_onto : (w : Result ℕ Refusal) (buf' : List ℕ) (k l : Line) (a b end : ℕ) (o p page : List ℕ)
      → (w ≡ write_of x (length buf)) × (buf' ≡ buffer_of x buf) → length buf' ≡ length buf
      → k ≡ holding (line_of (says (write_says w))) → (a ≡ end_of out at k) × (o ≡ appended out at k)
      → Onto o a (hexed buf') b p → l ≡ holding (line_of []) → (end ≡ end_of p b l) × (page ≡ appended p b l)
      → Onto out at (sheet_lines x buf) end page
  unfolding sheet_lines
  sheet_onto w buf' k l a b end o p page e size f g q h i =
      hex_lines_onto wrote_line (buffer_of x buf) out at answer_room room wrote_short
      (omega (arith, wrote_short, ap length e.1, size)) k l a b end o p page
      (f ∙ ap (λ (v : Result ℕ Refusal). holding (line_of (says (write_says v)))) e.0) g (rw e.1 at q) h i

-- the buffer keeps its length
buffer_kept : (x : Set) (buf : List ℕ) → length (buffer_of x buf) ≡ length buf
unfolding buffer_of write_of
buffer_kept x buf =
    by_test (valid x)
    (λ v.
    by_test (leb (length (sheet_of x)) (length buf))
    (λ f.
    rw (v, f)
    (let fits : length (sheet_of x) ≤ length buf = leb-true (length (sheet_of x)) (length buf) f in
    omega (arith, length-append (sheet_of x) (drop (length (sheet_of x)) buf), length-drop (length (sheet_of x)) buf)))
    (λ f. rw (v, f)))
    (λ v. rw v)

sheet_short : (x : Set) (buf : List ℕ) → length buf ≤ most_bytes → length (sheet_lines x buf) ≤ 2304
unfolding sheet_lines
sheet_short x buf h =
    omega (
      arith,
      length-append (line_of (says (write_says (write_of x (length buf))))) (line_of (hexed (buffer_of x buf))),
      length-append (hexed (buffer_of x buf)) (10 ∷ []),
      line_short (says (write_says (write_of x (length buf)))) (says_short (write_says (write_of x (length buf)))),
      twice (buffer_of x buf),
      buffer_kept x buf,
    )

pub write_short : (x : Set) (n : ℕ) → length (write_lines x n) ≤ answer_room
unfolding write_lines
write_short x n =
    by_test (leb n most_bytes)
    (λ e.
    rw e
    (let few : length (replicate {A = ℕ} n 170) ≤ most_bytes = omega (arith, leb-true n most_bytes e, length-replicate {A = ℕ} n 170) in
    omega (arith, sheet_short x (replicate n 170) few)))
    (λ e. rw e (omega arith))

-- ---- the first n bytes of the longest buffer

module _ (x : Set) (n : ℕ) (out : List ℕ) (at end : ℕ) (page : List ℕ) where
  pub too_long : (l : Line) → most_bytes < n → l ≡ holding (line_of (letters "?")) → (end ≡ end_of out at l) × (page ≡ appended out at l)
      → Onto out at (write_lines x n) end page
  unfolding write_lines
  too_long l h e p = rw (lt-leb n most_bytes h) (onto_line out (line_of (letters "?")) at l end page (omega arith) e p)

  pub write_onto : (buf part : List ℕ) → buf ≡ replicate most_bytes 170 → part ≡ take n buf → n ≤ most_bytes
      → Onto out at (sheet_lines x part) end page → Onto out at (write_lines x n) end page
  unfolding write_lines
  write_onto buf part e f h p =
      let filled : part ≡ replicate n 170 = f ∙ ap (λ (v : List ℕ). take n v) e ∙ take_fill n most_bytes 170 h in
      rw (le-leb n most_bytes h) (rw filled at p)

pub buffer_size : (buf : List ℕ) → buf ≡ replicate most_bytes 170 → length buf ≡ most_bytes
buffer_size buf e = ap length e ∙ length-replicate {A = ℕ} most_bytes 170
