-- A valid set's own text reads as that set; with a sheet between, text and sheet stay the same.
-- Assumes nothing.
use Prim.Native.Nat.{ℕ, ◌+◌, ◌≤◌}
use native.Mathlib.Omega.{arith}
use mathlib.Core.Path.{◌≡◌, refl, sym, ap, ◌∙◌}
use mathlib.Core.Bool.{true}
use mathlib.Core.Logic.{◌⊎◌, inl, inr, ⊎_elim}
use mathlib.Core.List.{List, [], ◌∷◌, ◌++◌, append-nil}
use lib.ListN.{length, length-append}
use lib.Seq.{append_snoc}
use lib.Dec.{leb, eqb}
use borrow.Author.Tests.{lt-ltb, le-leb, eqb-true, eqb-false}
use Rattle.std.specs.List.{list_all}
use Rattle.laws.specs.Lists.{All, flat}
use Rattle.laws.proofs.Sums.{by_test, and_parts}
use Rattle.laws.proofs.Fields.{all_take}
use Rattle.rules.specs.declared.Stream.{Stream}
use Rattle.rules.specs.declared.Set.{Set}
use Rattle.rules.specs.declared.ReadResult.{ReadResult}
use Rattle.std.specs.Prelude.{Some, Result, Ok}
use Rattle.rules.specs.declared.Refusal.{Refusal}
use Rattle.rules.specs.Streams.{FourPlaces, Placed, streams_of, stream_ok, valid}
use Rattle.rules.specs.Sheet.{set_of, read_of}
use Rattle.rules.specs.Valid.{ValidSet}
use Rattle.rules.proofs.Valid.{valid_stream, valid_set, streams_few}
use Rattle.sheet_carried.proofs.Whole.{Staged, set_holds, whole_set, version_within, set_staged}
use Rattle.sheet_write.proofs.Back.{read_back}
use Rattle.sheet_write.proofs.Rounds.{SheetOf, read_exactly}
use Rattle.text_line.specs.Lines.{stream_text, version_text, most_stages, line_read, longest}
use Rattle.text_line.proofs.Short.{stream_short}
use Rattle.text_line.proofs.Judged.{judged_short}
use Rattle.text_tidy.specs.Tidied.{uncommented, squeezed, tidied}
use Rattle.text_line.specs.declared.Said.TheVariants.{Stream as IsStream}
use Rattle.text_read.specs.declared.BadLine.{BadLine}
use Rattle.text_read.specs.Texts.{first_line, more_lines, line_says, following, lines_read, text_read}
use Rattle.text_print.specs.Listed.{first_text, line_text, text_of}
use Rattle.promise_texts.specs.Returns.{LineReturns, JudgedReturns, TextReturns, TextTells, NoStreams, TextSheetText, SheetTextSheet}
use Rattle.promise_texts.proofs.Lines.{line_returns}
use Rattle.promise_texts.proofs.Neat.{line_tidy, line_first, line_more, version_tidy, version_first, version_more}

-- ---- one stream

line_is : (version : ℕ) (s : Stream) → FourPlaces s → stream_ok s ≡ true → s.depth ≤ most_stages version → line_read version (stream_text s) ≡ Ok (Some (IsStream s))
unfolding LineReturns
line_is = line_returns

-- its line is no longer than a line of the version may be
line_fits : (version : ℕ) (s : Stream) → stream_ok s ≡ true → s.depth ≤ most_stages version → length (stream_text s) ≤ longest version
line_fits version s ok deep =
    by_test (eqb version 1) (λ e. let one : s.depth ≤ 1 = rw e at deep in rw e (omega (arith, stream_short s ok)))
    (λ e. let four : s.depth ≤ 4 = rw e at deep in rw e (omega (arith, stream_short s ok)))

pub judged_returns : JudgedReturns
unfolding JudgedReturns
judged_returns version s four ok deep = judged_short version (stream_text s) (line_fits version s ok deep) ∙ line_is version s four ok deep

says_stream : (version : ℕ) (s : Stream) → FourPlaces s → stream_ok s ≡ true → s.depth ≤ most_stages version → line_says version (tidied (stream_text s)) ≡ Ok (Some (IsStream s))
unfolding line_says
says_stream version s four ok deep =
    rw (line_tidy s, le-leb (length (stream_text s)) (longest version) (line_fits version s ok deep)) (line_is version s four ok deep)

staged_most : (version : ℕ) (s : Stream) → stream_ok s ≡ true → Staged version s → s.depth ≤ most_stages version
staged_most version s ok h =
    by_test (eqb version 1) (λ e. rw e (omega (arith, h (eqb-true version 1 e)))) (λ e. rw e (valid_stream s ok).depth.high)

-- ---- the text of more streams

more_text : (s : Stream) (ss : List Stream) → flat line_text (s ∷ ss) ≡ stream_text s ++ (10 ∷ flat line_text ss)
unfolding flat
more_text s ss = append_snoc (stream_text s) 10 (flat line_text ss)

parts : (s : Stream) (ss : List Stream) → list_all stream_ok (s ∷ ss) ≡ true → (stream_ok s ≡ true) × (list_all stream_ok ss ≡ true)
parts s ss e = and_parts (stream_ok s) (list_all stream_ok ss) e

module _ (version : ℕ) where
  -- the empty line behind the last newline says nothing
  none_read : (rs : List Stream) (n : ℕ) → lines_read version n rs (first_line (flat line_text []) ∷ more_lines (flat line_text [])) ≡ Ok (set_of version (rs ++ []))
  unfolding lines_read first_line more_lines flat tidied squeezed uncommented line_says line_read
  none_read rs n = rw (le-leb 0 (longest version) (omega arith), append-nil rs)

  texts_read : (ss rs : List Stream) (n : ℕ) → All FourPlaces ss → list_all stream_ok ss ≡ true → All (Staged version) ss → length rs + length ss ≤ 16
      → lines_read version n rs (first_line (flat line_text ss) ∷ more_lines (flat line_text ss)) ≡ Ok (set_of version (rs ++ ss))
  unfolding lines_read
  texts_read [] rs n f e g h = none_read rs n
  texts_read (s ∷ ss) rs n f e g h =
      let u : (stream_ok s ≡ true) × (list_all stream_ok ss ≡ true) = parts s ss e in
      let one : length (rs ++ (s ∷ [])) ≡ length rs + 1 = length-append rs (s ∷ []) in
      rw (more_text s ss, line_first s (flat line_text ss), line_more s (flat line_text ss), says_stream version s f.0 u.0 (staged_most version s u.0 g.0), lt-ltb (length rs) 16 (omega arith))
      (texts_read ss (rs ++ (s ∷ [])) (following n) f.1 u.1 g.1 (omega arith) ∙ ap (λ (qs : List Stream). Ok (set_of version qs)) (append_snoc rs s ss))

-- ---- the line for the version

-- `version 2` at the start of a text
version_read : (l : List ℕ) → text_read (version_text ++ (10 ∷ l)) ≡ lines_read 2 2 [] (first_line l ∷ more_lines l)
unfolding text_read lines_read line_says line_read following
version_read l = rw (version_first l, version_more l, version_tidy)

first_read : (version : ℕ) (l : List ℕ) → (version ≡ 1) ⊎ (version ≡ 2) → (r : Result Set BadLine) → ((n : ℕ) → lines_read version n [] (first_line l ∷ more_lines l) ≡ r) → text_read (first_text version ++ l) ≡ r
unfolding text_read
first_read version l h r on =
    ⊎_elim (λ (e : version ≡ 1). ap (λ (v : ℕ). text_read (first_text v ++ l)) e ∙ (rw e at (on 1)))
    (λ (e : version ≡ 2). ap (λ (v : ℕ). text_read (first_text v ++ l)) e ∙ version_read l ∙ (rw e at (on 2))) h

-- ---- a whole text

used : (x : Set) → valid x ≡ true → list_all stream_ok (streams_of x) ≡ true
unfolding valid
used x e = (and_parts (list_all stream_ok (streams_of x)) _ (and_parts (leb x.count 16) _ e).1).0

one_or_two : (n : ℕ) → 1 ≤ n → n ≤ 2 → (n ≡ 1) ⊎ (n ≡ 2)
one_or_two n h k = by_test (eqb n 1) (λ e. inl (eqb-true n 1 e)) (λ e. inr (omega (arith, eqb-false n 1 e)))

pub text_returns : TextReturns
unfolding TextReturns text_of
text_returns x placed ok =
    let v : ValidSet x = valid_set x ok in
    let w : (1 ≤ x.version) × (x.version ≤ 2) = version_within x v in
    first_read x.version (flat line_text (streams_of x)) (one_or_two x.version w.0 w.1) (Ok x)
    (λ n. texts_read x.version (streams_of x) [] n (all_take FourPlaces x.count x.streams placed.four) (used x ok) (set_staged x v) (omega (arith, streams_few x v))
    ∙ ap (λ (y : Set). Ok y) (whole_set x (set_holds x v placed)))

returns : (x : Set) → Placed x → valid x ≡ true → text_read (text_of x) ≡ Ok x
unfolding TextReturns
returns = text_returns

pub text_tells : TextTells
unfolding TextTells
text_tells x y p v q w e =
    let same : ◌≡◌ {A = Result Set BadLine} (Ok x) (Ok y) = sym (returns x p v) ∙ ap text_read e ∙ returns y q w in
    cc

pub no_streams_lem : NoStreams
unfolding text_read lines_read first_line more_lines tidied squeezed uncommented line_says line_read
no_streams_lem = record { first = refl; second = refl }

-- ---- a sheet between

pub text_sheet_text : TextSheetText
unfolding TextSheetText
text_sheet_text x placed ok = (x, (returns x placed ok, ap (λ (r : ReadResult). text_of r.set) (read_back x ok placed)))

pub sheet_text_sheet : SheetTextSheet
unfolding SheetTextSheet
sheet_text_sheet s bytes e =
    let x : SheetOf s (read_of s).set = read_exactly s (read_of s).set bytes (ap (λ (a : Result (Unit {0}) Refusal). record { answer = a; set = (read_of s).set }) e) in
    ((read_of s).set, (returns (read_of s).set x.placed x.ok, x.sheet))
