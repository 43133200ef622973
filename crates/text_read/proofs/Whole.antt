-- A text fed in pieces reads as the whole text does.
-- Assumes nothing.
use Prim.Native.Nat.{ℕ, suc, ◌+◌, ◌-◌, ◌<◌}
use native.Mathlib.Omega.{arith}
use mathlib.Core.Path.{◌≡◌, refl, sym, ap, ◌∙◌}
use mathlib.Core.Bool.{true, false, cond}
use mathlib.Core.List.{List, [], ◌∷◌, ◌++◌}
use lib.ListN.{length, set, length-append}
use lib.Seq.{set-append_seam, append_snoc}
use lib.Dec.{ltb, leb}
use borrow.Author.Tests.{ltb-true, leb-true, leb-false}
use Rattle.laws.proofs.Sums.{by_test}
use Rattle.rules.specs.declared.Stream.{Stream}
use Rattle.rules.specs.Sheet.{set_of}
use Rattle.text_line.specs.declared.Fault.{Fault}
use Rattle.text_line.specs.declared.Fault.TheVariants.{LateVersion, ManyStreams}
use Rattle.std.specs.Prelude.{Option, Some, None, Result, Ok, Err}
use Rattle.rules.specs.declared.Set.{Set}
use Rattle.text_line.specs.declared.Said.{Said}
use Rattle.text_line.specs.declared.Said.TheVariants.{Stream as IsStream, Version}
use Rattle.text_line.specs.Lines.{leads, judged, longest}
use Rattle.text_line.proofs.Judged.{judged_short, judged_long}
use Rattle.text_tidy.specs.declared.Spot.{Spot}
use Rattle.text_tidy.specs.declared.Spot.TheVariants.{Word}
use Rattle.text_tidy.specs.declared.Tidy.{Tidy}
use Rattle.text_tidy.specs.Tidied.{row_of, fresh, kept_of}
use Rattle.text_tidy.proofs.Whole.{kept, with, with_none, with_all, Next, next}
use Rattle.text_read.specs.declared.BadLine.{BadLine}
use Rattle.text_read.specs.declared.Draft.{Draft}
use Rattle.text_read.specs.Texts.{is_newline, first_line, more_lines, line_says, by_said, untold, following, is_bad, lines_read, text_read, onward, with_stream, with_version, line_ended, start_of, step_of, feed_of, close_of, begun, stepped, fed, closed}

-- what leads on twice
pub leads_twice : {A B C E : Type 0} (r : Result A E) (f : A → Result B E) (g : B → Result C E) → leads (leads r f) g ≡ leads r (λ x. leads (f x) g)
unfolding leads
leads_twice (Ok x) f g = refl
leads_twice (Err why) f g = refl

-- pieces: a text may be cut anywhere
pub cut_anywhere : (d : Draft) (v w : List ℕ) → feed_of d (v ++ w) ≡ leads (feed_of d v) (λ e. feed_of e w)
unfolding feed_of leads
cut_anywhere d [] w = refl
cut_anywhere d (b ∷ v) w = on (step_of d b) (λ e. cut_anywhere e v w)
  where
    on : (r : Result Draft BadLine) → ((e : Draft) → feed_of e (v ++ w) ≡ leads (feed_of e v) (λ x. feed_of x w))
        → leads r (λ e. feed_of e (v ++ w)) ≡ leads (leads r (λ e. feed_of e v)) (λ e. feed_of e w)
    on (Ok e) f = f e
    on (Err why) f = refl

-- what a line says, from the row that keeps its bytes
says : (version : ℕ) (v : List ℕ) → judged version (row_of v) ≡ line_says version v
unfolding line_says
says version v =
    by_test (leb (length v) (longest version)) (λ e. rw e (judged_short version v (leb-true (length v) (longest version) e)))
    (λ e. rw e (judged_long version v (leb-false (length v) (longest version) e)))

-- one stream more in a set
set_more : (version : ℕ) (ss : List Stream) (s : Stream) → length ss < 16
    → record { count = length ss + 1; streams = set (set_of version ss).streams (length ss) s; version = version } ≡ set_of version (ss ++ (s ∷ []))
set_more version ss s h =
    let room : 16 - length ss ≡ suc (15 - length ss) = omega arith in
    let rest : 16 - length (ss ++ (s ∷ [])) ≡ 15 - length ss = omega (arith, length-append ss (s ∷ [])) in
    let size : length (ss ++ (s ∷ [])) ≡ length ss + 1 = length-append ss (s ∷ []) in
    rw (rest, size, room, set-append_seam, append_snoc)

-- a text so far: the version, the line number n, the streams ss, and the line
abbrev drafted : ℕ → ℕ → List Stream → Tidy → Draft
drafted version n ss t = record { set = set_of version ss; number = n; tidy = t }

-- a line that ends: what comes after it decides
told : ℕ → ℕ → List Stream → Result (Option Said) Fault → List (List ℕ) → Result Set BadLine
told version n ss r ls =
    by_said r (λ s. cond (ltb (length ss) 16) (lines_read version (following n) (ss ++ (s ∷ [])) ls) (is_bad n ManyStreams))
    (cond (untold version (length ss)) (lines_read 2 (following n) ss ls) (is_bad n LateVersion)) (lines_read version (following n) ss ls)
    (λ why. is_bad n why)

module _ (f : Draft → Result Set BadLine) (ls : List (List ℕ)) (version n : ℕ) (ss : List Stream) (t : Tidy)
    (on : (u m : ℕ) (rs : List Stream) → f (drafted u m rs fresh) ≡ lines_read u m rs ls) where
  ends_as : (w : Result (Option Said) Fault)
      → leads (by_said w (λ s. with_stream (set_of version ss) n s) (with_version (set_of version ss) n) (Ok (onward (set_of version ss) n)) (λ why. is_bad n why)) f
      ≡ told version n ss w ls
  unfolding with_stream with_version onward leads told
  ends_as (Ok (Some (IsStream s))) =
      by_test (ltb (length ss) 16)
      (λ e. rw (e, set_more version ss s (ltb-true (length ss) 16 e)) (on version (following n) (ss ++ (s ∷ []))))
      (λ e. rw e)
  ends_as (Ok (Some Version)) = by_test (untold version (length ss)) (λ e. rw e (on 2 (following n) ss)) (λ e. rw e)
  ends_as (Ok None) = on version (following n) ss
  ends_as (Err why) = refl

  ends : (v : List ℕ) → t.row ≡ row_of v → leads (line_ended (drafted version n ss t)) f ≡ told version n ss (line_says version v) ls
  unfolding line_ended
  ends v e = rw (e, says version v) (ends_as (line_says version v))

-- what a text that goes on so reads as
reads : Draft → List ℕ → Result Set BadLine
reads d l = leads (feed_of d l) (λ e. close_of e)

finish : Draft → Result Set BadLine
finish d = Ok d.set

fresh_line : (l : List ℕ) (u m : ℕ) (rs : List Stream)
    → reads (drafted u m rs (kept [] Word)) l ≡ told u m rs (line_says u (with [] Word (first_line l))) (more_lines l)
    → reads (drafted u m rs fresh) l ≡ lines_read u m rs (first_line l ∷ more_lines l)
unfolding fresh told lines_read
fresh_line l u m rs e = e ∙ ap (λ (w : List ℕ). told u m rs (line_says u w) (more_lines l)) (with_all (first_line l))

-- a byte
module _ (version n : ℕ) (ss : List Stream) (t : Tidy) where
  at_newline : (b : ℕ) (l : List ℕ) → is_newline b ≡ true → reads (drafted version n ss t) (b ∷ l) ≡ leads (line_ended (drafted version n ss t)) (λ e. reads e l)
  unfolding reads feed_of step_of
  at_newline b l e = rw e (leads_twice (line_ended (drafted version n ss t)) (λ d. feed_of d l) (λ d. close_of d))

  at_byte : (b : ℕ) (l : List ℕ) → is_newline b ≡ false → reads (drafted version n ss t) (b ∷ l) ≡ reads (drafted version n ss (kept_of t b)) l
  unfolding reads feed_of step_of leads
  at_byte b l e = rw e

  at_end : reads (drafted version n ss t) [] ≡ leads (line_ended (drafted version n ss t)) finish
  unfolding reads feed_of close_of step_of leads finish
  at_end = refl

-- the lines of the bytes that come
module _ (u n : ℕ) (ss : List Stream) (v : List ℕ) (spot : Spot) (b : ℕ) (l : List ℕ) where
  lines_newline : is_newline b ≡ true
      → told u n ss (line_says u (with v spot (first_line (b ∷ l)))) (more_lines (b ∷ l)) ≡ told u n ss (line_says u v) (first_line l ∷ more_lines l)
  unfolding first_line more_lines
  lines_newline e = rw (e, with_none v spot)

  lines_byte : is_newline b ≡ false
      → told u n ss (line_says u (with v spot (first_line (b ∷ l)))) (more_lines (b ∷ l)) ≡ told u n ss (line_says u (with v spot (b ∷ first_line l))) (more_lines l)
  unfolding first_line more_lines
  lines_byte e = rw e

lines_none : (u n : ℕ) (ss : List Stream) (v : List ℕ) (spot : Spot)
    → told u n ss (line_says u (with v spot (first_line []))) (more_lines []) ≡ told u n ss (line_says u v) []
unfolding first_line more_lines
lines_none u n ss v spot = rw (with_none v spot)

end_fine : (u m : ℕ) (rs : List Stream) → finish (drafted u m rs fresh) ≡ lines_read u m rs []
unfolding finish lines_read
end_fine u m rs = refl

feeds : (l : List ℕ) (u n : ℕ) (ss : List Stream) (v : List ℕ) (spot : Spot)
    → reads (drafted u n ss (kept v spot)) l ≡ told u n ss (line_says u (with v spot (first_line l))) (more_lines l)
feeds [] u n ss v spot =
    at_end u n ss (kept v spot) ∙ ends finish [] u n ss (kept v spot) end_fine v refl ∙ sym (lines_none u n ss v spot)
feeds (b ∷ l) u n ss v spot =
    by_test (is_newline b)
    (λ e. at_newline u n ss (kept v spot) b l e
    ∙ ends (λ d. reads d l) (first_line l ∷ more_lines l) u n ss (kept v spot) (λ w m rs. fresh_line l w m rs (feeds l w m rs [] Word)) v refl
    ∙ sym (lines_newline u n ss v spot b l e))
    (λ e. let x : Next v spot b = next v spot b in
    at_byte u n ss (kept v spot) b l e
    ∙ ap (λ (t : Tidy). reads (drafted u n ss t) l) x.step
    ∙ feeds l u n ss x.bytes x.stands
    ∙ ap (λ (w : List ℕ). told u n ss (line_says u w) (more_lines l)) (sym (x.same (first_line l)))
    ∙ sym (lines_byte u n ss v spot b l e))

-- however it was cut, a text reads as the whole of it does
pub whole : (l : List ℕ) → leads (feed_of start_of l) (λ d. close_of d) ≡ text_read l
unfolding start_of text_read reads
whole l = fresh_line l 1 1 [] (feeds l 1 1 [] [] Word)

-- the whole of it: a bad line before its end, or what the end leads to
module _ (l : List ℕ) (a : Draft) (r : Result Draft BadLine) (e : a ≡ start_of) (f : r ≡ feed_of a l) where
  pub read_faulty : (bad : BadLine) → r ≡ Err bad → Err bad ≡ text_read l
  unfolding leads
  read_faulty bad g = let h : feed_of start_of l ≡ Err bad = rw (e) at (sym f ∙ g) in rw h at (whole l)

  pub read_whole : (d : Draft) (z : Result Set BadLine) → r ≡ Ok d → z ≡ close_of d → z ≡ text_read l
  unfolding leads
  read_whole d z g k = let h : feed_of start_of l ≡ Ok d = rw (e) at (sym f ∙ g) in k ∙ (rw h at (whole l))

-- ---- a text so far, or its first bad line

-- it may be cut anywhere, behind a bad line too
pub pieces_anywhere : (t : Result Draft BadLine) (v w : List ℕ) → fed t (v ++ w) ≡ fed (fed t v) w
unfolding fed leads
pieces_anywhere (Ok d) v w = cut_anywhere d v w
pieces_anywhere (Err bad) v w = refl

-- a byte is a piece of one
pub byte_alone : (t : Result Draft BadLine) (b : ℕ) → stepped t b ≡ fed t (b ∷ [])
unfolding stepped fed leads feed_of
byte_alone (Err bad) b = refl
byte_alone (Ok d) b = alone (step_of d b)
  where
    alone : (r : Result Draft BadLine) → r ≡ leads r (λ e. Ok e)
    alone (Ok e) = refl
    alone (Err bad) = refl

-- however it was cut, what the programs close is the whole text's answer
pub whole_text : (l : List ℕ) → closed (fed begun l) ≡ text_read l
unfolding closed fed leads
whole_text l = whole l
