-- Pages one after the other: what is written of them is the lines of as many steps, and a replay that stops can be written.
-- Assumes nothing.
use Prim.Native.Nat.{ℕ, zero, suc, ◌+◌}
use native.Mathlib.Omega.{arith}
use mathlib.Core.Path.{◌≡◌, refl, sym, ap, ap₂, ◌∙◌}
use mathlib.Core.Bool.{Bool, false, cond}
use mathlib.Core.List.{List, [], ◌++◌, append_assoc}
use lib.ListN.{length, take}
use lib.Seq.{take_at}
use Rattle.laws.specs.Bits.{zeros}
use Rattle.line.specs.declared.Line.{Line}
use Rattle.line.specs.Line.{holding}
use Rattle.trace_steps.specs.Pieces.{bytes_of}
use Rattle.replay_lines.specs.declared.Replaying.{Replaying}
use Rattle.replay_lines.specs.Replaying.{next_replaying, next_line, replaying_after, line_after, replaying_on, lines_on, lines_fit, PageFilled}
use Rattle.replay_lines.specs.Printed.{PagesWritten, halts, goes_on}

-- the bytes of a line that holds some
pub line_bytes : (l : Line) (w : List ℕ) → l ≡ holding w → bytes_of l ≡ w
unfolding holding
line_bytes l w e = ap bytes_of e ∙ take_at w _ (length w) refl

module _ (recording : List ℕ) where
  -- a replay that has stopped prints nothing, and stays
  module _ (r : Replaying) (e : r.live ≡ false) where
    dead_after : replaying_after recording r ≡ r
    unfolding replaying_after
    dead_after = ap (λ (live : Bool). cond live (next_replaying recording r) r) e

    dead_line : line_after recording r ≡ []
    unfolding line_after
    dead_line = ap (λ (live : Bool). cond live (next_line recording r) []) e

    pub dead_stays : (n : ℕ) → replaying_on n recording r ≡ r
    unfolding replaying_on
    dead_stays zero = refl
    dead_stays (suc n) = ap (replaying_on n recording) dead_after ∙ dead_stays n

    pub dead_lines : (n : ℕ) → lines_on n recording r ≡ []
    unfolding lines_on
    dead_lines zero = refl
    dead_lines (suc n) = ap₂ (λ (w : List ℕ) (q : Replaying). w ++ lines_on n recording q) dead_line dead_after ∙ dead_lines n

  -- steps may be cut anywhere
  more : (m n : ℕ) → suc m + n ≡ suc (m + n)
  more m n = omega arith

  none : (n : ℕ) → 0 + n ≡ n
  none n = omega arith

  replaying_cut : (m n : ℕ) (r : Replaying) → replaying_on (m + n) recording r ≡ replaying_on n recording (replaying_on m recording r)
  unfolding replaying_on
  replaying_cut zero n r = ap (λ (k : ℕ). replaying_on k recording r) (none n)
  replaying_cut (suc m) n r = ap (λ (k : ℕ). replaying_on k recording r) (more m n) ∙ replaying_cut m n (replaying_after recording r)

  lines_cut : (m n : ℕ) (r : Replaying) → lines_on (m + n) recording r ≡ lines_on m recording r ++ lines_on n recording (replaying_on m recording r)
  unfolding lines_on replaying_on
  lines_cut zero n r = ap (λ (k : ℕ). lines_on k recording r) (none n)
  lines_cut (suc m) n r =
      ap (λ (k : ℕ). lines_on k recording r) (more m n)
      ∙ ap (λ (w : List ℕ). line_after recording r ++ w) (lines_cut m n (replaying_after recording r))
      ∙ sym (append_assoc (line_after recording r) (lines_on m recording (replaying_after recording r)) (lines_on n recording (replaying_on m recording (replaying_after recording r))))

  -- the pages hold the lines of some number of steps, behind which the replay has stopped
  pub record Stops (r : Replaying) (w : List ℕ) : Type 0 where
    pub steps : ℕ
    pub stopped : (replaying_on steps recording r).live ≡ false
    pub lines : w ≡ lines_on steps recording r

  page_front : (r next : Replaying) (out page : List ℕ) (len : ℕ) → PageFilled recording r out next len page → take len page ≡ lines_on (lines_fit out) recording r
  page_front r next out page len a = ap (take len) a.whole ∙ take_at (lines_on (lines_fit out) recording r) _ len (sym a.size)

  pub pages_stop : {r : Replaying} {w : List ℕ} → PagesWritten recording r w → Stops r w
  unfolding replaying_on lines_on
  pages_stop (halts {r} e) = record { steps = 0; stopped = e; lines = refl }
  pages_stop (goes_on {r} {next} {out} {page} {len} {w} a b) =
      let s = pages_stop b in
      record {
        steps = lines_fit out + s.steps;
        stopped =
            ap (λ (q : Replaying). q.live) (replaying_cut (lines_fit out) s.steps r ∙ ap (replaying_on s.steps recording) (sym a.replaying))
            ∙ s.stopped;
        lines =
            ap₂ (λ (v u : List ℕ). v ++ u) (page_front r next out page len a) (s.lines ∙ ap (lines_on s.steps recording) a.replaying)
            ∙ sym (lines_cut (lines_fit out) s.steps r);
      }

  -- a replay that stops can be written, on pages of a line each
  abbrev small : List ℕ
  small = zeros 128

  pub pages_some : (n : ℕ) (r : Replaying) → (replaying_on n recording r).live ≡ false → (w : List ℕ) × PagesWritten recording r w
  unfolding replaying_on
  pages_some zero r e = ([], halts e)
  pages_some (suc n) r e =
      let rest = pages_some n (replaying_after recording r) e in
      (_, goes_on {next = replaying_after recording r} {out = small} (record { replaying = refl; size = refl; whole = refl }) rest.1)
