-- A step's turn, and the turns that fill a page.
-- Assumes nothing.
use Prim.Native.Nat.{ℕ, suc, ◌+◌, ◌-◌, ◌*◌, ◌≤◌, ◌<◌}
use native.Mathlib.Omega.{arith}
use mathlib.Core.Path.{◌≡◌, refl, sym, ap, ap₂, ◌∙◌}
use mathlib.Core.Bool.{Bool, true, false, cond}
use mathlib.Core.List.{List, [], ◌++◌, append_assoc, append-nil}
use lib.ListN.{length, take, drop, take-append-drop}
use lib.Seq.{drop-drop, length-take-le}
use Rattle.std.specs.Prelude.{Result, Ok, Err, Option, Some, None}
use Rattle.rules.specs.declared.Refusal.{Refusal}
use Rattle.rules.specs.declared.CallAnswer.{CallAnswer}
use Rattle.rules.specs.declared.ReplayResult.{ReplayResult}
use Rattle.rules.specs.Numbers.{call_says, number, ended, refused}
use Rattle.line.specs.declared.Line.{Line}
use Rattle.line.specs.Line.{holding}
use Rattle.answer_words.specs.Words.{says, replay_line}
use Rattle.answer_words.proofs.Lengths.{says_short, line_short, step_short}
use Rattle.page.specs.Pages.{appended, end_of}
use Rattle.page.proofs.Rooms.{end_at, holds_then, same_size, rest_stays}
use Rattle.replay_lines.specs.declared.Replaying.{Replaying}
use Rattle.replay_lines.specs.declared.ReplayTurn.{ReplayTurn}
use Rattle.replay_lines.specs.Replaying.{step_of_replay, goes_on, next_replaying, next_line, replaying_after, line_after, replaying_on, lines_on, lines_fit, PageFilled}

-- a step, from its answer and its line
pub step_turn : (recording : List ℕ) (r : Replaying) (q : ReplayResult) (l : Line) (live : Bool) → q ≡ step_of_replay recording r
    → l ≡ holding (replay_line r.state.clock q.answer) → live ≡ goes_on q.answer
    → ◌≡◌ {A = ReplayTurn}
    (record { replaying = record { state = q.state; place = q.place; live = live }; line = l })
    (record { replaying = next_replaying recording r; line = holding (next_line recording r) })
step_turn recording r q l live e f g = rw (g, f, e)

-- a step of a replay that goes on, and of one that has stopped
pub alive : (recording : List ℕ) (r : Replaying) (t : ReplayTurn) → r.live ≡ true
    → t ≡ record { replaying = next_replaying recording r; line = holding (next_line recording r) }
    → t ≡ record { replaying = replaying_after recording r; line = holding (line_after recording r) }
unfolding replaying_after line_after
alive recording r t a e = rw a e

pub stopped : (recording : List ℕ) (r : Replaying) (l : Line) → r.live ≡ false → l ≡ holding []
    → ◌≡◌ {A = ReplayTurn} (record { replaying = r; line = l }) (record { replaying = replaying_after recording r; line = holding (line_after recording r) })
unfolding replaying_after line_after
stopped recording r l a e = rw (a, e)

-- no step prints more than a line has room for
answer_short : (clock : ℕ) (a : Result (Option CallAnswer) Refusal) → length (replay_line clock a) ≤ 128
answer_short clock (Ok (Some a)) = step_short clock (call_says a)
answer_short clock (Ok None) = line_short (says ended) (says_short ended)
answer_short clock (Err why) = line_short (says (refused (number why))) (says_short (refused (number why)))

line_fits : (recording : List ℕ) (r : Replaying) → length (line_after recording r) ≤ 128
unfolding line_after
line_fits recording r = go r.live (answer_short r.state.clock (step_of_replay recording r).answer)
  where
    go : (t : Bool) → length (next_line recording r) ≤ 128 → length (cond t (next_line recording r) []) ≤ 128
    go true h = h
    go false h = omega arith

-- what holds at the head of the loop after i of n steps
pub record Filling (n : ℕ) (recording : List ℕ) (r₀ r : Replaying) (out₀ out : List ℕ) (i at : ℕ) : Type 0 where
  pub inside : i ≤ n
  pub size : length out ≡ length out₀
  pub low : at ≤ i * 128
  pub replaying : replaying_on (n - i) recording r ≡ replaying_on n recording r₀
  pub text : take at out ++ lines_on (n - i) recording r ≡ lines_on n recording r₀
  pub rest : drop at out ≡ drop at out₀

module _ (n : ℕ) (recording : List ℕ) (r₀ r : Replaying) (out₀ out o : List ℕ) (i at a : ℕ) (t : ReplayTurn) (h : i < n)
    (e : t ≡ record { replaying = replaying_after recording r; line = holding (line_after recording r) }) (m : n * 128 ≤ length out₀)
    (g : Filling n recording r₀ r out₀ out i at) (x : a ≡ end_of out at t.line) (y : o ≡ appended out at t.line) where
  abbrev w : List ℕ
  w = line_after recording r

  fits : at + length w ≤ length out
  fits = omega (arith, g.size, g.low, line_fits recording r)

  end_is : a ≡ at + length w
  end_is = x ∙ rw (e, end_at out w at (line_fits recording r) fits)

  page_is : o ≡ appended out at (holding w)
  page_is = y ∙ rw e

  next_is : t.replaying ≡ replaying_after recording r
  next_is = ap (λ (u : ReplayTurn). u.replaying) e

  left_is : n - i ≡ suc (n - (i + 1))
  left_is = omega arith

  -- one step fewer is left
  replaying_left : replaying_on (n - (i + 1)) recording (replaying_after recording r) ≡ replaying_on (n - i) recording r
  unfolding replaying_on
  replaying_left = ap (λ (k : ℕ). replaying_on k recording r) (sym left_is)

  lines_left : w ++ lines_on (n - (i + 1)) recording (replaying_after recording r) ≡ lines_on (n - i) recording r
  unfolding lines_on
  lines_left = ap (λ (k : ℕ). lines_on k recording r) (sym left_is)

  pub fill_turn : Filling n recording r₀ t.replaying out₀ o (i + 1) a
  fill_turn =
      record {
        inside = omega arith;
        size = ap length page_is ∙ same_size out w at (line_fits recording r) fits ∙ g.size;
        low = omega (arith, end_is, line_fits recording r, g.low);
        replaying = rw next_is (replaying_left ∙ g.replaying);
        text =
            rw (next_is, page_is, end_is, holds_then out w at (line_fits recording r) fits)
            (append_assoc (take at out) w (lines_on (n - (i + 1)) recording (replaying_after recording r))
            ∙ ap (λ (l : List ℕ). take at out ++ l) lines_left
            ∙ g.text);
        rest =
            rw (page_is, end_is)
            (rest_stays out w at (line_fits recording r) fits
            ∙ sym (drop-drop (length w) at out)
            ∙ ap (λ (l : List ℕ). drop (length w) l) g.rest
            ∙ drop-drop (length w) at out₀);
      }

pub fill_begins : (n : ℕ) (recording : List ℕ) (r : Replaying) (out : List ℕ) → Filling n recording r r out out 0 0
fill_begins n recording r out =
    let whole : n - 0 ≡ n = omega arith in
    record { inside = omega arith; size = refl; low = omega arith; replaying = rw whole; text = rw whole; rest = refl }

-- behind the last step: the replay, and the page with what was printed at its front
module _ (recording : List ℕ) (r₀ r : Replaying) (out₀ out : List ℕ) (i at : ℕ) (h : lines_fit out₀ ≤ i) (g : Filling (lines_fit out₀) recording r₀ r out₀ out i at) where
  abbrev n : ℕ
  n = lines_fit out₀

  done : n - i ≡ 0
  done = omega arith

  printed : take at out ≡ lines_on n recording r₀
  unfolding lines_on
  printed = sym (append-nil (take at out)) ∙ ap (λ (k : ℕ). take at out ++ lines_on k recording r) (sym done) ∙ g.text

  len_is : at ≡ length (lines_on n recording r₀)
  len_is = sym (length-take-le at out (omega (arith, g.low, g.inside, g.size))) ∙ ap length printed

  pub fill_end : PageFilled recording r₀ out₀ r at out
  unfolding replaying_on
  fill_end =
      record {
        replaying = ap (λ (k : ℕ). replaying_on k recording r) (sym done) ∙ g.replaying;
        size = len_is;
        whole =
            sym (take-append-drop at out)
            ∙ ap₂ (λ (front back : List ℕ). front ++ back) printed (g.rest ∙ ap (λ (k : ℕ). drop k out₀) len_is);
      }
