-- A byte's turn, and the turns of a piece of the trace.
-- Assumes nothing.
use Prim.Native.Nat.{ℕ, ◌+◌, ◌*◌, ◌≤◌, ◌<◌}
use native.Mathlib.Omega.{arith}
use native.Mathlib.Numerals.{add-one}
use mathlib.Core.Path.{◌≡◌, sym, ap, ◌∙◌}
use mathlib.Core.Bool.{Bool, true, false, cond}
use mathlib.Core.List.{List, [], ◌∷◌, ◌++◌, append_assoc, append-nil}
use lib.ListN.{length, get_or, take, drop, drop_of_length-le, length-append, take-append-drop}
use lib.Seq.{drop-cons, drop-drop, length-take-le}
use Rattle.rules.specs.declared.State.{State}
use Rattle.rules.specs.declared.Call.{Call}
use Rattle.rules.specs.declared.CallResult.{CallResult}
use Rattle.std.specs.Prelude.{Result, Ok, Err}
use Rattle.rules.specs.declared.Refusal.{Refusal}
use Rattle.rules.specs.Numbers.{number, refused, call_says}
use Rattle.rules.specs.Steps.{call_of}
use Rattle.line.specs.declared.Line.{Line}
use Rattle.line.specs.Line.{holding}
use Rattle.answer_words.specs.Words.{says, step_line}
use Rattle.answer_words.proofs.Lengths.{says_short, step_short}
use Rattle.trace_bytes.specs.declared.Heard.{Heard}
use Rattle.trace_bytes.specs.declared.Heard.TheVariants.{Skip, More, Makes}
use Rattle.trace_bytes.specs.Steps.{heard_of, end_of as at_end}
use Rattle.page.specs.Pages.{appended, end_of}
use Rattle.page.proofs.Rooms.{end_at, holds_then, same_size, rest_stays}
use Rattle.trace_steps.specs.declared.Tracing.{Tracing}
use Rattle.trace_steps.specs.declared.Turn.{Turn}
use Rattle.trace_steps.specs.Turns.{going, next_tracing, next_text, tracing_after, text_after, tracing_on, text_on, text_end, Ending}

-- a step, from the scheduler's answer and its line
pub step_turn : (s : State) (c : Call) (x : CallResult) (l : Line) (t : Turn) → x ≡ call_of s c
    → l ≡ holding (step_line s.clock (call_says x.answer)) → t ≡ record { tracing = going x.state false; line = l }
    → t ≡ record { tracing = next_tracing s (Ok (Makes c)); line = holding (next_text s (Ok (Makes c))) }
step_turn s c x l t e f g = g ∙ rw (f, e)

-- a byte for a trace that goes on, and for one that has stopped
pub alive : (r : Tracing) (b : ℕ) (h : Result Heard Refusal) (t : Turn) → r.live ≡ true → h ≡ heard_of r.waiting b
    → t ≡ record { tracing = next_tracing r.state h; line = holding (next_text r.state h) }
    → t ≡ record { tracing = tracing_after r b; line = holding (text_after r b) }
unfolding tracing_after text_after
alive r b h t a e f = rw (a, ← e) f

pub stopped : (r : Tracing) (b : ℕ) (l : Line) → r.live ≡ false → l ≡ holding []
    → ◌≡◌ {A = Turn} (record { tracing = r; line = l }) (record { tracing = tracing_after r b; line = holding (text_after r b) })
unfolding tracing_after text_after
stopped r b l a e = rw (a, e)

-- no byte prints more than a line has room for
heard_short : (s : State) (h : Result Heard Refusal) → length (next_text s h) ≤ 128
heard_short s (Ok Skip) = omega arith
heard_short s (Ok More) = omega arith
heard_short s (Ok (Makes c)) = step_short s.clock (call_says (call_of s c).answer)
heard_short s (Err why) =
    omega (arith, length-append (says (refused (number why))) (10 ∷ []), says_short (refused (number why)))

text_short : (r : Tracing) (b : ℕ) → length (text_after r b) ≤ 128
unfolding text_after
text_short r b = go r.live (heard_short r.state (heard_of r.waiting b))
  where
    go : (t : Bool) → length (next_text r.state (heard_of r.waiting b)) ≤ 128
        → length (cond t (next_text r.state (heard_of r.waiting b)) []) ≤ 128
    go true h = h
    go false h = omega arith

-- a turn of the loop over a piece: the trace goes on by one byte, and the page holds what has been printed
module _ (r₀ r : Tracing) (piece out : List ℕ) (i at : ℕ) (t : Turn) (h : i < length piece)
    (e : t ≡ record { tracing = tracing_after r (get_or piece i 0); line = holding (text_after r (get_or piece i 0)) }) where
  pub tracing_turn : tracing_on r (drop i piece) ≡ tracing_on r₀ piece → tracing_on t.tracing (drop (i + 1) piece) ≡ tracing_on r₀ piece
  unfolding tracing_on
  tracing_turn f = rw (e, ← f, drop-cons piece i 0 h, add-one i)

  module _ (room : at + 128 ≤ length out) where
    fit : at + length (text_after r (get_or piece i 0)) ≤ length out
    fit = omega (arith, text_short r (get_or piece i 0))

    pub at_turn : end_of out at t.line ≤ at + 128
    at_turn = rw (e, end_at out (text_after r (get_or piece i 0)) at (text_short r (get_or piece i 0)) fit) (omega (arith, text_short r (get_or piece i 0)))

    pub size_turn : length (appended out at t.line) ≡ length out
    size_turn = rw e (same_size out (text_after r (get_or piece i 0)) at (text_short r (get_or piece i 0)) fit)

    pub text_turn : take at out ++ text_on r (drop i piece) ≡ text_on r₀ piece
        → take (end_of out at t.line) (appended out at t.line) ++ text_on t.tracing (drop (i + 1) piece) ≡ text_on r₀ piece
    unfolding text_on
    text_turn f =
        rw (
          e,
          end_at out (text_after r (get_or piece i 0)) at (text_short r (get_or piece i 0)) fit,
          holds_then out (text_after r (get_or piece i 0)) at (text_short r (get_or piece i 0)) fit,
          append_assoc,
          ← f,
          drop-cons piece i 0 h,
          add-one i,
        )

pub tracing_end : (r₀ r : Tracing) (piece : List ℕ) (i : ℕ) → length piece ≤ i → tracing_on r (drop i piece) ≡ tracing_on r₀ piece → r ≡ tracing_on r₀ piece
unfolding tracing_on
tracing_end r₀ r piece i h f = rw (drop_of_length-le piece h) at f

pub text_end_lem : (r₀ r : Tracing) (piece w : List ℕ) (i : ℕ) → length piece ≤ i → w ++ text_on r (drop i piece) ≡ text_on r₀ piece → w ≡ text_on r₀ piece
unfolding text_on
text_end_lem r₀ r piece w i h f = sym (append-nil w) ∙ (rw (drop_of_length-le piece h) at f)

-- what has not been printed on stays as it was
rest_turn : (out out₀ w : List ℕ) (at : ℕ) → length w ≤ 128 → at + length w ≤ length out → drop at out ≡ drop at out₀
    → drop (at + length w) (appended out at (holding w)) ≡ drop (at + length w) out₀
rest_turn out out₀ w at h g e =
    rest_stays out w at h g ∙ sym (drop-drop (length w) at out) ∙ ap (λ (l : List ℕ). drop (length w) l) e ∙ drop-drop (length w) at out₀

-- the whole of it: what holds at the head of the loop holds again
pub record Going (r₀ r : Tracing) (piece out₀ out : List ℕ) (i at : ℕ) : Type 0 where
  pub inside : i ≤ length piece
  pub size : length out ≡ length out₀
  pub low : at ≤ i * 128
  pub tracing : tracing_on r (drop i piece) ≡ tracing_on r₀ piece
  pub text : take at out ++ text_on r (drop i piece) ≡ text_on r₀ piece
  pub rest : drop at out ≡ drop at out₀

pub feed_turn : (r₀ r : Tracing) (piece out₀ out o : List ℕ) (i at a : ℕ) (t : Turn) → i < length piece
    → t ≡ record { tracing = tracing_after r (get_or piece i 0); line = holding (text_after r (get_or piece i 0)) } → length piece * 128 ≤ length out₀
    → Going r₀ r piece out₀ out i at → a ≡ end_of out at t.line → o ≡ appended out at t.line
    → Going r₀ t.tracing piece out₀ o (i + 1) a
feed_turn r₀ r piece out₀ out o i at a t h e m g x y =
    let room : at + 128 ≤ length out = omega (arith, g.size, g.low) in
    let short : length (text_after r (get_or piece i 0)) ≤ 128 = text_short r (get_or piece i 0) in
    let fits : at + length (text_after r (get_or piece i 0)) ≤ length out = omega arith in
    record {
      inside = omega arith;
      size = ap length y ∙ size_turn r₀ r piece out i at t h e room ∙ g.size;
      low = omega (arith, x, at_turn r₀ r piece out i at t h e room, g.low);
      tracing = tracing_turn r₀ r piece out i at t h e g.tracing;
      text = rw (x, y) (text_turn r₀ r piece out i at t h e room g.text);
      rest =
          rw (x, y, e, end_at out (text_after r (get_or piece i 0)) at short fits)
          (rest_turn out out₀ (text_after r (get_or piece i 0)) at short fits g.rest);
    }

-- behind the last byte: the tracing, and the page with what was printed at its front
pub feed_end : (r₀ r : Tracing) (piece out₀ out : List ℕ) (i at : ℕ) → length piece ≤ i → length piece * 128 ≤ length out₀
    → Going r₀ r piece out₀ out i at
    → (r ≡ tracing_on r₀ piece) × ((at ≡ length (text_on r₀ piece)) × (out ≡ text_on r₀ piece ++ drop (length (text_on r₀ piece)) out₀))
feed_end r₀ r piece out₀ out i at h m g =
    let printed : take at out ≡ text_on r₀ piece = text_end_lem r₀ r piece (take at out) i h g.text in
    let inside : at ≤ length out = omega (arith, g.low, g.inside, g.size) in
    let end : at ≡ length (text_on r₀ piece) = sym (length-take-le at out inside) ∙ ap length printed in (
      tracing_end r₀ r piece i h g.tracing,
      (
        end,
        sym (take-append-drop at out)
            ∙ ap (λ (l : List ℕ). l ++ drop at out) printed
            ∙ ap (λ (l : List ℕ). text_on r₀ piece ++ l) (g.rest ∙ ap (λ (n : ℕ). drop n out₀) end),
      ),
    )

-- the end of the trace, of one that goes on and of one that has stopped
pub end_alive : (t : Tracing) (h : Result Heard Refusal) (u : Turn) → t.live ≡ true → h ≡ at_end t.waiting
    → u ≡ record { tracing = next_tracing t.state h; line = holding (next_text t.state h) } → Ending t u.line
unfolding text_end
end_alive t h u a e f = rw (a, ← e, f)

pub end_stopped : (t : Tracing) (l : Line) → t.live ≡ false → l ≡ holding [] → Ending t l
unfolding text_end
end_stopped t l a e = rw a e
