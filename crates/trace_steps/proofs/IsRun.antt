-- What the bytes of a trace do is the run of its calls: its state, and its steps in print.
-- Assumes nothing.
use Prim.Native.Nat.{ℕ}
use mathlib.Core.Path.{◌≡◌, refl, sym, ap, ap₂, ◌∙◌}
use mathlib.Core.Bool.{Bool, true, false, cond}
use mathlib.Core.List.{List, [], ◌∷◌, ◌++◌, append_assoc, append-nil}
use Rattle.laws.specs.Lists.{flat}
use Rattle.rules.specs.declared.Set.{Set}
use Rattle.rules.specs.declared.State.{State}
use Rattle.rules.specs.declared.Call.{Call}
use Rattle.std.specs.Prelude.{Result, Ok, Err}
use Rattle.rules.specs.declared.Refusal.{Refusal}
use Rattle.rules.specs.Numbers.{number, refused}
use Rattle.answer_words.specs.Words.{says, line_of}
use Rattle.rules.specs.Runs.{Run, step_of, begin, run_from, run_of, step_to, steps_from, steps_of}
use Rattle.rules.proofs.Events.{step_state}
use Rattle.answer_words.specs.Words.{line_of_step}
use Rattle.trace_bytes.specs.declared.Heard.{Heard}
use Rattle.trace_bytes.specs.declared.Heard.TheVariants.{Skip, More, Makes}
use Rattle.trace_bytes.specs.Steps.{heard_of, end_of}
use Rattle.trace_bytes.specs.Scripts.{Script, heard_then, hearing}
use Rattle.trace_bytes.proofs.Scripts.{Nine, heard_nine, script_heard}
use Rattle.trace_steps.specs.declared.Tracing.{Tracing}
use Rattle.trace_steps.specs.Turns.{going, next_tracing, next_text, tracing_after, text_after, tracing_on, text_on, text_end, text_to_end}
use Rattle.trace_steps.specs.Trace.{nine_if, steps_printed, TraceIsRun}

-- a trace that has stopped prints nothing, and stays
module _ (t : Tracing) (e : t.live ≡ false) where
  dead_after : (b : ℕ) → tracing_after t b ≡ t
  unfolding tracing_after
  dead_after b = ap (λ (live : Bool). cond live (next_tracing t.state (heard_of t.waiting b)) t) e

  dead_byte : (b : ℕ) → text_after t b ≡ []
  unfolding text_after
  dead_byte b = ap (λ (live : Bool). cond live (next_text t.state (heard_of t.waiting b)) []) e

  dead_end : text_end t ≡ []
  unfolding text_end
  dead_end = ap (λ (live : Bool). cond live (next_text t.state (end_of t.waiting)) []) e

  pub dead_stays : (l : List ℕ) → tracing_on t l ≡ t
  unfolding tracing_on
  dead_stays [] = refl
  dead_stays (b ∷ l) = ap (λ (u : Tracing). tracing_on u l) (dead_after b) ∙ dead_stays l

  dead_text : (l : List ℕ) → text_on t l ≡ []
  unfolding text_on
  dead_text [] = refl
  dead_text (b ∷ l) = ap₂ (λ (w : List ℕ) (u : Tracing). w ++ text_on u l) (dead_byte b) (dead_after b) ∙ dead_text l

  pub dead_rest : (l : List ℕ) → text_to_end t l ≡ []
  dead_rest l = ap₂ (λ (w : List ℕ) (u : Tracing). w ++ text_end u) (dead_text l) (dead_stays l) ∙ dead_end

-- the rest of a trace behind a byte, by what the byte is heard as
text_by : (s : State) (waiting : Bool) (b : ℕ) (l : List ℕ)
    → text_to_end (going s waiting) (b ∷ l) ≡ next_text s (heard_of waiting b) ++ text_to_end (next_tracing s (heard_of waiting b)) l
unfolding text_on tracing_on text_after tracing_after
text_by s waiting b l =
    append_assoc (next_text s (heard_of waiting b)) (text_on (next_tracing s (heard_of waiting b)) l) (text_end (tracing_on (next_tracing s (heard_of waiting b)) l))

-- what a script prints behind a run
abbrev script_text : Run → Script → List ℕ
script_text r s = flat line_of_step (steps_from r s.calls) ++ nine_if s.bad

pub from_text : (r : Run) (waiting : Bool) (l : List ℕ) → text_to_end (going r.state waiting) l ≡ script_text r (hearing waiting l)
unfolding text_on tracing_on text_end hearing flat steps_from
from_text r true [] = refl
from_text r false [] = refl
from_text r waiting (b ∷ l) =
    text_by r.state waiting b l ∙ go (heard_of waiting b) (heard_nine waiting b) (from_text r false l) (from_text r true l) (λ (c : Call). from_text (step_of r c) false l)
  where
    go : (h : Result Heard Refusal) → Nine h → text_to_end (going r.state false) l ≡ script_text r (hearing false l) → text_to_end (going r.state true) l ≡ script_text r (hearing true l)
        → ((c : Call) → text_to_end (going (step_of r c).state false) l ≡ script_text (step_of r c) (hearing false l))
        → next_text r.state h ++ text_to_end (next_tracing r.state h) l ≡ script_text r (heard_then h (hearing false l) (hearing true l))
    go (Ok Skip) n e f g = e
    go (Ok More) n e f g = f
    go (Ok (Makes c)) n e f g = rw (← step_state r c, g c) (sym (append_assoc (line_of_step (step_to r.state c)) (flat line_of_step (steps_from (step_of r c) (hearing false l).calls)) (nine_if (hearing false l).bad)))
    go (Err why) n e f g =
        ap (λ (w : List ℕ). line_of (says (refused (number why))) ++ w) (dead_rest (next_tracing r.state (Err why)) refl l) ∙ append-nil (line_of (says (refused (number why))))
        ∙ ap (λ (x : Refusal). line_of (says (refused (number x)))) n

pub from_state : (r : Run) (waiting : Bool) (l : List ℕ) → (tracing_on (going r.state waiting) l).state ≡ (run_from r (hearing waiting l).calls).state
unfolding tracing_on tracing_after hearing run_from
from_state r true [] = refl
from_state r false [] = refl
from_state r waiting (b ∷ l) = go (heard_of waiting b) (from_state r false l) (from_state r true l) (λ (c : Call). from_state (step_of r c) false l)
  where
    go : (h : Result Heard Refusal) → (tracing_on (going r.state false) l).state ≡ (run_from r (hearing false l).calls).state
        → (tracing_on (going r.state true) l).state ≡ (run_from r (hearing true l).calls).state
        → ((c : Call) → (tracing_on (going (step_of r c).state false) l).state ≡ (run_from (step_of r c) (hearing false l).calls).state)
        → (tracing_on (next_tracing r.state h) l).state ≡ (run_from r (heard_then h (hearing false l) (hearing true l)).calls).state
    go (Ok Skip) e f g = e
    go (Ok More) e f g = f
    go (Ok (Makes c)) e f g = rw (← step_state r c) (g c)
    go (Err why) e f g = ap (λ (t : Tracing). t.state) (dead_stays (next_tracing r.state (Err why)) refl l)

pub trace_is_run : (x : Set) (input : List ℕ) → TraceIsRun x input
unfolding begin run_of steps_of steps_printed
trace_is_run x input = record { state = rw (script_heard input) (from_state (begin x) false input); text = rw (script_heard input) (from_text (begin x) false input) }
