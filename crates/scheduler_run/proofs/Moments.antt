-- A call more behind a run's calls, and what its moments tell.
-- Assumes nothing.
use Prim.Native.Nat.{ℕ, ◌+◌, ◌≤◌, ◌<◌}
use native.Mathlib.Numerals.{add-one}
use mathlib.Core.Bool.{Bool, true, false, ◌||◌}
use mathlib.Core.List.{List, [], ◌∷◌, ◌++◌}
use mathlib.Core.Path.{◌≡◌, refl, ap, ap₂, sym, ◌∙◌}
use lib.ListN.{length, get_or, take}
use lib.Seq.{take-suc, take_all}
use Rattle.rules.specs.declared.State.{State}
use Rattle.rules.specs.declared.Call.{Call}
use Rattle.rules.specs.declared.Set.{Set}
use Rattle.rules.specs.declared.StartResult.{StartResult}
use Rattle.rules.specs.Steps.{start_of, call_of}
use Rattle.rules.specs.Runs.{Run, step_of, start_at, begin, run_from, run_of, missed_now, missed_from, missed_in}
use Rattle.rules.proofs.Events.{step_state}
use Rattle.scheduler_run.specs.Calls.{call_byte, calls_of, EndOf}

-- ---- one call more

run_last : (r : Run) (cs : List Call) (c : Call) → run_from r (cs ++ (c ∷ [])) ≡ step_of (run_from r cs) c
unfolding run_from
run_last r [] c = refl
run_last r (d ∷ cs) c = run_last (step_of r d) cs c

or_assoc : (a b c : Bool) → (a || (b || c)) ≡ ((a || b) || c)
or_assoc true b c = refl
or_assoc false b c = refl

missed_last : (r : Run) (cs : List Call) (c : Call) → missed_from r (cs ++ (c ∷ [])) ≡ (missed_from r cs || missed_now (step_of (run_from r cs) c).state)
unfolding missed_from run_from
missed_last r [] c = refl
missed_last r (d ∷ cs) c =
    ap (λ (b : Bool). missed_now r.state || b) (missed_last (step_of r d) cs c)
    ∙ or_assoc (missed_now r.state) (missed_from (step_of r d) cs) (missed_now (step_of (run_from (step_of r d) cs) c).state)

map_last : (l : List ℕ) (b : ℕ) → calls_of (l ++ (b ∷ [])) ≡ calls_of l ++ (call_byte b ∷ [])
map_last [] b = refl
map_last (a ∷ l) b = ap (λ (cs : List Call). call_byte a ∷ cs) (map_last l b)

-- after k of the bytes, from the state s₀
pub record After (s₀ : State) (bytes : List ℕ) (k : ℕ) (s : State) (missed : Bool) : Type 0 where
  pub state : s ≡ (run_from (start_at s₀) (calls_of (take k bytes))).state
  pub missed_is : missed ≡ missed_from (start_at s₀) (calls_of (take k bytes))

pub after_none : (s₀ : State) (bytes : List ℕ) (missed : Bool) → missed ≡ missed_now s₀ → After s₀ bytes 0 s₀ missed
unfolding run_from missed_from
after_none s₀ bytes missed e = record { state = refl; missed_is = e }

module _ (s₀ : State) (bytes : List ℕ) (k : ℕ) (inside : k < length bytes) where
  more : calls_of (take (k + 1) bytes) ≡ calls_of (take k bytes) ++ (call_byte (get_or bytes k 0) ∷ [])
  more = ap (λ (n : ℕ). calls_of (take n bytes)) (add-one k) ∙ ap calls_of (take-suc bytes k 0 inside) ∙ map_last (take k bytes) (get_or bytes k 0)

  run_more : run_from (start_at s₀) (calls_of (take (k + 1) bytes)) ≡ step_of (run_from (start_at s₀) (calls_of (take k bytes))) (call_byte (get_or bytes k 0))
  run_more = ap (run_from (start_at s₀)) more ∙ run_last (start_at s₀) (calls_of (take k bytes)) (call_byte (get_or bytes k 0))

  pub after_more : (s next : State) (missed late : Bool) → After s₀ bytes k s missed → next ≡ (call_of s (call_byte (get_or bytes k 0))).state → late ≡ missed_now next → After s₀ bytes (k + 1) next (missed || late)
  after_more s next missed late a e f = record { state = here; missed_is = told }
    where
      here : next ≡ (run_from (start_at s₀) (calls_of (take (k + 1) bytes))).state
      here = e ∙ ap (λ (s : State). (call_of s (call_byte (get_or bytes k 0))).state) a.state
          ∙ sym (step_state (run_from (start_at s₀) (calls_of (take k bytes))) (call_byte (get_or bytes k 0))) ∙ ap (λ (r : Run). r.state) (sym run_more)

      told : (missed || late) ≡ missed_from (start_at s₀) (calls_of (take (k + 1) bytes))
      told = ap₂ ◌||◌ a.missed_is (f ∙ ap missed_now (here ∙ ap (λ (r : Run). r.state) run_more))
          ∙ sym (ap (missed_from (start_at s₀)) more ∙ missed_last (start_at s₀) (calls_of (take k bytes)) (call_byte (get_or bytes k 0)))

  -- the state alone
  pub state_more : (s next : State) → s ≡ (run_from (start_at s₀) (calls_of (take k bytes))).state → next ≡ (call_of s (call_byte (get_or bytes k 0))).state → next ≡ (run_from (start_at s₀) (calls_of (take (k + 1) bytes))).state
  state_more s next a e = (after_more s next (missed_from (start_at s₀) (calls_of (take k bytes))) (missed_now next) (record { state = a; missed_is = refl }) e refl).state

-- all the bytes, from the start of a set
pub after_all : (x : Set) (q : StartResult) (bytes : List ℕ) (k : ℕ) (s : State) (missed : Bool) → q ≡ start_of x → After q.state bytes k s missed → length bytes ≤ k
    → EndOf x bytes (record { state = s; missed = missed })
unfolding run_of begin missed_in
after_all x q bytes k s missed e a h = record {
  state = a.state ∙ ap₂ (λ (r : Run) (l : List ℕ). (run_from r (calls_of l)).state) begins (take_all k bytes h);
  missed = a.missed_is ∙ ap₂ (λ (r : Run) (l : List ℕ). missed_from r (calls_of l)) begins (take_all k bytes h);
}
  where
    begins : start_at q.state ≡ begin x
    begins = ap (λ (q : StartResult). start_at q.state) e

-- the same of the state alone
pub state_none : (s₀ : State) (bytes : List ℕ) → s₀ ≡ (run_from (start_at s₀) (calls_of (take 0 bytes))).state
unfolding run_from
state_none s₀ bytes = refl

pub state_all : (s₀ : State) (bytes : List ℕ) (k : ℕ) (s : State) → s ≡ (run_from (start_at s₀) (calls_of (take k bytes))).state → length bytes ≤ k → s ≡ (run_from (start_at s₀) (calls_of bytes)).state
state_all s₀ bytes k s a h = a ∙ ap (λ (l : List ℕ). (run_from (start_at s₀) (calls_of l)).state) (take_all k bytes h)

pub from_start : (x : Set) (q : StartResult) (bytes : List ℕ) (s : State) → q ≡ start_of x → s ≡ (run_from (start_at q.state) (calls_of bytes)).state → s ≡ (run_of x (calls_of bytes)).state
unfolding run_of begin
from_start x q bytes s e a = a ∙ ap (λ (q : StartResult). (run_from (start_at q.state) (calls_of bytes)).state) e
