-- How many of the pending messages are of a kind, after each step. Assumes nothing.
use Prim.Native.Nat.{ℕ, suc, ◌+◌, ◌≤◌, ◌<◌}
use mathlib.Core.Bool.{Bool, cond}
use mathlib.Core.List.{◌∷◌, ◌++◌}
use mathlib.Core.Path.{◌≡◌, ap, sym, ◌∙◌}
use native.Mathlib.Omega.{arith}
use lib.ListN.{length, take, drop}
use lib.Seq.{split_at}
use Rattle.laws.specs.Lists.{sum, count}
use Rattle.laws.proofs.Sums.{sum_append}
use Rattle.laws.proofs.Gates.{sum_last, sum_at}
use Rattle.rules.specs.declared.Message.{Message}
use Rattle.rules.specs.declared.State.{State}
use Rattle.rules.specs.States.{no_message, pending}
use Rattle.rules.specs.Steps.{new_message, added, message_at, stayed, departed}
use Rattle.promise_steps.proofs.Cases.{pending_length, pending_added, message_is, pending_stayed, pending_departed}

-- a kind of streams, by their numbers
module _ (mine : ℕ → Bool) where
  -- 1 for a stream of the kind
  abbrev pub one : ℕ → ℕ
  one k = cond (mine k) 1 0

  abbrev each : Message → ℕ
  each m = one m.stream

  abbrev pub held : State → ℕ
  held s = count (λ (m : Message). mine m.stream) (pending s)

  module _ (s : State) (places : length s.messages ≡ 64) where
    pub held_added : (k : ℕ) → s.count < 64 → held (added s (new_message s k)) ≡ held s + one k
    unfolding count
    held_added k room = ap (sum each) (pending_added s places (new_message s k) room) ∙ sum_last each (pending s) (new_message s k)

    module _ (i : ℕ) (few : s.count ≤ 64) (low : i < s.count) where
      split : pending s ≡ take i (pending s) ++ (message_at s i ∷ drop (suc i) (pending s))
      split = rw (message_is s places i low) (split_at (pending s) i no_message (omega (arith, pending_length s places few)))

      before : sum each (pending s) ≡ sum each (take i (pending s)) + one (message_at s i).stream + sum each (drop (suc i) (pending s))
      before = ap (sum each) split ∙ sum_at each (take i (pending s)) (message_at s i) (drop (suc i) (pending s))

      pub held_stayed : (m : Message) → m.stream ≡ (message_at s i).stream → held (stayed s i m) ≡ held s
      unfolding count
      held_stayed m e =
          ap (sum each) (pending_stayed s places i m few low) ∙ sum_at each (take i (pending s)) m (drop (suc i) (pending s))
          ∙ ap (λ (k : ℕ). sum each (take i (pending s)) + one k + sum each (drop (suc i) (pending s))) e ∙ sym before

      pub held_departed : held s ≡ held (departed s i) + one (message_at s i).stream
      unfolding count
      held_departed = omega (
        arith,
        before,
        ap (sum each) (pending_departed s places i few low) ∙ sum_append each (take i (pending s)) (drop (suc i) (pending s)),
      )
