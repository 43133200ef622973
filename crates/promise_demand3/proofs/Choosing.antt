-- The choice in the paper's words is one of the deadline argument: the chosen message's task has the least deadline of all, and it is the task's started message,
-- else one of its least deadline. Assumes nothing.
use Prim.Native.Nat.{ℕ, ◌≤◌, ◌<◌}
use mathlib.Core.List.{List, Memᴰ}
use mathlib.Core.Logic.{◌≢◌, ⊎_elim}
use mathlib.Core.Path.{◌≡◌, refl, ap, ◌∙◌}
use native.Mathlib.Omega.{arith}
use lib.ListN.{length}
use Rattle.laws.proofs.Gates.{eq_or_ne, Each, mem_get_d, PlacedAt, mem_at}
use Rattle.rules.specs.declared.Set.{Set}
use Rattle.rules.specs.declared.Message.{Message}
use Rattle.rules.specs.States.{no_message, task_of}
use Rattle.rules.specs.Steps.{never, task_deadline}
use Rattle.state_choosing.specs.Words.{at, DeadlineOf, Served}
use Rattle.state_choosing.proofs.Choice.{deadline_le, deadline_met}

module _ (X : Set) (l : List Message) where
  pub record Chosen (x : Message) : Type 0 where
    pub first : Message
    pub first_in : Memᴰ first l
    pub first_task : task_of X first ≡ task_of X x
    pub first_least : Each (λ y. first.deadline ≤ y.deadline) l
    pub none_started : x.used ≡ 0 → Each (λ y. task_of X y ≡ task_of X x → y.used ≡ 0) l
    pub least_own : x.used ≡ 0 → Each (λ y. task_of X y ≡ task_of X x → x.deadline ≤ y.deadline) l

  -- the deadline of the task of a pending message
  deadline_of_lem : (j : ℕ) → j < length l → (at l j).deadline < never → DeadlineOf X l (task_of X (at l j)) (task_deadline X l (task_of X (at l j)))
  deadline_of_lem j h soon =
      let m = deadline_met X l (task_of X (at l j)) (omega (arith, deadline_le X l (task_of X (at l j)) j h refl)) in
      record { who = m.0; inside = m.1; his = m.2; that = m.3; least = λ i q e. deadline_le X l (task_of X (at l j)) i q e }

  pub chosen_of_lem : Each (λ m. m.deadline < never) l → {turn : ℕ → ℕ} (k : ℕ) → Served turn X l k → Chosen (at l k)
  chosen_of_lem soon k s = record {
    first = at l s.own.who;
    first_in = mem_get_d l s.own.who no_message s.own.inside;
    first_task = s.own.his;
    first_least = λ y i. least y i (mem_at l no_message i);
    none_started = λ e y i q. unstarted y q e (mem_at l no_message i);
    least_own = λ e y i q. own y q e (mem_at l no_message i);
  }
    where
      least : (y : Message) → Memᴰ y l → PlacedAt l no_message y → (at l s.own.who).deadline ≤ y.deadline
      least y i p = omega (
        arith,
        s.first (task_of X (at l p.place)) (task_deadline X l (task_of X (at l p.place))) (deadline_of_lem p.place p.inside (soon (at l p.place) (mem_get_d l p.place no_message p.inside))),
        deadline_le X l (task_of X (at l p.place)) p.place p.inside refl,
        s.own.that,
        ap (λ (m : Message). m.deadline) p.there,
      )

      unstarted : (y : Message) → task_of X y ≡ task_of X (at l k) → (at l k).used ≡ 0 → PlacedAt l no_message y → y.used ≡ 0
      unstarted y q e p = ⊎_elim
          (λ (z : y.used ≡ 0). z)
          (λ (z : y.used ≢ 0). absurd (omega (
            arith,
            s.started p.place p.inside (ap (task_of X) p.there ∙ q) (omega (arith, ap (λ (m : Message). m.used) p.there)),
          )))
          (eq_or_ne y.used 0)

      own : (y : Message) → task_of X y ≡ task_of X (at l k) → (at l k).used ≡ 0 → PlacedAt l no_message y → (at l k).deadline ≤ y.deadline
      own y q e p = omega (arith, s.due e, s.own.least p.place p.inside (ap (task_of X) p.there ∙ q), ap (λ (m : Message). m.deadline) p.there)
