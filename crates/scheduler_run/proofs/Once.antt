-- A run's end allows one result. Assumes nothing.
use Prim.Native.Nat.{ℕ}
use mathlib.Core.List.{List}
use mathlib.Core.Path.{◌≡◌, ap₂, sym, ◌∙◌}
use Rattle.rules.specs.declared.Set.{Set}
use Rattle.rules.specs.declared.State.{State}
use mathlib.Core.Bool.{Bool}
use Rattle.scheduler_run.specs.declared.Ended.{Ended}
use Rattle.scheduler_run.specs.Calls.{EndOf}

pub ends_once : (x : Set) (bytes : List ℕ) (r q : Ended) → EndOf x bytes r → EndOf x bytes q → r ≡ q
ends_once x bytes r q a b = ap₂ (λ (s : State) (m : Bool). record { state = s; missed = m }) (a.state ∙ sym b.state) (a.missed ∙ sym b.missed)
