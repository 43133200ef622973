-- Document 01: "every value that calls from a start can leave keeps [the state's rules]".
-- Assumes nothing.
use Rattle.std.specs.Prelude.{ℕ, Bool, true, List, ◌≡◌}
use Rattle.rules.specs.declared.State.{State}
use Rattle.rules.specs.States.{well_formed, Housed}
use Rattle.rules.specs.Steps.{start_for, post_of, unit_of}
use Rattle.rules.specs.declared.Call.{Call}
use Rattle.rules.specs.Runs.{Start, Boxed, run_for}

-- a well formed state, with the places that its type gives it
pub record Formed (s : State) : Type 0 where
  pub formed : well_formed s ≡ true
  pub housed : Housed s

unfoldable pub StartGives : Type 0
StartGives = (z : Start) → Boxed z → Formed (start_for z.set z.owners z.places).state

unfoldable pub PostKeeps : Type 0
PostKeeps = (s : State) (k : ℕ) → Formed s → Formed (post_of s k).state

unfoldable pub UnitKeeps : Type 0
UnitKeeps = (s : State) (done : Bool) → Formed s → Formed (unit_of s done).state

-- every state that calls from a start can leave
unfoldable pub RunKeeps : Type 0
RunKeeps = (z : Start) → Boxed z → (calls : List Call) → Formed (run_for z calls).state

-- the time of a run is the state's clock
unfoldable pub TimeIsClock : Type 0
TimeIsClock = (z : Start) (calls : List Call) → (run_for z calls).time ≡ (run_for z calls).state.clock
