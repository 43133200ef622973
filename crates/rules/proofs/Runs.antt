-- Document 01's trace of set B, computed from the definitions: each of its eleven answers with the clock before it, the state, who was accepted and who left; and the
-- same twelve idle units later, at clock 20, when the last of the three deadlines is reached.
-- Assumes nothing.
use Prim.Native.Nat.{ℕ, ◌-◌}
use mathlib.Core.Bool.{true, false}
use mathlib.Core.List.{List, [], ◌∷◌, ◌++◌}
use mathlib.Core.Path.{◌≡◌, refl}
use lib.IntN.{pos}
use lib.ListN.{replicate}
use Rattle.rules.specs.declared.Call.{Call}
use Rattle.rules.specs.declared.Call.TheVariants.{Posts, Units}
use Rattle.rules.specs.Steps.{fresh}
use Rattle.rules.specs.States.{with_clock, with_waits}
use Rattle.rules.specs.Runs.{Event, accepts, leaves, Run, run_of, Step, steps_of, finished, missed_in}
use Rattle.rules.specs.Numbers.{Says, posted, ran, done}
use Rattle.rules.proofs.Examples.{set_b, computed}

-- `p1up2p0uududud`
abbrev pub trace_b : List Call
trace_b =
    Posts 1 ∷ Units false ∷ Posts 2 ∷ Posts 0 ∷ Units false ∷ Units false ∷ Units true ∷ Units false ∷ Units true ∷ Units false
    ∷ Units true ∷ []

abbrev at : ℕ → Says → Step
at clock says = record { before = clock; says = says }

-- what it "prints, in whole" behind the verdict
abbrev pub steps_b : List Step
steps_b =
    at 0 (posted 1 20) ∷ at 0 (ran 0 1) ∷ at 1 (posted 2 9) ∷ at 1 (posted 0 6) ∷ at 1 (ran 0 1) ∷ at 2 (ran 0 1)
    ∷ at 3 (done 0 1 (pos 16)) ∷ at 4 (ran 0 0) ∷ at 5 (done 0 0 (pos 0)) ∷ at 6 (ran 1 2) ∷ at 7 (done 1 2 (pos 1)) ∷ []

abbrev events_b : List Event
events_b =
    accepts (record { number = 0; stream = 1; at = 0 })
    ∷ accepts (record { number = 1; stream = 2; at = 1 })
    ∷ accepts (record { number = 2; stream = 0; at = 1 })
    ∷ leaves (record { number = 0; stream = 1; how = finished; used = 4; laxity = pos 16; at = 4; stage = 0 })
    ∷ leaves (record { number = 2; stream = 0; how = finished; used = 2; laxity = pos 0; at = 6; stage = 0 })
    ∷ leaves (record { number = 1; stream = 2; how = finished; used = 2; laxity = pos 1; at = 8; stage = 0 })
    ∷ []

-- the run of set B at a time, all three messages gone, with what is left to wait: 20 less what has passed since each stream's post
abbrev waits_b : ℕ → List ℕ
waits_b time = (21 - time) ∷ (20 - time) ∷ (21 - time) ∷ replicate 13 0

abbrev pub run_b : ℕ → Run
run_b time = record { state = with_waits (with_clock (fresh set_b) time) (waits_b time); time = time; names = []; events = events_b }

-- the trace, and twelve idle units behind it
abbrev pub long_b : List Call
long_b = trace_b ++ replicate 12 (Units false)

pub set_b_answers : steps_of set_b trace_b ≡ steps_b
unfolding computed
set_b_answers = refl

pub set_b_run : run_of set_b trace_b ≡ run_b 8
unfolding computed
set_b_run = refl

pub set_b_long : run_of set_b long_b ≡ run_b 20
unfolding computed
set_b_long = refl

-- no message of it is ever pending at its deadline
pub set_b_not_missed : missed_in set_b long_b ≡ false
unfolding computed
set_b_not_missed = refl
