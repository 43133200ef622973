use mathlib.Core.Path.{◌≡◌}
use lib.ListN.{take}
use Rattle.rules.specs.Runs.{start_at, run_from}
use Rattle.scheduler_run.specs.Calls.{calls_of}
use Rattle.scheduler_run.proofs.after.Given as goal

abbrev pub invariant-loop-b : goal.invariant-loop-b
invariant-loop-b l = l.next ≡ (run_from (start_at l.initial.next) (calls_of (take l.b-index l.calls))).state
