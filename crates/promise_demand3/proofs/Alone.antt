-- What demand 3 says of the start of a set alone: all streams ours, with all places. Assumes nothing.
use mathlib.Core.Bool.{false}
use mathlib.Core.List.{List}
use mathlib.Core.Path.{◌≡◌, ap, sym, subst, ◌∙◌}
use Rattle.rules.specs.declared.Call.{Call}
use Rattle.rules.specs.declared.Set.{Set}
use Rattle.rules.specs.declared.Verdict.TheVariants.{Accept}
use Rattle.rules.specs.Streams.{Placed}
use Rattle.rules.specs.Load.{VerdictOf}
use Rattle.rules.specs.Runs.{Run, accepted, alone, run_of, KeepsOpenLimits, missed_from, missed_in}
use Rattle.rules.proofs.Parties.{begin_alone, run_alone, starts_alone}
use Rattle.promise_demand3.specs.Statements.{NeverMissed}
use Rattle.promise_demand3.proofs.Promise.{accepted_valid, never_missed}

pub never_missed_alone : (S : Set) → Placed S → VerdictOf S Accept → (calls : List Call) → KeepsOpenLimits S (accepted (run_of S calls)) → missed_in S calls ≡ false
unfolding NeverMissed missed_in
never_missed_alone S placed v calls keeps =
    ap (λ (r : Run). missed_from r calls) (sym (begin_alone S))
    ∙ never_missed (alone S) (starts_alone S placed (accepted_valid S v)) v calls (subst (λ (r : Run). KeepsOpenLimits S (accepted r)) (sym (run_alone S calls)) keeps)
