-- A set that is judged and run allows one result. Assumes nothing.
use mathlib.Core.Bool.{Bool}
use mathlib.Core.List.{List}
use mathlib.Core.Path.{◌≡◌, ap, ap₂, sym, ◌∙◌}
use Rattle.rules.specs.declared.Call.{Call}
use Rattle.rules.specs.declared.Set.{Set}
use Rattle.rules.specs.declared.State.{State}
use Rattle.rules.specs.declared.Verdict.{Verdict}
use Rattle.rules.proofs.Verdicts.{verdict_unique}
use Rattle.promise_code.specs.declared.JudgedRun.{JudgedRun}
use Rattle.promise_code.specs.Promised.{Promised}

pub promised_once : (x : Set) (calls : List Call) (r q : JudgedRun) → Promised x calls r → Promised x calls q → r ≡ q
promised_once x calls r q a b =
    ap₂ (λ (m : Bool) (s : State). record { verdict = r.verdict; missed = m; state = s }) (a.missed ∙ sym b.missed) (a.state ∙ sym b.state)
    ∙ ap (λ (v : Verdict). record { verdict = v; missed = q.missed; state = q.state }) (verdict_unique x r.verdict q.verdict a.verdict b.verdict)
