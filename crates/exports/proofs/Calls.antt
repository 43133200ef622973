-- A caller in another language is told one thing only.
-- Assumes nothing.
use Prim.Native.Nat.{ℕ}
use mathlib.Core.Path.{◌≡◌, ap, sym, ◌∙◌}
use mathlib.Core.List.{List}
use Rattle.rules.specs.declared.State.{State}
use Rattle.rules.specs.declared.ReadResult.{ReadResult}
use Rattle.rules.specs.Runs.{run_of}
use Rattle.rules.specs.Sheet.{read_of}
use Rattle.scheduler_run.specs.Calls.{calls_of}
use Rattle.load_check.proofs.Sheets.{sheet_verdict_unique}
use Rattle.exports.specs.Codes.{halves, state_code, run_code, verdict_code, VerdictOfSheet}

-- the calls, from the start of the set that was read
pub run_code_lem : (sheet calls : List ℕ) (x : ReadResult) (s : State) (n : ℕ)
    → x ≡ read_of sheet → s ≡ (run_of x.set (calls_of calls)).state → n ≡ halves s.count s.clock → n ≡ run_code sheet calls
unfolding run_code state_code
run_code_lem sheet calls x s n read made code = code ∙ ap state_code (made ∙ ap (λ (y : ReadResult). (run_of y.set (calls_of calls)).state) read)

-- two numbers allowed to be told of one sheet's verdict are the same
pub code_once : (r : ReadResult) (m n : ℕ) → VerdictOfSheet r m → VerdictOfSheet r n → m ≡ n
code_once r m n p q =
    p.code ∙ ap verdict_code (sheet_verdict_unique r.answer r.set p.given q.given p.is_verdict q.is_verdict) ∙ sym q.code
