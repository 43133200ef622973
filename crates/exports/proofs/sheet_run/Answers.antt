use Rattle.exports.proofs.Calls.{run_code_lem}
use Rattle.exports.proofs.sheet_run.Goals as goal

pub returns : goal.returns
returns c =
    run_code_lem _ _ _ _ _ c.read-r.ensures c.last_state-last.ensures (rw c.from.ensures at c.in_halves.ensures)
