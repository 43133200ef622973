use Rattle.std.proofs.Common.{◌≡◌, drop}
use Rattle.console_parse.specs.Bytes.{is_steps}
use Rattle.console_parse.specs.Scan.{steps_from}
use Rattle.console_parse.proofs.is_steps.Given as goal

abbrev pub invariant-loop-b : goal.invariant-loop-b
invariant-loop-b l = steps_from l.waiting (drop l.b-index l.w) ≡ is_steps l.w
