use Rattle.std.proofs.Common.{◌≡◌, ◌≤◌, drop}
use Rattle.ascii.specs.Decimal.{read_on}
use Rattle.text_line.proofs.number_at.Given as goal

abbrev pub invariant-loop-b : goal.invariant-loop-b
invariant-loop-b l = (l.n ≤ 4294967295) × (read_on l.n (drop l.b-index l.digits) ≡ read_on 0 l.digits)
