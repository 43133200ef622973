use Rattle.std.proofs.Common.{◌≡◌, ◌≤◌, drop}
use Rattle.std.specs.List.{list_all}
use Rattle.ascii.specs.Decimal.{read_on, is_digit}
use Rattle.console_parse.proofs.number_of.Given as goal

abbrev pub invariant-loop-b : goal.invariant-loop-b
invariant-loop-b l = (l.n ≤ 4294967295) × (list_all is_digit (drop l.b-index l.w) ≡ list_all is_digit l.w) × (read_on l.n (drop l.b-index l.w) ≡ read_on 0 l.w)
