use Rattle.std.proofs.Common.{◌≡◌, drop, take}
use Rattle.console_names.specs.Rows.{most_numbers, wanted}
use Rattle.console_parse.specs.Scan.{filled}
use Rattle.console_parse.specs.Lines.{asked}
use Rattle.console_parse.proofs.numbers.Given as goal

abbrev pub invariant-loop-k : goal.invariant-loop-k
invariant-loop-k l = filled l.size l.r.command l.r.text l.k (drop l.k (take most_numbers l.r.most.now)) l.rest l.numbers ≡ asked l.size (wanted l.r) l.behind
