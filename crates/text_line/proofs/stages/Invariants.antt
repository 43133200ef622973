use Rattle.std.proofs.Common.{◌≡◌, ◌-◌}
use Rattle.rules.specs.Streams.{no_stream}
use Rattle.text_line.specs.Lines.{most_stages, stages_at}
use Rattle.text_line.proofs.stages.Given as goal

abbrev pub invariant-loop : goal.invariant-loop
invariant-loop l = stages_at l.version (most_stages l.version - l.counter) l.next l.line l.here ≡ stages_at l.version (most_stages l.version) no_stream l.line 0
