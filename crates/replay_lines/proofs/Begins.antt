-- How a replay begins: the trace program's first line, and the replay at the start of the set.
-- Assumes nothing.
use mathlib.Core.Path.{ap}
use Rattle.rules.specs.declared.ReadResult.{ReadResult}
use Rattle.trace_steps.specs.declared.Tracing.{Tracing}
use Rattle.trace_steps.specs.declared.Turn.{Turn}
use Rattle.rules.specs.Recordings.{first_place}
use Rattle.trace_steps.specs.Turns.{Beginning}
use Rattle.replay_lines.specs.declared.Replaying.{Replaying}
use Rattle.replay_lines.specs.Replaying.{Begun}

abbrev at_start : Tracing → Replaying
at_start t = record { state = t.state; place = first_place; live = t.live }

pub begun : (r : ReadResult) (t : Turn) → Beginning r t → Begun r (record { replaying = at_start t.tracing; line = t.line })
begun r t b = record { verdict = b.verdict; is_verdict = b.is_verdict; line = b.line; replaying = ap at_start b.tracing }
