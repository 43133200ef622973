-- Document 02, request 1: a trace's recording.
-- Assumes nothing.
use Rattle.std.specs.Prelude.{ℕ, cond, List, length}
use Rattle.rules.specs.declared.Refusal.TheVariants.{BadByte}
use Rattle.std.specs.Prelude.{Result, Err}
use Rattle.rules.specs.declared.Refusal.{Refusal}
use Rattle.rules.specs.Recordings.{record_of, recorded_by}
use Rattle.trace_bytes.specs.Scripts.{script_of}

-- "a trace .., its recording": 9 for a trace with a byte that is no step, then 11 for a buffer of too few bytes
unfoldable pub trace_record_of : List ℕ → ℕ → Result ℕ Refusal
trace_record_of trace room = cond (script_of trace).bad (Err BadByte) (record_of (script_of trace).calls room)

-- the buffer afterwards: the recording in front, and the rest as it was; unchanged where it was refused
unfoldable pub trace_recorded_to : List ℕ → List ℕ → List ℕ
trace_recorded_to trace buffer = recorded_by (trace_record_of trace (length buffer)) (script_of trace).calls buffer
