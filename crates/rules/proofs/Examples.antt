-- The yard's example sets.
-- Assumes nothing.
use Prim.Native.Nat.{ℕ}
use mathlib.Core.List.{List, [], ◌∷◌}
use Rattle.rules.specs.declared.Tuple.{Tuple}
use Rattle.rules.specs.declared.Tuple.TheVariants.{Every}
use Rattle.rules.specs.declared.Stage.{Stage}
use Rattle.rules.specs.declared.Stream.{Stream}
use Rattle.rules.specs.declared.Set.{Set}
use Rattle.laws.specs.Lists.{sum, top, count, find, remove, flat, scan, first_by}
use Rattle.laws.specs.Bits.{to_bits, onto, bits, bytes, pack}
use Rattle.rules.specs.Streams.{tuple_ok, tuples_ok, tuple_unused, stage_ok, stage_unused, stream_ok, stream_unused, version_ok, valid, events, limit, limit_of, jitter_ok, jitter_of}
use Rattle.rules.specs.Doors.{door_of, guarded, shut, wait_after, wait_later, waits_later, most_wait}
use Rattle.rules.specs.Parties.{same, owner_unused}
use Rattle.rules.specs.States.{message_ok, messages_ok, started_once, message_unused, wait_ok, well_formed}
use Rattle.rules.specs.Steps.{start_for, start_of, post_of, task_deadline, ahead, running_task, started_at, urgent_at, served_at, place_of, choose_of, laxity_of, served_of, empty_unit, unit_of, call_of}
use Rattle.rules.specs.Load.{cost_in, due, has, blocks_for, blocking, demand, demand_of, stream_load, load}
use Rattle.rules.specs.Sheet.{stream_of, set_of, head_bits, stream_bits, sheet_bits, sheet_of, read_end, read_stages, read_deadline, read_head, read_tuples, read_stream, read_streams, read_bits, read_of, write_of, buffer_of}
use Rattle.rules.specs.Recordings.{call_bits, recording_of, place_in, place_after, mark_of, replay_step, replay_start, tape_from, tape_of, written, append_of, appended_to, finish_of, finished_to, record_of, recorded_to}
use Rattle.rules.specs.Runs.{begin_for, run_for, accepted_of, departures_of, step_of, begin, run_from, run_of, steps_from, steps_of, answers_of, missed_now, missed_from, missed_in}

-- a stage: a task and a cost
abbrev pub stage : ℕ → ℕ → Stage
stage task c = record { task = task; cost = c }

-- a stream with one tuple, of stages and of one stage
abbrev pub staged : List Stage → ℕ → Tuple → Stream
staged gs d t = stream_of gs d (record { tuple = t } ∷ [])

abbrev pub stream : ℕ → ℕ → ℕ → Tuple → Stream
stream task c d t = staged (stage task c ∷ []) d t

-- "every z from 0"
abbrev pub each : ℕ → Tuple
each z = Every z 0

-- "Set B: stream 0 task 0, c 2, d 5; stream 1 task 0, c 4, d 20; stream 2 task 1, c 2, d 8; each every 20 from 0."
abbrev pub set_b : Set
set_b = set_of 1 (stream 0 2 5 (each 20) ∷ stream 0 4 20 (each 20) ∷ stream 1 2 8 (each 20) ∷ [])

-- An example is computed: to unfold `computed` is to unfold every definition that it goes through.
unfoldable pub computed : ℕ
unfolding sum top count find remove flat scan first_by to_bits onto bits bytes pack tuple_ok tuples_ok tuple_unused stage_ok stage_unused stream_ok stream_unused version_ok valid events limit limit_of jitter_ok jitter_of message_ok messages_ok started_once message_unused door_of guarded shut wait_after wait_later waits_later most_wait wait_ok same owner_unused well_formed start_for start_of post_of task_deadline ahead running_task started_at urgent_at served_at place_of choose_of laxity_of served_of empty_unit unit_of call_of cost_in due has blocks_for blocking demand demand_of stream_load load head_bits stream_bits sheet_bits sheet_of read_end read_stages read_deadline read_head read_tuples read_stream read_streams read_bits read_of write_of buffer_of accepted_of departures_of step_of begin_for run_for begin run_from run_of steps_from steps_of answers_of missed_now missed_from missed_in call_bits recording_of place_in place_after mark_of replay_step replay_start tape_from tape_of written append_of appended_to finish_of finished_to record_of recorded_to
computed = 0
