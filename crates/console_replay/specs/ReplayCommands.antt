-- The console's page, **CR 1**: what each command of the replay leaves of what the console holds, and what it prints.
-- Assumes nothing.
use Rattle.std.specs.Prelude.{ℕ, ◌-◌, cond, List, [], ◌++◌, length, take, leb}
use Rattle.laws.specs.Bits.{zeros}
use Rattle.rules.specs.declared.State.{State}
use Rattle.rules.specs.declared.ReplayResult.{ReplayResult}
use Rattle.rules.specs.Recordings.{first_place, replay_step}
use Rattle.rules.specs.declared.Place.{Place}
use Rattle.ascii.specs.Decimal.{letters}
use Rattle.answer_words.specs.Words.{line_of, replay_line}
use Rattle.console_words.specs.Words.{recording_words, at_words}
use Rattle.console_names.specs.Rows.{nth, most_bytes}
use Rattle.console_names.specs.declared.ReplayCommand.{ReplayCommand}
use Rattle.console_names.specs.declared.ReplayCommand.TheVariants.{Recording, Next, Reader, Where}
use Rattle.console_replay.specs.declared.Replay.{Replay}

-- "the recording that is replayed .. the reader goes to its start": zeros stand behind its bytes
unfoldable pub loaded_of : List ℕ → Replay
loaded_of text = record { bytes = text ++ zeros (most_bytes - length text); len = length text; place = first_place }

-- "At first it is empty."
abbrev pub first_replay : Replay
first_replay = loaded_of []

-- the recording that is held
abbrev pub held : Replay → List ℕ
held t = take t.len t.bytes

-- "puts the reader's place"
abbrev pub reader_put : Replay → Place → Replay
reader_put t p = record { bytes = t.bytes; len = t.len; place = p }

-- "one step of the replay on the console's state"
abbrev pub next_step : Replay → State → ReplayResult
next_step t s = replay_step s (held t) t.place

-- "at most 1,024 bytes, else `?`", which changes nothing; "Prints `recording N` with its bytes."
unfoldable pub recording_after : List ℕ → Replay → Replay
recording_after text t = cond (leb (length text) most_bytes) (loaded_of text) t

unfoldable pub recording_line : List ℕ → List ℕ
recording_line text = line_of (cond (leb (length text) most_bytes) (recording_words (length text)) (letters "?"))

-- The replay after a command with these numbers, where the console holds the state s; `text` is the bytes behind `recording`.
abbrev pub replay_after : ReplayCommand → List ℕ → List ℕ → State → Replay → Replay
replay_after Recording ns text s t = recording_after text t
replay_after Next ns text s t = reader_put t (next_step t s).place
replay_after Reader ns text s t = reader_put t (record { byte = nth ns 0; bit = nth ns 1 })
replay_after Where ns text s t = t

-- The state: only a step changes it.
abbrev pub replay_state_after : ReplayCommand → Replay → State → State
replay_state_after Recording t s = s
replay_state_after Next t s = (next_step t s).state
replay_state_after Reader t s = s
replay_state_after Where t s = s

-- What it prints.
abbrev pub replay_line_of : ReplayCommand → List ℕ → State → Replay → List ℕ
replay_line_of Recording text s t = recording_line text
-- "Prints the line of that step as `post`, `unit` and `done` do, or `end`, or `refused 12`, `refused 13`, `refused 14` with no clock."
replay_line_of Next text s t = replay_line s.clock (next_step t s).answer
-- "Prints `put`."
replay_line_of Reader text s t = line_of (letters "put")
-- "prints `at BYTE BIT`"
replay_line_of Where text s t = line_of (at_words t.place.byte t.place.bit)
