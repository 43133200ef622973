-- Document 02, request 1: what is promised of a replay.
-- Assumes nothing.
use Rattle.std.specs.Prelude.{ℕ, suc, true, List, [], ◌∷◌, ◌++◌, map, ◌≡◌, length}
use Rattle.std.specs.List.{list_all}
use Rattle.laws.specs.Lists.{flat, All}
use Rattle.laws.specs.Bits.{bits}
use Rattle.laws.proofs.Fields.{IsByte}
use Rattle.rules.specs.declared.Call.{Call}
use Rattle.rules.specs.declared.Party.{Party}
use Rattle.rules.specs.declared.Places.{Places}
use Rattle.std.specs.Prelude.{Result, Ok, Err, Option, None}
use Rattle.rules.specs.declared.Refusal.{Refusal}
use Rattle.rules.specs.declared.State.{State}
use Rattle.rules.specs.Sheet.{sheet_of, read_of}
use Rattle.rules.specs.Numbers.{Says, number, ended, refused as refused_with}
use Rattle.rules.specs.Runs.{Run, Start, Starts, start_at, begin_for, run_from, run_for, said_at, steps_from, answers_for}
use Rattle.rules.specs.Recordings.{Stop, ends, refused, tape_of, mark_of, call_bits, recordable, recording_of, replay_start, replay_answers, replay_state, first_place}

-- "The replay starts from a sheet, makes the same calls and gives, for each, the answer the cab gave; its last state equals the cab's."; request 8: "Replay starts
-- with the same owners and places"
abbrev pub cab_start : Start → State
cab_start z = (replay_start (sheet_of z.set) z.owners z.places).state

pub record IsTheCabs (z : Start) (calls : List Call) : Type 0 where
  pub answers : replay_answers (suc (length calls)) (recording_of calls) (cab_start z) first_place ≡ answers_for z calls ++ (ended ∷ [])
  pub state : replay_state (suc (length calls)) (recording_of calls) (cab_start z) first_place ≡ (run_for z calls).state

unfoldable pub ReplayIsTheCabs : Type 0
ReplayIsTheCabs = (z : Start) → Starts z → (calls : List Call) → list_all recordable calls ≡ true → IsTheCabs z calls

-- the mark that stops a recording
abbrev pub mark_by : Stop → Result (Option Call) Refusal
mark_by ends = Ok None
mark_by (refused why) = Err why

-- a recording says its calls, and ends
unfoldable pub TapeBack : Type 0
TapeBack = (calls : List Call) → list_all recordable calls ≡ true → tape_of (recording_of calls) ≡ record { calls = calls; stop = ends }

-- and a recording that ends is that of the calls that it says: a recording and its calls determine each other
unfoldable pub RecordingBack : Type 0
RecordingBack = (recording : List ℕ) → All IsByte recording → (tape_of recording).stop ≡ ends → recording_of (tape_of recording).calls ≡ recording

-- what stops a recording is end, 13 or 14: 13 where the bits stop before end, 14 where set padding or further bytes come behind it. "all steps before them stand."
pub record Stopped (recording : List ℕ) : Type 0 where
  pub rest : List ℕ
  pub whole : bits recording ≡ flat call_bits (tape_of recording).calls ++ rest
  pub can : list_all recordable (tape_of recording).calls ≡ true
  pub stop : mark_of rest ≡ mark_by (tape_of recording).stop

unfoldable pub AllStepsStand : Type 0
AllStepsStand = (recording : List ℕ) → Stopped recording

-- what stops a replay, as it is said
abbrev pub stop_says : Stop → Says
stop_says ends = ended
stop_says (refused why) = refused_with (number why)

-- any recording, from any sheet, with any owners and places: the cab's answers to the calls that it says, from the replay's start; then end, 13 or 14; and the cab's
-- state
abbrev pub replay_run : List ℕ → List Party → Places → Run
replay_run sheet owners places = start_at (replay_start sheet owners places).state

pub record StepsAre (sheet : List ℕ) (owners : List Party) (places : Places) (recording : List ℕ) : Type 0 where
  pub answers : replay_answers (suc (length (tape_of recording).calls)) recording (replay_start sheet owners places).state first_place
      ≡ map said_at (steps_from (replay_run sheet owners places) (tape_of recording).calls) ++ (stop_says (tape_of recording).stop ∷ [])
  pub state : replay_state (suc (length (tape_of recording).calls)) recording (replay_start sheet owners places).state first_place ≡ (run_from (replay_run sheet owners places) (tape_of recording).calls).state

unfoldable pub AnyRecording : Type 0
AnyRecording = (sheet : List ℕ) (owners : List Party) (places : Places) (recording : List ℕ) → length owners ≡ 16 → StepsAre sheet owners places recording

-- the replay's start is the cab's: that of the set which the sheet reads as
unfoldable pub ReplayBegins : Type 0
ReplayBegins =
    (sheet : List ℕ) (owners : List Party) (places : Places) → (read_of sheet).answer ≡ (Ok tt)
    → replay_run sheet owners places ≡ begin_for (record { set = (read_of sheet).set; owners = owners; places = places })
