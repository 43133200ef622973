-- Document 02, request 1: what is promised of the cab's recorder.
-- Assumes nothing.
use Rattle.std.specs.Prelude.{ℕ, ◌≤◌, true, List, [], ◌∷◌, ◌++◌, ◌≡◌, length, drop}
use Rattle.std.specs.List.{list_all}
use Rattle.laws.specs.Lists.{All}
use Rattle.laws.proofs.Fields.{IsByte}
use Rattle.rules.specs.declared.Call.{Call}
use Rattle.std.specs.Prelude.{Ok}
use Rattle.rules.specs.Numbers.{record_says, recorded}
use Rattle.rules.specs.declared.Place.{Place}
use Rattle.rules.specs.Recordings.{recordable, recording_of, first_place, append_of, appended_to, finish_of, finished_to}

-- calls appended one after the other, from a buffer and a place to a buffer and a place
pub data Appends : List Call → List ℕ → Place → List ℕ → Place → Type 0 where
  none : {buffer : List ℕ} {p : Place} → Appends [] buffer p buffer p
  one_more : {c : Call} {cs : List Call} {buffer last : List ℕ} {p q : Place} (behind : Place) → append_of buffer p c ≡ Ok behind
      → Appends cs (appended_to buffer p c) behind last q → Appends (c ∷ cs) buffer p last q

-- all calls of a run, and then end: the buffer has their recording in front, and every other byte as it was
pub record LeavesRecording (calls : List Call) (buffer : List ℕ) : Type 0 where
  pub last : List ℕ
  pub place : Place
  pub appends : Appends calls buffer first_place last place
  pub says : record_says (finish_of last place) ≡ recorded (length (recording_of calls))
  pub leaves : finished_to last place ≡ recording_of calls ++ drop (length (recording_of calls)) buffer

unfoldable pub RecorderRecords : Type 0
RecorderRecords = (calls : List Call) (buffer : List ℕ) → All IsByte buffer → list_all recordable calls ≡ true → length (recording_of calls) ≤ length buffer → LeavesRecording calls buffer
