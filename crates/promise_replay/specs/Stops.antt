-- Document 02, request 1: when a replay says 12, 13 and 14.
-- Assumes nothing.
use Rattle.std.specs.Prelude.{ℕ, ◌<◌, ◌≤◌, true, false, ◌&&◌, List, ◌++◌, ◌↔◌, ◌≡◌, ltb, length, take, drop}
use Rattle.std.specs.List.{list_all}
use Rattle.laws.specs.Lists.{flat}
use Rattle.laws.specs.Bits.{bits, value}
use Rattle.rules.specs.declared.Call.{Call}
use Rattle.rules.specs.declared.State.{State}
use Rattle.rules.specs.declared.Refusal.TheVariants.{StopsEarly, Trailing}
use Rattle.rules.specs.States.{well_formed}
use Rattle.rules.specs.Sheet.{is_zero}
use Rattle.rules.specs.Numbers.{Says, replay_says, refused}
use Rattle.rules.specs.declared.Place.{Place}
use Rattle.rules.specs.Recordings.{bit_at, call_bits, place_in, recordable, replay_step, tape_of, refused as stopped}

-- "13 for a recording that stops before end": fewer than 2 bits are left, or a post has fewer than 4 behind its kind
pub data Early (bs : List ℕ) : Type 0 where
  no_kind : length bs < 2 → Early bs
  no_stream : 2 ≤ length bs → value (take 2 bs) ≡ 0 → length bs < 6 → Early bs

-- "14 for set padding or further bytes": behind end are 8 bits or more, or one that is set
pub record Trails (bs : List ℕ) : Type 0 where
  pub there : 2 ≤ length bs
  pub is_end : value (take 2 bs) ≡ 3
  pub more : (ltb (length (drop 2 bs)) 8 && list_all is_zero (drop 2 bs)) ≡ false

-- ---- of a step

abbrev pub step_says : State → List ℕ → Place → Says
step_says s recording p = replay_says (replay_step s recording p).answer

-- the state is well formed, the place is in the recording, and the bits there are such
pub record At (s : State) (recording : List ℕ) (p : Place) (Such : List ℕ → Type 0) : Type 0 where
  pub formed : well_formed s ≡ true
  pub inside : place_in recording p ≡ true
  pub such : Such (drop (bit_at p) (bits recording))

-- "12 (the state is not well formed, or the reader's place is not in its recording)"
unfoldable pub StepTwelve : Type 0
StepTwelve = (s : State) (recording : List ℕ) (p : Place) → (step_says s recording p ≡ refused 12) ↔ ((well_formed s && place_in recording p) ≡ false)

unfoldable pub StepThirteen : Type 0
StepThirteen = (s : State) (recording : List ℕ) (p : Place) → (step_says s recording p ≡ refused 13) ↔ At s recording p Early

unfoldable pub StepFourteen : Type 0
StepFourteen = (s : State) (recording : List ℕ) (p : Place) → (step_says s recording p ≡ refused 14) ↔ At s recording p Trails

-- ---- of a whole recording

-- calls, and behind them such bits
pub record Then (recording : List ℕ) (Such : List ℕ → Type 0) : Type 0 where
  pub calls : List Call
  pub can : list_all recordable calls ≡ true
  pub rest : List ℕ
  pub whole : bits recording ≡ flat call_bits calls ++ rest
  pub such : Such rest

unfoldable pub StopsAtThirteen : Type 0
StopsAtThirteen = (recording : List ℕ) → ((tape_of recording).stop ≡ stopped StopsEarly) ↔ Then recording Early

unfoldable pub StopsAtFourteen : Type 0
StopsAtFourteen = (recording : List ℕ) → ((tape_of recording).stop ≡ stopped Trailing) ↔ Then recording Trails
