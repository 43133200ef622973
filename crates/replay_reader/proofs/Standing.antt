-- A step that makes no call leaves the reader and the state as they are.
-- Assumes nothing.
use mathlib.Core.Bool.{Bool, true, false, cond, ◌&&◌}
use mathlib.Core.Path.{◌≡◌, refl}
use lib.ListN.{drop}
use Rattle.laws.specs.Bits.{bits}
use Rattle.rules.specs.declared.State.{State}
use Rattle.std.specs.Prelude.{Result, Ok, Err, Option, Some, None}
use Rattle.rules.specs.declared.Refusal.{Refusal}
use Rattle.rules.specs.declared.Call.{Call}
use Rattle.rules.specs.declared.Refusal.TheVariants.{IllFormed}
use Rattle.rules.specs.States.{well_formed}
use Rattle.rules.specs.Recordings.{at, bit_at, place_in, mark_of, replay_by, replay_step}
use Rattle.replay_reader.specs.Readers.{moved_to, NoCall, ReaderStands}
use Rattle.replay_reader.specs.declared.Reader.{Reader}

-- by what the state and the place are, and by what the bits say
stands_by : (r : Reader) (s : State) (inside : Bool) (mark : Result (Option Call) Refusal)
    → NoCall (cond inside (replay_by s r.place mark) (at (Err IllFormed) s r.place)).answer
    → (moved_to r (cond inside (replay_by s r.place mark) (at (Err IllFormed) s r.place)) ≡ r)
    × ((cond inside (replay_by s r.place mark) (at (Err IllFormed) s r.place)).state ≡ s)
stands_by r s true (Ok (Some c)) h = absurd h
stands_by r s true (Ok None) h = (refl, refl)
stands_by r s true (Err why) h = (refl, refl)
stands_by r s false mark h = (refl, refl)

pub reader_stands : ReaderStands
unfolding replay_step
reader_stands r s h = stands_by r s (well_formed s && place_in r.recording.now r.place) (mark_of (drop (bit_at r.place) (bits r.recording.now))) h
