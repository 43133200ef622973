-- Recordings by example: document 01's trace of set B recorded, and read back; the ways a recording can be cut or padded.
-- Assumes nothing.
use Prim.Native.Nat.{ℕ}
use mathlib.Core.Bool.{true, false}
use mathlib.Core.List.{List, [], ◌∷◌}
use mathlib.Core.Path.{◌≡◌, refl}
use Rattle.rules.specs.declared.Call.{Call}
use Rattle.rules.specs.declared.Call.TheVariants.{Posts, Units}
use Rattle.rules.specs.declared.Refusal.TheVariants.{NoStream, ShortBuffer, IllFormed, StopsEarly, Trailing}
use Rattle.std.specs.Prelude.{Ok, Err}
use Rattle.rules.specs.Steps.{fresh}
use Rattle.rules.specs.Numbers.{Says, refused, posted, ended, replay_says}
use Rattle.rules.specs.declared.Place.{Place}
use Rattle.rules.specs.Recordings.{recording_of, replay_step, Tape, Stop, ends, refused as refuses, tape_of, append_of, appended_to, finish_of, finished_to, record_of, recorded_to}
use Rattle.rules.proofs.Examples.{set_b, computed}
use Rattle.rules.proofs.Runs.{trace_b}

-- `p0ud` has twelve bits with its end; a recording of no calls is one byte
abbrev short : List Call
short = Posts 0 ∷ Units false ∷ Units true ∷ []

pub recorded : (recording_of short ∷ recording_of [] ∷ []) ≡ ((0x01 ∷ 0xb0 ∷ []) ∷ (0xc0 ∷ []) ∷ [])
unfolding computed
recorded = refl

abbrev stopped : List Call → Stop → Tape
stopped calls stop = record { calls = calls; stop = stop }

-- back; cut after the unit; a set padding bit; a further byte; no bytes; a post whose stream is cut
pub replayed : (tape_of (0x01 ∷ 0xb0 ∷ []) ∷ tape_of (0x01 ∷ []) ∷ tape_of (0xc1 ∷ []) ∷ tape_of (0xc0 ∷ 0x00 ∷ []) ∷ tape_of [] ∷ tape_of (0x54 ∷ []) ∷ [])
    ≡ (stopped short ends ∷ stopped (Posts 0 ∷ Units false ∷ []) (refuses StopsEarly) ∷ stopped [] (refuses Trailing) ∷ stopped [] (refuses Trailing)
    ∷ stopped [] (refuses StopsEarly) ∷ stopped (Units false ∷ Units false ∷ Units false ∷ []) (refuses StopsEarly) ∷ [])
unfolding computed
replayed = refl

-- set B's trace, recorded and read back
pub set_b_recorded : tape_of (recording_of trace_b) ≡ stopped trace_b ends
unfolding computed
set_b_recorded = refl

-- places: behind the last byte only bit 0 is one; the two bits of a kind may lie in two bytes
abbrev at : ℕ → ℕ → Says
at byte bit = replay_says (replay_step (fresh set_b) (0x01 ∷ 0x80 ∷ []) (record { byte = byte; bit = bit })).answer

pub placed : (at 2 0 ∷ at 2 1 ∷ at 1 8 ∷ at 3 0 ∷ at 0 7 ∷ at 0 0 ∷ []) ≡ (refused 13 ∷ refused 12 ∷ refused 12 ∷ refused 12 ∷ ended ∷ posted 0 5 ∷ [])
unfolding computed
placed = refl

-- ---- the recorder

abbrev place : ℕ → ℕ → Place
place byte bit = record { byte = byte; bit = bit }

-- a unit at a byte's end; a post across it; one bit too few for a post; a stream that 4 bits cannot name, before the room is looked at; no place
pub appends :
    (append_of (0xaa ∷ 0xaa ∷ []) (place 0 6) (Units false) ∷ append_of (0xaa ∷ 0xaa ∷ []) (place 0 6) (Posts 15) ∷ append_of (0xaa ∷ 0xaa ∷ []) (place 1 3) (Posts 15)
    ∷ append_of (0xaa ∷ 0xaa ∷ []) (place 1 3) (Posts 16) ∷ append_of (0xaa ∷ 0xaa ∷ []) (place 2 1) (Posts 16) ∷ [])
    ≡ (Ok (record { byte = 1; bit = 0 }) ∷ Ok (record { byte = 1; bit = 4 }) ∷ Err ShortBuffer ∷ Err NoStream ∷ Err IllFormed ∷ [])
unfolding computed
appends = refl

-- the bits that are written, and no other
pub appended :
    (appended_to (0xaa ∷ 0xaa ∷ []) (place 0 6) (Units false) ∷ appended_to (0xff ∷ 0xff ∷ []) (place 0 6) (Posts 9) ∷ appended_to (0xff ∷ 0xff ∷ []) (place 1 3) (Posts 9) ∷ [])
    ≡ ((0xa9 ∷ 0xaa ∷ []) ∷ (0xfc ∷ 0x9f ∷ []) ∷ (0xff ∷ 0xff ∷ []) ∷ [])
unfolding computed
appended = refl

-- end in the middle of a byte, at its last two bits, across two bytes; one bit left; no place
pub finishes :
    (finish_of (0xff ∷ 0xff ∷ []) (place 0 4) ∷ finish_of (0xff ∷ 0xff ∷ []) (place 0 6) ∷ finish_of (0xff ∷ 0xff ∷ []) (place 0 7) ∷ finish_of (0xff ∷ 0xff ∷ []) (place 1 7)
    ∷ finish_of (0xff ∷ []) (place 0 8) ∷ [])
    ≡ (Ok 1 ∷ Ok 1 ∷ Ok 2 ∷ Err ShortBuffer ∷ Err IllFormed ∷ [])
unfolding computed
finishes = refl

pub finished :
    (finished_to (0xff ∷ 0xff ∷ []) (place 0 4) ∷ finished_to (0x00 ∷ 0xff ∷ []) (place 0 6) ∷ finished_to (0x00 ∷ 0xff ∷ []) (place 0 7) ∷ finished_to (0xff ∷ 0x00 ∷ []) (place 1 7) ∷ [])
    ≡ ((0xfc ∷ 0xff ∷ []) ∷ (0x03 ∷ 0xff ∷ []) ∷ (0x01 ∷ 0x80 ∷ []) ∷ (0xff ∷ 0x00 ∷ []) ∷ [])
unfolding computed
finished = refl

-- a whole recording: in a buffer that is longer, that it fills, that is too short
pub whole :
    (record_of short 3 ∷ record_of short 2 ∷ record_of short 1 ∷ []) ≡ (Ok 2 ∷ Ok 2 ∷ Err ShortBuffer ∷ [])
unfolding computed
whole = refl

pub buffered : (recorded_to short (0xaa ∷ 0xaa ∷ 0xaa ∷ []) ∷ recorded_to short (0xaa ∷ []) ∷ []) ≡ ((0x01 ∷ 0xb0 ∷ 0xaa ∷ []) ∷ (0xaa ∷ []) ∷ [])
unfolding computed
buffered = refl
