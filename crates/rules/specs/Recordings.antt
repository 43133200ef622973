-- Document 02, request 1, "Replay a cab's recording in the office".
-- Assumes nothing.
use Rattle.std.specs.Prelude.{ℕ, zero, suc, ◌+◌, ◌-◌, ◌*◌, ◌/◌, ◌%◌, Bool, true, false, cond, ◌&&◌, ◌||◌, List, [], ◌∷◌, ◌++◌, length, take, drop, ltb, leb, eqb}
use Rattle.std.specs.List.{list_all}
use Rattle.laws.specs.Lists.{every, flat}
use Rattle.laws.specs.Bits.{to_bits, value, bits, zeros, bytes_for, bytes, pack}
use Rattle.rules.specs.declared.State.{State}
use Rattle.rules.specs.declared.Call.{Call}
use Rattle.rules.specs.declared.Place.{Place}
use Rattle.rules.specs.declared.Call.TheVariants.{Posts, Units}
use Rattle.rules.specs.declared.Refusal.{Refusal}
use Rattle.rules.specs.declared.Refusal.TheVariants.{NoStream, ShortBuffer, IllFormed, StopsEarly, Trailing}
use Rattle.std.specs.Prelude.{Result, Ok, Err, Option, Some, None}
use Rattle.rules.specs.declared.CallAnswer.{CallAnswer}
use Rattle.rules.specs.declared.ReplayResult.{ReplayResult}
use Rattle.rules.specs.declared.ReplayStart.{ReplayStart}
use Rattle.rules.specs.States.{well_formed}
use Rattle.rules.specs.declared.Party.{Party}
use Rattle.rules.specs.declared.Places.{Places}
use Rattle.rules.specs.declared.StartResult.{StartResult}
use Rattle.rules.specs.Streams.{empty_set}
use Rattle.rules.specs.Steps.{fresh, start_for, call_of}
use Rattle.rules.specs.Sheet.{is_zero, read_of}
use Rattle.rules.specs.Numbers.{Says, replay_says}

-- ---- what a recording of calls is

-- "packed fields, most significant first: 2 bits of kind (0 post, 1 unit, 2 unit with done, 3 end), and after a post 4 bits of stream"
abbrev pub call_kind : Call → ℕ
call_kind (Posts k) = 0
call_kind (Units done) = cond done 2 1

abbrev pub stream_field : Call → List ℕ
stream_field (Posts k) = to_bits 4 k
stream_field (Units done) = []

unfoldable pub call_bits : Call → List ℕ
call_bits c = to_bits 2 (call_kind c) ++ stream_field c

-- "After end come zero bits to the byte's end."
unfoldable pub recording_of : List Call → List ℕ
recording_of calls = pack (flat call_bits calls ++ to_bits 2 3)

-- a call to a stream that 4 bits can name: another cannot be recorded
abbrev pub recordable : Call → Bool
recordable (Posts k) = ltb k 16
recordable (Units done) = true

-- ---- what the bits at a place say

-- a place is in a recording: its byte is at most the length, its bit below 8, and 0 at the end
unfoldable pub place_in : List ℕ → Place → Bool
place_in s p = every (leb p.byte (length s) ∷ ltb p.bit 8 ∷ (ltb p.byte (length s) || eqb p.bit 0) ∷ [])

abbrev pub bit_at : Place → ℕ
bit_at p = 8 * p.byte + p.bit

-- the place n bits on
unfoldable pub place_after : Place → ℕ → Place
place_after p n = record { byte = p.byte + (p.bit + n) / 8; bit = (p.bit + n) % 8 }

-- "14 for set padding or further bytes": behind end come fewer than 8 bits, all zero
abbrev pub end_mark : List ℕ → Result (Option Call) Refusal
end_mark bs = cond (ltb (length bs) 8 && list_all is_zero bs) (Ok None) (Err Trailing)

-- "13 for a recording that stops before end": a post without its 4 bits of stream, too
abbrev pub post_mark : List ℕ → Result (Option Call) Refusal
post_mark bs = cond (leb 4 (length bs)) (Ok (Some (Posts (value (take 4 bs))))) (Err StopsEarly)

-- a kind, and the bits behind it
abbrev pub kind_mark : ℕ → List ℕ → Result (Option Call) Refusal
kind_mark kind bs =
    cond (eqb kind 0) (post_mark bs)
    (cond (eqb kind 1) (Ok (Some (Units false)))
    (cond (eqb kind 2) (Ok (Some (Units true)))
    (end_mark bs)))

unfoldable pub mark_of : List ℕ → Result (Option Call) Refusal
mark_of bs = cond (leb 2 (length bs)) (kind_mark (value (take 2 bs)) (drop 2 bs)) (Err StopsEarly)

-- ---- a step of a replay

-- an answer, a state, and the reader at a place
abbrev pub at : Result (Option CallAnswer) Refusal → State → Place → ReplayResult
at a s p = record { answer = a; state = s; place = p }

-- "makes the same calls and gives, for each, the answer the cab gave"; "End, 12, 13 and 14 don't move the reader."
abbrev pub replay_by : State → Place → Result (Option Call) Refusal → ReplayResult
replay_by s p (Ok (Some c)) = at (Ok (Some (call_of s c).answer)) (call_of s c).state (place_after p (length (call_bits c)))
replay_by s p (Ok None) = at (Ok None) s p
replay_by s p (Err why) = at (Err why) s p

-- 12 for a state that is not well formed or a place that is not in the recording; then what the bits say
unfoldable pub replay_step : State → List ℕ → Place → ReplayResult
replay_step s recording p =
    cond (well_formed s && place_in recording p)
    (replay_by s p (mark_of (drop (bit_at p) (bits recording))))
    (at (Err IllFormed) s p)

-- "The replay starts from a sheet": reading's refusals as they are, with the start of the empty set; request 8: "Replay starts with the same owners and places", and
-- the start's refusals come behind reading's
abbrev pub begun_as : Result (Unit {0}) Refusal → Result (Unit {0}) Refusal
begun_as (Ok tt) = Ok tt
begun_as (Err why) = Err why

abbrev pub begun_by : Result (Unit {0}) Refusal → StartResult → ReplayStart
begun_by (Ok tt) r = record { answer = begun_as r.answer; state = r.state }
begun_by (Err why) r = record { answer = Err why; state = fresh empty_set }

unfoldable pub replay_start : List ℕ → List Party → Places → ReplayStart
replay_start sheet owners places = begun_by (read_of sheet).answer (start_for (read_of sheet).set owners places)

abbrev pub first_place : Place
first_place = record { byte = 0; bit = 0 }

-- ---- steps one after the other

-- what n steps answer, and the state that they leave
unfoldable pub replay_answers : ℕ → List ℕ → State → Place → List Says
replay_answers zero recording s p = []
replay_answers (suc n) recording s p =
    let r = replay_step s recording p in
    replay_says r.answer ∷ replay_answers n recording r.state r.place

unfoldable pub replay_state : ℕ → List ℕ → State → Place → State
replay_state zero recording s p = s
replay_state (suc n) recording s p = let r = replay_step s recording p in replay_state n recording r.state r.place

-- ---- a whole recording

-- how a recording stops: at its end, or refused with 13 or 14
pub data Stop : Type 0 where
  ends : Stop
  refused : Refusal → Stop

pub record Tape : Type 0 where
  pub calls : List Call
  pub stop : Stop

-- one call more in front
abbrev pub behind : Call → Tape → Tape
behind c t = record { calls = c ∷ t.calls; stop = t.stop }

abbrev pub tape_by : Result (Option Call) Refusal → (Call → Tape) → Tape
tape_by (Ok (Some c)) more = behind c (more c)
tape_by (Ok None) more = record { calls = []; stop = ends }
tape_by (Err why) more = record { calls = []; stop = refused why }

-- "all steps before them stand": the calls that bits say, one after the other, n at most, and how they stop
unfoldable pub tape_from : ℕ → List ℕ → Tape
tape_from zero bs = record { calls = []; stop = refused StopsEarly }
tape_from (suc n) bs = tape_by (mark_of bs) (λ c. tape_from n (drop (length (call_bits c)) bs))

-- of a whole recording: it has fewer calls than bits
unfoldable pub tape_of : List ℕ → Tape
tape_of recording = tape_from (suc (length (bits recording))) (bits recording)

-- ---- the cab's recorder

-- there is room for bits at a place of a buffer
abbrev pub fits : List ℕ → Place → List ℕ → Bool
fits buffer p bs = leb (bit_at p + length bs) (8 * length buffer)

-- "only the bits that are written change"
unfoldable pub written : List ℕ → Place → List ℕ → List ℕ
written buffer p bs = bytes (length buffer) (take (bit_at p) (bits buffer) ++ bs ++ drop (bit_at p + length bs) (bits buffer))

-- "append a call to a lent buffer at a place .. 11 where there is no room": before it 12 for a place that is not in the buffer,
-- and 1 for a call to a stream that 4 bits cannot name, which "cannot be recorded, and the cab's answer to it was 1"
unfoldable pub append_of : List ℕ → Place → Call → Result Place Refusal
append_of buffer p c =
    cond (place_in buffer p)
    (cond (recordable c)
    (cond (fits buffer p (call_bits c))
    (Ok (place_after p (length (call_bits c))))
    (Err ShortBuffer))
    (Err NoStream))
    (Err IllFormed)

-- ".. the buffer unchanged"
abbrev pub appended_by : Result Place Refusal → List ℕ → Place → Call → List ℕ
appended_by (Ok q) buffer p c = written buffer p (call_bits c)
appended_by (Err why) buffer p c = buffer

unfoldable pub appended_to : List ℕ → Place → Call → List ℕ
appended_to buffer p c = appended_by (append_of buffer p c) buffer p c

-- "finish it": end, then zero bits to the byte's end
abbrev pub end_bits : Place → List ℕ
end_bits p = to_bits 2 3 ++ zeros (8 * bytes_for (p.bit + 2) - (p.bit + 2))

unfoldable pub finish_of : List ℕ → Place → Result ℕ Refusal
finish_of buffer p =
    cond (place_in buffer p)
    (cond (fits buffer p (end_bits p)) (Ok (p.byte + bytes_for (p.bit + 2))) (Err ShortBuffer))
    (Err IllFormed)

abbrev pub finished_by : Result ℕ Refusal → List ℕ → Place → List ℕ
finished_by (Ok n) buffer p = written buffer p (end_bits p)
finished_by (Err why) buffer p = buffer

unfoldable pub finished_to : List ℕ → Place → List ℕ
finished_to buffer p = finished_by (finish_of buffer p) buffer p

-- a whole recording: 11 for a buffer of too few bytes
unfoldable pub record_of : List Call → ℕ → Result ℕ Refusal
record_of calls room = cond (leb (length (recording_of calls)) room) (Ok (length (recording_of calls))) (Err ShortBuffer)

abbrev pub recorded_by : Result ℕ Refusal → List Call → List ℕ → List ℕ
recorded_by (Ok n) calls buffer = recording_of calls ++ drop n buffer
recorded_by (Err why) calls buffer = buffer

unfoldable pub recorded_to : List Call → List ℕ → List ℕ
recorded_to calls buffer = recorded_by (record_of calls (length buffer)) calls buffer
