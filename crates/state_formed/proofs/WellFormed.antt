-- What the test of a well formed state says, as propositions, and what its messages have.
-- Assumes nothing.
use Prim.Native.Nat.{ℕ, ◌+◌, ◌-◌, ◌≤◌, ◌<◌}
use mathlib.Core.Bool.{true, false, false≢true}
use mathlib.Core.List.{[], ◌∷◌}
use mathlib.Core.Path.{◌≡◌, refl, ap, sym, ◌∙◌}
use native.Mathlib.Omega.{arith}
use borrow.Author.Tests.{leb-true, le-leb, eqb-true}
use lib.Dec.{eqb}
use lib.ListN.{length, get_or, drop}
use lib.Seq.{get_or-take, get_or-drop, length-take-le}
use Rattle.std.specs.List.{list_all}
use Rattle.laws.specs.Lists.{below}
use Rattle.laws.proofs.Parts.{every_at_lem, all_any, scan_at, get_d_any}
use Rattle.laws.proofs.Sums.{all_take_at, by_test}
use Rattle.rules.specs.declared.Set.{Set}
use Rattle.rules.specs.declared.Stream.{Stream}
use Rattle.rules.specs.declared.Message.{Message}
use Rattle.rules.specs.declared.State.{State}
use Rattle.rules.specs.Streams.{no_stage, no_stream, stream_at, stage_at, valid}
use Rattle.rules.specs.declared.Party.{Party}
use Rattle.rules.specs.declared.Party.TheVariants.{Ours, Theirs}
use Rattle.rules.specs.Parties.{together, owner_unused, places_of}
use Rattle.rules.specs.States.{held_by, no_message, pending, stages_in, stage_of, task_of, posted_at, message_ok, messages_ok, started_once, message_unused, wait_ok, state_tests, well_formed}
use Rattle.rules.specs.Steps.{message_at}
use Rattle.rules.specs.Valid.{ValidStage, ValidStream}
use Rattle.rules.proofs.Valid.{valid_set}
use Rattle.rules.proofs.Parties.{held_both}
use Rattle.state_formed.specs.InRange.{InRange, rest_formed}
use Rattle.state_formed.proofs.Standing.{Standing, standing, stage_room}

-- the default of a place that the machine reads within an array
abbrev pub blank : Stream
blank = record { depth = 0; stages = []; deadline = 0; count = 0; tuples = [] }

pub record WellFormed (s : State) : Type 0 where
  pub set : valid s.set ≡ true
  pub few : s.count ≤ 64
  pub clock : s.clock ≤ 4000000000
  pub each : messages_ok s.set s.clock (pending s) ≡ true
  pub once : list_all (started_once s.set (pending s)) (below 16) ≡ true
  pub unused : list_all message_unused (drop s.count s.messages) ≡ true
  pub waits : list_all (wait_ok s.set s.waits) (below 16) ≡ true
  pub together_fit : together s.places ≤ 64
  pub rest_ours : list_all owner_unused (drop s.set.count s.owners) ≡ true
  pub ours_fit : held_by s Ours ≤ places_of s.places Ours
  pub theirs_fit : held_by s Theirs ≤ places_of s.places Theirs

pub well_formed_lem : (s : State) → well_formed s ≡ true → WellFormed s
unfolding well_formed
well_formed_lem s e =
    let t = every_at_lem (state_tests s) in
    record { set = t 0 e; few = leb-true _ _ (t 1 e); clock = leb-true _ _ (t 2 e); each = t 3 e; once = t 4 e; unused = t 5 e; waits = t 6 e; together_fit = leb-true _ _ (t 7 e); rest_ours = t 8 e; ours_fit = leb-true _ _ (t 9 e); theirs_fit = leb-true _ _ (t 10 e) }

pub well_formed_back : (s : State) → WellFormed s → well_formed s ≡ true
unfolding well_formed
well_formed_back s h = rw (h.set, le-leb s.count 64 h.few, le-leb s.clock 4000000000 h.clock, h.each, h.once, h.unused, h.waits, le-leb _ _ h.together_fit, h.rest_ours, le-leb _ _ h.ours_fit, le-leb _ _ h.theirs_fit)

pub in_range : (s : State) → well_formed s ≡ true → InRange s
in_range s e = let h = well_formed_lem s e in record { set = h.set; few = h.few; each = h.each }

-- the places behind the messages
pub unused_zero : (s : State) → WellFormed s → (j : ℕ) → s.count ≤ j → message_at s j ≡ no_message
unfolding message_unused
unused_zero s h j q =
    let place : s.count + (j - s.count) ≡ j = omega arith in
    zero_message (message_at s j)
    (rw (get_or-drop s.count s.messages (j - s.count) no_message, place) at (all_any message_unused (drop s.count s.messages) (j - s.count) no_message refl h.unused))
  where
    zero_message : (m : Message) → message_unused m ≡ true → m ≡ no_message
    zero_message m e =
        let t = every_at_lem (eqb m.stream 0 ∷ eqb m.deadline 0 ∷ eqb m.used 0 ∷ eqb m.stage 0 ∷ []) in
        let all-zero : ◌≡◌ {A = Message} (record { stream = m.stream; deadline = m.deadline; used = m.used; stage = m.stage }) no_message =
        rw (eqb-true m.stream 0 (t 0 e), eqb-true m.deadline 0 (t 1 e), eqb-true m.used 0 (t 2 e), eqb-true m.stage 0 (t 3 e)) in
        all-zero

-- a party that has a place left leaves one of the 64
pub place_room : (s : State) → WellFormed s → length s.messages ≡ 64 → (p : Party) → held_by s p < places_of s.places p → s.count < 64
place_room s h l Ours q =
    omega (arith, h.together_fit, h.theirs_fit, held_both s.owners (pending s), length-take-le s.count s.messages (omega (arith, h.few)))
place_room s h l Theirs q =
    omega (arith, h.together_fit, h.ours_fit, held_both s.owners (pending s), length-take-le s.count s.messages (omega (arith, h.few)))

-- a stream of a valid set
pub stream_valid : (x : Set) (k : ℕ) → valid x ≡ true → length x.streams ≡ 16 → k < x.count → ValidStream (stream_at x k)
stream_valid x k e l h =
    let v = valid_set x e in
    all_take_at ValidStream x.streams x.count k no_stream h (omega (arith, v.count)) v.streams

module _ (s : State) (h : InRange s) (ms : length s.messages ≡ 64) (k : ℕ) (q : k < s.count) where
  -- a pending message stands behind what was posted before it
  pub stands : (b : ℕ) × Standing s.set s.clock b (message_at s k)
  unfolding messages_ok
  stands =
      let l : length (pending s) ≡ s.count = length-take-le s.count s.messages (omega (arith, h.few)) in
      let o = scan_at (message_ok s.set s.clock) (posted_at s.set) 0 (pending s) k no_message h.each (omega arith) in
      (o.0, standing s.set s.clock o.0 (message_at s k) (rw (get_or-take s.count s.messages k no_message q) at o.1))

  pub stream_in_lem : (message_at s k).stream < s.set.count
  stream_in_lem = stands.1.stream

  -- its stage is one of its stream's, and has a place
  pub stage_in_lem : (message_at s k).stage < stages_in s.set (message_at s k)
  stage_in_lem = stands.1.stage

  stage_inside : (message_at s k).stage < length (stream_at s.set (message_at s k).stream).stages
  stage_inside = stage_room s.set s.clock stands.0 (message_at s k) stands.1

  pub stream_place : (message_at s k).stream < 16
  stream_place = omega (arith, stream_in_lem, (valid_set s.set h.set).count)

  module _ (ss : length s.set.streams ≡ 16) where
    pub message_stream : ValidStream (stream_at s.set (message_at s k).stream)
    message_stream = stream_valid s.set (message_at s k).stream h.set ss stream_in_lem

    pub stage_place : (message_at s k).stage < 4
    stage_place = omega (arith, stage_in_lem, message_stream.depth.high)

    pub message_stage : ValidStage (stage_of s.set (message_at s k))
    message_stage =
        let y : Stream = stream_at s.set (message_at s k).stream in
        all_take_at ValidStage y.stages y.depth (message_at s k).stage no_stage stage_in_lem stage_inside message_stream.stages

    pub task_in : task_of s.set (message_at s k) < 16
    task_in = omega (arith, message_stage.task)

    -- the same of the stream as the code reads it, within the array
    pub stream_read_lem : get_or s.set.streams (message_at s k).stream blank ≡ stream_at s.set (message_at s k).stream
    stream_read_lem = get_d_any s.set.streams (message_at s k).stream blank no_stream (omega (arith, stream_place))

    pub stage_read_lem : stage_at (get_or s.set.streams (message_at s k).stream blank) (message_at s k).stage ≡ stage_of s.set (message_at s k)
    stage_read_lem = ap (λ (y : Stream). stage_at y (message_at s k).stage) stream_read_lem

-- a test that fails, of those behind the set's
pub no_test : (s : State) (k : ℕ) → get_or (drop 1 (state_tests s)) k true ≡ false → rest_formed s ≡ false
unfolding rest_formed
no_test s k e = by_test (rest_formed s) (λ t. absurd (false≢true (sym e ∙ every_at_lem (drop 1 (state_tests s)) k t))) (λ t. t)
