-- A state's lines: its clock, its count, its messages and their stages, its waits, its owners and the parties' places.
-- Assumes nothing.
use Prim.Native.Nat.{ℕ, ◌+◌, ◌*◌, ◌≤◌}
use mathlib.Core.Bool.{true}
use native.Mathlib.Omega.{arith}
use mathlib.Core.Path.{◌≡◌}
use mathlib.Core.List.{List, [], ◌++◌, append_assoc}
use lib.ListN.{length, length-append}
use Rattle.rules.specs.declared.State.{State}
use Rattle.ascii.specs.Decimal.{letters, decimal_of, spaced}
use Rattle.line.specs.declared.Line.{Line}
use Rattle.line.specs.Line.{line_room, holding}
use Rattle.answer_words.specs.Words.{line_of}
use Rattle.answer_words.proofs.Lengths.{line_short}
use Rattle.page.specs.Pages.{room_for, Onto, appended, end_of}
use Rattle.console_ask.specs.Questions.{message_line, staged_line, door_line, owns_line, room_line, lines_of, state_lines, answer_room}
use Rattle.console_ask.proofs.Lines.{numbered, message_short, staged_short, door_short, owns_short, room_short}
use Rattle.console_ask.proofs.Told.{lines_short, sofar_start, sofar_line, sofar_lines, sofar_more}

-- what the types say: 64 places for messages, 16 waits and 16 owners
pub record Sized (s : State) : Type 0 where
  pub messages : length s.messages ≡ 64
  pub waits : length s.waits ≡ 16
  pub owners : length s.owners ≡ 16

module _ (s : State) where
  abbrev pub clock_line : List ℕ
  clock_line = line_of (letters "clock" ++ spaced (decimal_of s.clock))

  abbrev pub count_line : List ℕ
  count_line = line_of (letters "pending" ++ spaced (decimal_of s.count))

  pub clock_short : length clock_line ≤ line_room
  clock_short = line_short (letters "clock" ++ spaced (decimal_of s.clock)) (omega (arith, numbered (letters "clock") s.clock))

  pub count_short : length count_line ≤ line_room
  count_short = line_short (letters "pending" ++ spaced (decimal_of s.count)) (omega (arith, numbered (letters "pending") s.count))

-- pieces, each behind all before it
abbrev in_turn : (c p m t d o r : List ℕ) → List ℕ
in_turn c p m t d o r = [] ++ c ++ p ++ m ++ t ++ d ++ o ++ r

turned : (c p m t d o r : List ℕ) → in_turn c p m t d o r ≡ c ++ (p ++ (m ++ t ++ d ++ (o ++ r)))
turned c p m t d o r = simp append_assoc

turned_length : (c p m t d o r : List ℕ) → length (c ++ (p ++ (m ++ t ++ d ++ (o ++ r)))) ≡ length c + length p + length m + length t + length d + length o + length r
turned_length c p m t d o r = simp length-append (omega arith)

module _ (s : State) (all : Sized s) where
  pub state_short : length (state_lines s) ≤ answer_room
  unfolding state_lines
  state_short =
      omega (
        arith,
        all.messages,
        all.waits,
        all.owners,
        clock_short s,
        count_short s,
        lines_short message_line message_short 0 s.messages,
        lines_short staged_line staged_short 0 s.messages,
        lines_short door_line door_short 0 s.waits,
        lines_short owns_line owns_short 0 s.owners,
        room_short s.places,
        turned_length (clock_line s) (count_line s) (lines_of message_line 0 s.messages) (lines_of staged_line 0 s.messages) (lines_of door_line 0 s.waits) (lines_of owns_line 0 s.owners) (room_line s.places),
      )

  -- a state's lines are put on a page one after the other
  module _ (out : List ℕ) (at : ℕ) (room : room_for out at answer_room ≡ true) (k l : Line) (a b c d e f g : ℕ) (oa ob oc od oe of og : List ℕ) where
    pub state_onto : k ≡ holding (clock_line s) → (a ≡ end_of out at k) × (oa ≡ appended out at k)
        → l ≡ holding (count_line s) → (b ≡ end_of oa a l) × (ob ≡ appended oa a l)
        → (room_for ob b (length s.messages * line_room) ≡ true → Onto ob b (lines_of message_line 0 s.messages) c oc)
        → (room_for oc c (length s.messages * line_room) ≡ true → Onto oc c (lines_of staged_line 0 s.messages) d od)
        → (room_for od d (length s.waits * line_room) ≡ true → Onto od d (lines_of door_line 0 s.waits) e oe)
        → (room_for oe e (length s.owners * line_room) ≡ true → Onto oe e (lines_of owns_line 0 s.owners) f of)
        → Onto of f (room_line s.places) g og
        → Onto out at (state_lines s) g og
    unfolding state_lines
    state_onto ka pa lb pb pc pd pe pf pg =
        let s0 = sofar_start out at answer_room room in
        let s1 = sofar_line s0 (clock_line s) k a oa (clock_short s) (omega arith) ka pa in
        let s2 = sofar_line s1 (count_line s) l b ob (count_short s) (omega arith) lb pb in
        let s3 = sofar_lines s2 message_line s.messages 64 c oc message_short all.messages (omega arith) pc in
        let s4 = sofar_lines s3 staged_line s.messages 64 d od staged_short all.messages (omega arith) pd in
        let s5 = sofar_lines s4 door_line s.waits 16 e oe door_short all.waits (omega arith) pe in
        let s6 = sofar_lines s5 owns_line s.owners 16 f of owns_short all.owners (omega arith) pf in
        let s7 = sofar_more s6 (room_line s.places) line_room g og (room_short s.places) (omega arith) pg in
        rw (turned (clock_line s) (count_line s) (lines_of message_line 0 s.messages) (lines_of staged_line 0 s.messages) (lines_of door_line 0 s.waits) (lines_of owns_line 0 s.owners) (room_line s.places)) at s7.onto
