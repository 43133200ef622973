-- A message's lines, a wait's, an owner's and that of the parties' places, and that each takes no more bytes than a line has.
-- Assumes nothing.
use Prim.Native.Nat.{ℕ, ◌+◌, ◌≤◌}
use native.Mathlib.Omega.{arith}
use mathlib.Core.Path.{◌≡◌}
use mathlib.Core.Bool.{true, false}
use mathlib.Core.List.{List, [], ◌++◌}
use lib.ListN.{length, length-append}
use Rattle.rules.specs.declared.Message.{Message}
use Rattle.rules.specs.declared.Places.{Places}
use Rattle.line.specs.declared.Line.{Line}
use Rattle.ascii.specs.Decimal.{letters, decimal_of, spaced}
use Rattle.line.specs.Line.{line_room, holding, put_of, puts}
use Rattle.ascii.proofs.Digits.{digits_short}
use Rattle.line.proofs.Puts.{then}
use Rattle.answer_words.specs.Words.{line_of}
use Rattle.answer_words.proofs.Lengths.{two, line_short}
use Rattle.answer_words.proofs.Ends.{ended}
use Rattle.std.proofs.Common.{Some}
use Rattle.laws.proofs.Sums.{by_test}
use lib.Dec.{eqb}
use Rattle.rules.specs.declared.Party.{Party}
use Rattle.rules.specs.declared.Party.TheVariants.{Ours, Theirs}
use Rattle.console_ask.specs.Questions.{Tells, message_text, message_zero, message_line, staged_text, staged_line, door_text, door_line, owns_text, owns_line, room_text, all_for_us, room_line}

-- ---- lengths

-- a number with its space, behind some words
pub numbered : (w : List ℕ) (n : ℕ) → length (w ++ spaced (decimal_of n)) ≤ length w + 21
numbered w n = omega (arith, length-append w (spaced (decimal_of n)), digits_short 20 n)

four : (w : List ℕ) (a b c d : ℕ)
    → length (w ++ spaced (decimal_of a) ++ spaced (decimal_of b) ++ spaced (decimal_of c) ++ spaced (decimal_of d)) ≤ length w + 84
four w a b c d =
    omega (
      arith,
      numbered (w ++ spaced (decimal_of a) ++ spaced (decimal_of b) ++ spaced (decimal_of c)) d,
      numbered (w ++ spaced (decimal_of a) ++ spaced (decimal_of b)) c,
      numbered (w ++ spaced (decimal_of a)) b,
      numbered w a,
    )

-- ---- the lines

pub one_is : (b m r : Line) (w : List ℕ) (n : ℕ) → length w ≤ 64 → b ≡ holding [] → m ≡ puts b (w ++ spaced (decimal_of n)) → r ≡ put_of m 10
    → r ≡ holding (line_of (w ++ spaced (decimal_of n)))
one_is b m r w n h e f g = ended b m r (w ++ spaced (decimal_of n)) (omega (arith, numbered w n)) e f g

pub two_is : (b m r : Line) (w : List ℕ) (n k : ℕ) → length w ≤ 32 → b ≡ holding [] → m ≡ puts b (w ++ spaced (decimal_of n) ++ spaced (decimal_of k)) → r ≡ put_of m 10
    → r ≡ holding (line_of (w ++ spaced (decimal_of n) ++ spaced (decimal_of k)))
two_is b m r w n k h e f g = ended b m r (w ++ spaced (decimal_of n) ++ spaced (decimal_of k)) (omega (arith, two w n k)) e f g

-- ---- what each place has to tell

module _ (i : ℕ) (m : Message) where
  pub message_none : message_zero m ≡ true → message_line i m ≡ []
  unfolding message_line
  message_none e = rw e

  pub message_told : message_zero m ≡ false → (b f u v r : Line) → b ≡ holding []
      → f ≡ puts b (letters "message" ++ spaced (decimal_of i) ++ spaced (decimal_of m.stream))
      → u ≡ puts f (spaced (decimal_of m.deadline)) → v ≡ puts u (spaced (decimal_of m.used)) → r ≡ put_of v 10
      → Tells (Some r) (message_line i m)
  unfolding message_line message_text
  message_told g b f u v r e p q x y =
      let w : List ℕ = letters "message" ++ spaced (decimal_of i) ++ spaced (decimal_of m.stream) ++ spaced (decimal_of m.deadline) ++ spaced (decimal_of m.used) in
      let short : length w ≤ 95 = omega (arith, four (letters "message") i m.stream m.deadline m.used) in
      rw g (ended b v r w short e (then b u v _ _ (then b f u _ _ p q) x) y, line_short w short)

  pub staged_none : eqb m.stage 0 ≡ true → staged_line i m ≡ []
  unfolding staged_line
  staged_none e = rw e

  pub staged_told : (r : Line) → eqb m.stage 0 ≡ false → r ≡ holding (line_of (letters "staged" ++ spaced (decimal_of i) ++ spaced (decimal_of m.stage))) → Tells (Some r) (staged_line i m)
  unfolding staged_line staged_text
  staged_told r g e =
      rw g (e, line_short (letters "staged" ++ spaced (decimal_of i) ++ spaced (decimal_of m.stage)) (omega (arith, two (letters "staged") i m.stage)))

module _ (i n : ℕ) where
  pub door_none : eqb n 0 ≡ true → door_line i n ≡ []
  unfolding door_line
  door_none e = rw e

  pub door_told : (r : Line) → eqb n 0 ≡ false → r ≡ holding (line_of (letters "door" ++ spaced (decimal_of i) ++ spaced (decimal_of n))) → Tells (Some r) (door_line i n)
  unfolding door_line door_text
  door_told r g e = rw g (e, line_short (letters "door" ++ spaced (decimal_of i) ++ spaced (decimal_of n)) (omega (arith, two (letters "door") i n)))

module _ (i : ℕ) (o : Party) where
  pub owns_none : o ≡ Ours → owns_line i o ≡ []
  unfolding owns_line
  owns_none e = rw e

  pub owns_told : (r : Line) → o ≡ Theirs → r ≡ holding (line_of (letters "owns" ++ spaced (decimal_of i) ++ spaced (decimal_of 1))) → Tells (Some r) (owns_line i o)
  unfolding owns_line owns_text
  owns_told r g e = rw g (e, line_short (letters "owns" ++ spaced (decimal_of i) ++ spaced (decimal_of 1)) (omega (arith, two (letters "owns") i 1)))

module _ (p : Places) where
  pub room_none : all_for_us p ≡ true → room_line p ≡ []
  unfolding room_line
  room_none e = rw e

  pub room_told : (r : Line) → all_for_us p ≡ false → r ≡ holding (line_of (letters "room" ++ spaced (decimal_of p.ours) ++ spaced (decimal_of p.theirs))) → Tells (Some r) (room_line p)
  unfolding room_line room_text
  room_told r g e = rw g (e, line_short (letters "room" ++ spaced (decimal_of p.ours) ++ spaced (decimal_of p.theirs)) (omega (arith, two (letters "room") p.ours p.theirs)))

-- none of them has more bytes than a line has

pub message_short : (i : ℕ) (m : Message) → length (message_line i m) ≤ line_room
unfolding message_line message_text
message_short i m =
    by_test (message_zero m)
    (λ e. rw e (omega arith))
    (λ e.
    rw e
    (line_short (letters "message" ++ spaced (decimal_of i) ++ spaced (decimal_of m.stream) ++ spaced (decimal_of m.deadline) ++ spaced (decimal_of m.used))
    (omega (arith, four (letters "message") i m.stream m.deadline m.used))))

pub staged_short : (i : ℕ) (m : Message) → length (staged_line i m) ≤ line_room
unfolding staged_line staged_text
staged_short i m =
    by_test (eqb m.stage 0)
    (λ e. rw e (omega arith))
    (λ e. rw e (line_short (letters "staged" ++ spaced (decimal_of i) ++ spaced (decimal_of m.stage)) (omega (arith, two (letters "staged") i m.stage))))

pub door_short : (i n : ℕ) → length (door_line i n) ≤ line_room
unfolding door_line door_text
door_short i n =
    by_test (eqb n 0)
    (λ e. rw e (omega arith))
    (λ e. rw e (line_short (letters "door" ++ spaced (decimal_of i) ++ spaced (decimal_of n)) (omega (arith, two (letters "door") i n))))

pub owns_short : (i : ℕ) (o : Party) → length (owns_line i o) ≤ line_room
unfolding owns_line owns_text
owns_short i Ours = omega arith
owns_short i Theirs = line_short (letters "owns" ++ spaced (decimal_of i) ++ spaced (decimal_of 1)) (omega (arith, two (letters "owns") i 1))

pub room_short : (p : Places) → length (room_line p) ≤ line_room
unfolding room_line room_text
room_short p =
    by_test (all_for_us p)
    (λ e. rw e (omega arith))
    (λ e. rw e (line_short (letters "room" ++ spaced (decimal_of p.ours) ++ spaced (decimal_of p.theirs)) (omega (arith, two (letters "room") p.ours p.theirs))))
