-- Laws of bytes printed on a page: beside a line's, one piece behind another, and the room that is left.
-- Assumes nothing.
use Prim.Native.Nat.{ℕ, ◌+◌, ◌-◌, ◌≤◌}
use native.Mathlib.Omega.{arith}
use mathlib.Core.Path.{◌≡◌, sym, ap, ◌∙◌}
use mathlib.Core.Bool.{true, false}
use mathlib.Core.List.{List, [], ◌++◌, append_assoc}
use lib.ListN.{length, take, drop, length-append}
use lib.Seq.{paste, paste-zero, length-paste, take-paste, drop-paste, take-length, drop-drop, take-append_seam}
use borrow.Author.Tests.{le-leb}
use Rattle.laws.specs.Bits.{zeros}
use Rattle.laws.proofs.Sums.{by_test}
use Rattle.line.specs.Line.{holding}
use Rattle.page.specs.Pages.{room_for, printed, printed_end, has_room, appended, end_of}
use Rattle.page.proofs.Rooms.{room_for_lem, room_is}

-- ---- with room and without

module _ (out w : List ℕ) (at : ℕ) where
  pub prints : room_for out at (length w) ≡ true → printed out at w ≡ paste out at w (length w)
  unfolding printed
  prints e = rw e

  pub ends : room_for out at (length w) ≡ true → printed_end out at w ≡ at + length w
  unfolding printed_end
  ends e = rw e

  pub prints_none : room_for out at (length w) ≡ false → printed out at w ≡ out
  unfolding printed
  prints_none e = rw e

  pub ends_none : room_for out at (length w) ≡ false → printed_end out at w ≡ at
  unfolding printed_end
  ends_none e = rw e

-- room for some is room for fewer
pub room_less : (out : List ℕ) (at m n : ℕ) → room_for out at n ≡ true → m ≤ n → room_for out at m ≡ true
room_less out at m n e h =
    let there : at + n ≤ length out = room_is out at n e in
    room_for_lem out at m (omega arith) (omega arith)

-- ---- a line is printed as its bytes are

module _ (out w : List ℕ) (at : ℕ) (h : length w ≤ 128) where
  same_room : has_room out at (holding w) ≡ room_for out at (length w)
  unfolding has_room holding
  same_room = rw (le-leb (length w) 128 h)

  pub line_printed : appended out at (holding w) ≡ printed out at w
  unfolding appended printed holding
  line_printed = rw same_room (rw (take-append_seam w (zeros (128 - length w)), take-length w))

  pub line_end : end_of out at (holding w) ≡ printed_end out at w
  unfolding end_of printed_end holding
  line_end = rw same_room

-- ---- the length stays

pub printed_size : (out w : List ℕ) (at : ℕ) → length (printed out at w) ≡ length out
printed_size out w at = by_test
    (room_for out at (length w))
    (λ e. ap length (prints out w at e) ∙ length-paste out at w (length w) (room_is out at (length w) e) (omega arith))
    (λ e. ap length (prints_none out w at e))

pub printed_nothing : (out : List ℕ) (at : ℕ) → printed out at [] ≡ out
printed_nothing out at = by_test
    (room_for out at 0)
    (λ e. prints out [] at e ∙ sym (paste-zero out at []))
    (λ e. prints_none out [] at e)

pub end_nothing : (out : List ℕ) (at : ℕ) → printed_end out at [] ≡ at
end_nothing out at = by_test (room_for out at 0) (λ e. omega (arith, ends out [] at e)) (λ e. ends_none out [] at e)

-- ---- one piece behind another, with room for n bytes

module _ (out w : List ℕ) (at n : ℕ) (e : room_for out at n ≡ true) (h : length w ≤ n) where
  pub printed_there : printed out at w ≡ paste out at w (length w)
  printed_there = prints out w at (room_less out at (length w) n e h)

  pub end_there : printed_end out at w ≡ at + length w
  end_there = ends out w at (room_less out at (length w) n e h)

  -- what is left of the room
  pub room_left : room_for (printed out at w) (printed_end out at w) (n - length w) ≡ true
  room_left =
      let fits : at + n ≤ length out = room_is out at n e in
      let size : length (printed out at w) ≡ length out = printed_size out w at in
      let end : printed_end out at w ≡ at + length w = end_there in
      room_for_lem (printed out at w) (printed_end out at w) (n - length w) (omega arith) (omega arith)

pub room_after : (out w : List ℕ) (at n : ℕ) → room_for out at (length w + n) ≡ true
    → room_for (printed out at w) (printed_end out at w) n ≡ true
room_after out w at n e =
    let same : length w + n - length w ≡ n = omega arith in
    ap (λ (k : ℕ). room_for (printed out at w) (printed_end out at w) k) (sym same) ∙ room_left out w at (length w + n) e (omega arith)

pasted_twice : (out w v : List ℕ) (at : ℕ) → at + (length w + length v) ≤ length out
    → paste (paste out at w (length w)) (at + length w) v (length v) ≡ paste out at (w ++ v) (length (w ++ v))
pasted_twice out w v at h =
    let before : take (at + length w) (paste out at w (length w)) ≡ take at out ++ w =
    take-paste out at w (length w) (omega arith) (omega arith) ∙ ap (λ (u : List ℕ). take at out ++ u) (take-length w) in
    let behind : drop (at + length w + length v) (paste out at w (length w)) ≡ drop (at + length (w ++ v)) out =
    sym (drop-drop (length v) (at + length w) (paste out at w (length w)))
    ∙ ap (λ (u : List ℕ). drop (length v) u) (drop-paste out at w (length w) (omega arith) (omega arith))
    ∙ drop-drop (length v) (at + length w) out
    ∙ ap (λ (k : ℕ). drop k out) (let long : at + length w + length v ≡ at + length (w ++ v) = omega (arith, length-append w v) in long) in
    rw (before, behind, take-length v, take-length (w ++ v)) (ap (λ (u : List ℕ). u ++ drop (at + length (w ++ v)) out) (append_assoc (take at out) w v))

module _ (out w v : List ℕ) (at n : ℕ) (e : room_for out at n ≡ true) (h : length w + length v ≤ n) where
  whole : length (w ++ v) ≤ n
  whole = omega (arith, length-append w v)

  second : room_for (printed out at w) (printed_end out at w) (length v) ≡ true
  second = room_less (printed out at w) (printed_end out at w) (length v) (n - length w) (room_left out w at n e (omega arith)) (omega arith)

  pub printed_twice : printed (printed out at w) (printed_end out at w) v ≡ printed out at (w ++ v)
  printed_twice =
      prints (printed out at w) v (printed_end out at w) second
      ∙ ap (λ (k : ℕ). paste (printed out at w) k v (length v)) (end_there out w at n e (omega arith))
      ∙ ap (λ (o : List ℕ). paste o (at + length w) v (length v)) (printed_there out w at n e (omega arith))
      ∙ pasted_twice out w v at (omega (arith, room_is out at n e))
      ∙ sym (printed_there out (w ++ v) at n e whole)

  pub end_twice : printed_end (printed out at w) (printed_end out at w) v ≡ printed_end out at (w ++ v)
  end_twice =
      let now : printed_end (printed out at w) (printed_end out at w) v ≡ printed_end out at w + length v = ends (printed out at w) v (printed_end out at w) second in
      omega (arith, now, end_there out w at n e (omega arith), end_there out (w ++ v) at n e whole, length-append w v)
