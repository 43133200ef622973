-- Laws of pages: with and without room, and what a page holds behind a line that was put on it.
-- Assumes nothing.
use Prim.Native.Nat.{ℕ, ◌+◌, ◌-◌, ◌≤◌, ◌<◌}
use native.Mathlib.Omega.{arith}
use mathlib.Core.Path.{◌≡◌, refl, sym, ap, ◌∙◌}
use mathlib.Core.Bool.{true, false}
use mathlib.Core.List.{List, ◌++◌, map}
use native.Mathlib.Numerals.{add-one}
use lib.ListN.{length, get_or, take, drop, set, length-map, length-append}
use lib.Seq.{paste, paste-suc, take-paste, drop-paste, length-paste, take-append_seam}
use lib.Dec.{leb}
use borrow.Author.Tests.{le-leb, lt-leb, leb-true}
use Rattle.laws.specs.Bits.{zeros}
use Rattle.laws.proofs.Sums.{and_parts, and_no, by_test}
use Rattle.line.specs.declared.Line.{Line}
use Rattle.line.specs.Line.{holding}
use Rattle.page.specs.Pages.{room_for, has_room, appended, end_of}

module _ (out : List ℕ) (at n : ℕ) where
  pub room_for_lem : at ≤ length out → n ≤ length out - at → room_for out at n ≡ true
  unfolding room_for
  room_for_lem b c = rw (le-leb at (length out) b, le-leb n (length out - at) c)

  pub no_room : length out < at + n → room_for out at n ≡ false
  unfolding room_for
  no_room h = by_test
      (leb at (length out))
      (λ e. and_no (leb at (length out)) (leb n (length out - at)) (lt-leb n (length out - at) (omega (arith, leb-true at (length out) e))))
      (λ e. rw e)

  pub room_is : room_for out at n ≡ true → at + n ≤ length out
  unfolding room_for
  room_is e =
      let parts = and_parts (leb at (length out)) (leb n (length out - at)) e in
      omega (arith, leb-true at (length out) parts.0, leb-true n (length out - at) parts.1)

module _ (out : List ℕ) (at : ℕ) (l : Line) where
  pub room : l.len ≤ 128 → room_for out at l.len ≡ true → has_room out at l ≡ true
  unfolding has_room
  room a b = rw (le-leb l.len 128 a, b)

  pub too_long : 128 < l.len → has_room out at l ≡ false
  unfolding has_room
  too_long h = rw (lt-leb l.len 128 h)

  pub too_full : room_for out at l.len ≡ false → has_room out at l ≡ false
  unfolding has_room
  too_full h = and_no (leb l.len 128) (room_for out at l.len) h

  pub stays : has_room out at l ≡ false → (at ≡ end_of out at l) × (out ≡ appended out at l)
  unfolding end_of appended
  stays h = rw h (refl, refl)

  pub goes : (o : List ℕ) → has_room out at l ≡ true → o ≡ paste out at l.bytes l.len → (at + l.len ≡ end_of out at l) × (o ≡ appended out at l)
  unfolding end_of appended
  goes o h e = rw h (refl, e)

-- a line that holds w, put on a page that has the room
module _ (out w : List ℕ) (at : ℕ) (h : length w ≤ 128) (g : at + length w ≤ length out) where
  there : has_room out at (holding w) ≡ true
  unfolding holding
  there = room out at (holding w) h (room_for_lem out at (length w) (omega arith) (omega arith))

  inside : length w ≤ length (w ++ zeros (128 - length w))
  inside = omega (arith, length-append w (zeros (128 - length w)))

  pub end_at : end_of out at (holding w) ≡ at + length w
  unfolding end_of holding
  end_at = rw there

  pub holds_then : take (at + length w) (appended out at (holding w)) ≡ take at out ++ w
  unfolding appended holding
  holds_then =
      rw there
      (take-paste out at (w ++ zeros (128 - length w)) (length w) (omega arith) inside
      ∙ ap (λ (v : List ℕ). take at out ++ v) (take-append_seam w (zeros (128 - length w))))

  pub same_size : length (appended out at (holding w)) ≡ length out
  unfolding appended holding
  same_size = rw there (length-paste out at (w ++ zeros (128 - length w)) (length w) g inside)

  pub rest_stays : drop (at + length w) (appended out at (holding w)) ≡ drop (at + length w) out
  unfolding appended holding
  rest_stays = rw there (drop-paste out at (w ++ zeros (128 - length w)) (length w) (omega arith) inside)

-- an array's length, as the machine tells it
pub sized : (l : List ℕ) (n : ℕ) → length (map (λ (v : ℕ). v) l) ≡ n → length l ≡ n
sized l n h = sym (length-map l (λ (v : ℕ). v)) ∙ h

-- a turn of a loop that copies
pub copy_turn : (d₀ d s : List ℕ) (to i : ℕ) → d ≡ paste d₀ to s i → to + i < length d₀ → i < length s
    → set d (to + i) (get_or s i 0) ≡ paste d₀ to s (i + 1)
copy_turn d₀ d s to i e h g = rw (e, add-one i) (paste-suc d₀ to s i 0 h g)
