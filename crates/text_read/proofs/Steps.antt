-- The loop that feeds a text's bytes.
-- Assumes nothing.
use Rattle.std.proofs.Common.{ℕ, ◌+◌, ◌<◌, ◌≤◌, ◌≡◌, List, length, get_or, drop, add-one, drop-cons, sym}
use lib.ListN.{drop_of_length-le}
use Rattle.std.specs.Prelude.{Result, Ok, Err}
use Rattle.text_line.specs.Lines.{leads}
use Rattle.text_read.specs.declared.BadLine.{BadLine}
use Rattle.text_read.specs.declared.Draft.{Draft}
use Rattle.text_read.specs.Texts.{leaves, step_of, feed_of}

-- what a byte that is taken in place comes to
module _ (r : Result (Unit {0}) BadLine) (e : Draft) (z : Result Draft BadLine) (is : leaves r e ≡ z) where
  pub took : (x : Unit {0}) → r ≡ Ok x → z ≡ Ok e
  unfolding leaves leads
  took x f = sym (rw f at is)

  pub took_bad : (bad : BadLine) → r ≡ Err bad → z ≡ Err bad
  unfolding leaves leads
  took_bad bad f = sym (rw f at is)

module _ (d : Draft) (l : List ℕ) (i : ℕ) (z : Result Draft BadLine) (inv : feed_of d (drop i l) ≡ z) where
  next : i < length l → leads (step_of d (get_or l i 0)) (λ e. feed_of e (drop (i + 1) l)) ≡ z
  unfolding feed_of
  next h = rw add-one (rw (drop-cons l i 0 h) at inv)

  pub feed_turn : (e : Draft) → i < length l → step_of d (get_or l i 0) ≡ Ok e → feed_of e (drop (i + 1) l) ≡ z
  unfolding leads
  feed_turn e h f = rw f at (next h)

  pub feed_faulty : (bad : BadLine) → i < length l → step_of d (get_or l i 0) ≡ Err bad → Err bad ≡ z
  unfolding leads
  feed_faulty bad h f = rw f at (next h)

  pub feed_end : length l ≤ i → Ok d ≡ z
  unfolding feed_of
  feed_end h = rw (drop_of_length-le l h) at inv
