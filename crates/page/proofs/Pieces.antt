-- Pieces printed one behind the other on a page.
-- Assumes nothing.
use Prim.Native.Nat.{ℕ, ◌+◌, ◌-◌, ◌≤◌}
use native.Mathlib.Omega.{arith}
use mathlib.Core.Path.{◌≡◌, sym, ap, ap₂, ◌∙◌}
use mathlib.Core.Bool.{true}
use mathlib.Core.List.{List, [], ◌++◌}
use lib.ListN.{length}
use Rattle.line.specs.declared.Line.{Line}
use Rattle.line.specs.Line.{line_room, holding}
use Rattle.page.specs.Pages.{room_for, printed, printed_end, Onto, appended, end_of}
use Rattle.page.proofs.Prints.{room_less, line_printed, line_end, printed_nothing, end_nothing, printed_size, room_left, printed_twice, end_twice}

-- a line
pub onto_line : (out w : List ℕ) (at : ℕ) (l : Line) (end : ℕ) (page : List ℕ) → length w ≤ line_room → l ≡ holding w
    → (end ≡ end_of out at l) × (page ≡ appended out at l) → Onto out at w end page
onto_line out w at l end page h e p = (
  p.0 ∙ ap (λ (k : Line). end_of out at k) e ∙ line_end out w at h,
  p.1 ∙ ap (λ (k : Line). appended out at k) e ∙ line_printed out w at h,
)

-- nothing
pub onto_none : (out : List ℕ) (at : ℕ) → Onto out at [] at out
onto_none out at = (sym (end_nothing out at), sym (printed_nothing out at))

pub onto_size : (out w : List ℕ) (at end : ℕ) (page : List ℕ) → Onto out at w end page → length page ≡ length out
onto_size out w at end page p = ap length p.1 ∙ printed_size out w at

module _ (out v : List ℕ) (at n end : ℕ) (page : List ℕ) (e : room_for out at n ≡ true) (p : Onto out at v end page) where
  -- what is left of the room
  pub onto_room : (k : ℕ) → length v + k ≤ n → room_for page end k ≡ true
  onto_room k h =
      ap₂ (λ (o : List ℕ) (a : ℕ). room_for o a k) p.1 p.0
      ∙ room_less (printed out at v) (printed_end out at v) k (n - length v) (room_left out v at n e (omega arith)) (omega arith)

  -- a second piece
  pub onto_then : (w : List ℕ) (end' : ℕ) (page' : List ℕ) → length v + length w ≤ n → Onto page end w end' page' → Onto out at (v ++ w) end' page'
  onto_then w end' page' h q = (
    q.0 ∙ ap₂ (λ (o : List ℕ) (a : ℕ). printed_end o a w) p.1 p.0 ∙ end_twice out v w at n e h,
    q.1 ∙ ap₂ (λ (o : List ℕ) (a : ℕ). printed o a w) p.1 p.0 ∙ printed_twice out v w at n e h,
  )

-- the same bytes are printed in one way
pub onto_once : (out v w : List ℕ) (at e f : ℕ) (p q : List ℕ) → v ≡ w → Onto out at v e p → Onto out at w f q → (e ≡ f) × (p ≡ q)
onto_once out v w at e f p q same t u = (
  t.0 ∙ ap (λ (z : List ℕ). printed_end out at z) same ∙ sym u.0,
  t.1 ∙ ap (λ (z : List ℕ). printed out at z) same ∙ sym u.1,
)
