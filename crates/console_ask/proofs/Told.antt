-- Places that tell a line each, or nothing: the lines of the first i stand on the page.
-- Assumes nothing.
use Prim.Native.Nat.{ℕ, suc, ◌+◌, ◌-◌, ◌*◌, ◌≤◌, ◌<◌}
use native.Mathlib.Omega.{arith}
use native.Mathlib.Numerals.{add-one}
use mathlib.Core.Path.{◌≡◌, refl, sym, ap, ◌∙◌}
use mathlib.Core.Bool.{true}
use mathlib.Core.List.{List, [], ◌∷◌, ◌++◌, append_assoc, append-nil}
use lib.ListN.{length, get_or, drop, length-append, drop_of_length-le}
use lib.Seq.{drop-cons}
use Rattle.std.proofs.Common.{Option, Some, None}
use Rattle.line.specs.declared.Line.{Line}
use Rattle.line.specs.Line.{line_room, holding}
use Rattle.page.specs.Pages.{room_for, Onto, appended, end_of}
use Rattle.page.proofs.Pieces.{onto_line, onto_none, onto_room, onto_then}
use Rattle.console_ask.specs.Questions.{Tells, TellsEach, lines_of}

pub told_line : (o : Option Line) (l : Line) (out : List ℕ) (at end : ℕ) (page : List ℕ) → o ≡ Some l → (end ≡ end_of out at l) × (page ≡ appended out at l)
    → (w : List ℕ) → Tells o w → Onto out at w end page
told_line o l out at end page e p w t =
    let some : (l ≡ holding w) × (length w ≤ line_room) = rw e at t in onto_line out w at l end page some.1 some.0 p

pub told_none : (o : Option Line) (out : List ℕ) (at : ℕ) → o ≡ None → (w : List ℕ) → Tells o w → Onto out at w at out
told_none o out at e w t = let none : w ≡ [] = rw e at t in rw none (onto_none out at)

pub tells_short : (o : Option Line) (w : List ℕ) → Tells o w → length w ≤ line_room
tells_short None w h = omega (arith, ap length h)
tells_short (Some l) w h = h.1

pub record Printing {A : Type 0} (line : ℕ → A → List ℕ) (ms : List A) (out₀ : List ℕ) (at : ℕ) (out : List ℕ) (end i : ℕ) : Type 0 where
  pub so_far : List ℕ
  pub text : so_far ++ lines_of line i (drop i ms) ≡ lines_of line 0 ms
  pub low : length so_far ≤ i * line_room
  pub onto : Onto out₀ at so_far end out

-- whichever lines they are, and if the page has the room
abbrev pub Keeps : {A : Type 0} → (ℕ → A → Option Line → Type 0) → List A → List ℕ → ℕ → List ℕ → ℕ → ℕ → Type 0
Keeps {A} post ms out₀ at out end i =
    (line : ℕ → A → List ℕ) → TellsEach post line → room_for out₀ at (length ms * line_room) ≡ true → Printing line ms out₀ at out end i

module _ {A : Type 0} (line : ℕ → A → List ℕ) (ms : List A) where
  pub print_start : (out : List ℕ) (at : ℕ) → Printing line ms out at out at 0
  print_start out at = record { so_far = []; text = refl; low = omega arith; onto = onto_none out at }

  module _ (out₀ : List ℕ) (at : ℕ) (out : List ℕ) (end i : ℕ) (p : Printing line ms out₀ at out end i) where
    pub turn : (x : A) (o : Option Line) (end' : ℕ) (out' : List ℕ) → x ≡ get_or ms i x → room_for out₀ at (length ms * line_room) ≡ true → i < length ms
        → Tells o (line i x) → Onto out end (line i x) end' out' → Printing line ms out₀ at out' end' (i + 1)
    unfolding lines_of
    turn x o end' out' e room h t q =
        let short : length (line i x) ≤ line_room = tells_short o (line i x) t in
        let at_i : get_or ms i x ∷ drop (suc i) ms ≡ x ∷ drop (i + 1) ms = rw (← e, add-one i) in
        let next : drop i ms ≡ x ∷ drop (i + 1) ms = drop-cons ms i x h ∙ at_i in
        record {
          so_far = p.so_far ++ line i x;
          text =
              append_assoc p.so_far (line i x) (lines_of line (i + 1) (drop (i + 1) ms))
              ∙ sym (ap (λ (l : List A). p.so_far ++ lines_of line i l) next)
              ∙ p.text;
          low = omega (arith, length-append p.so_far (line i x), p.low);
          onto = onto_then out₀ p.so_far at (length ms * line_room) end out room p.onto (line i x) end' out' (omega (arith, p.low)) q;
        }

    pub print_end : length ms ≤ i → Onto out₀ at (lines_of line 0 ms) end out
    unfolding lines_of
    print_end h =
        let none : drop i ms ≡ [] = drop_of_length-le ms h in
        let whole : p.so_far ≡ lines_of line 0 ms =
        sym (append-nil p.so_far) ∙ sym (ap (λ (l : List A). p.so_far ++ lines_of line i l) none) ∙ p.text in
        rw whole at p.onto

-- no more bytes than a line for each place
pub lines_short : {A : Type 0} (line : ℕ → A → List ℕ) → ((k : ℕ) (m : A) → length (line k m) ≤ line_room) → (i : ℕ) (l : List A) → length (lines_of line i l) ≤ length l * line_room
unfolding lines_of
lines_short line few i [] = omega arith
lines_short line few i (m ∷ l) =
    omega (arith, length-append (line i m) (lines_of line (i + 1) l), few i m, lines_short line few (i + 1) l)

-- ---- one piece behind the other, of a page that has the room for all

pub record Sofar (out : List ℕ) (at : ℕ) (w : List ℕ) (left end : ℕ) (page : List ℕ) : Type 0 where
  pub total : ℕ
  pub room : room_for out at total ≡ true
  pub few : length w + left ≤ total
  pub onto : Onto out at w end page

pub sofar_start : (out : List ℕ) (at n : ℕ) → room_for out at n ≡ true → Sofar out at [] n at out
sofar_start out at n h = record { total = n; room = h; few = omega arith; onto = onto_none out at }

module _ {out : List ℕ} {at : ℕ} {w : List ℕ} {left end : ℕ} {page : List ℕ} (a : Sofar out at w left end page) where
  pub sofar_room : (k : ℕ) → k ≤ left → room_for page end k ≡ true
  sofar_room k h = onto_room out w at a.total end page a.room a.onto k (omega (arith, a.few))

  pub sofar_more : (v : List ℕ) (n end' : ℕ) (page' : List ℕ) → length v ≤ n → n ≤ left → Onto page end v end' page' → Sofar out at (w ++ v) (left - n) end' page'
  sofar_more v n end' page' h g q =
      record {
        total = a.total;
        room = a.room;
        few = omega (arith, a.few, length-append w v);
        onto = onto_then out w at a.total end page a.room a.onto v end' page' (omega (arith, a.few)) q;
      }

  pub sofar_line : (v : List ℕ) (l : Line) (end' : ℕ) (page' : List ℕ) → length v ≤ line_room → line_room ≤ left → l ≡ holding v → (end' ≡ end_of page end l) × (page' ≡ appended page end l)
      → Sofar out at (w ++ v) (left - line_room) end' page'
  sofar_line v l end' page' h g e q = sofar_more v line_room end' page' h g (onto_line page v end l end' page' h e q)

  pub sofar_lines : {A : Type 0} (line : ℕ → A → List ℕ) (ms : List A) (n end' : ℕ) (page' : List ℕ) → ((k : ℕ) (m : A) → length (line k m) ≤ line_room) → length ms ≡ n
      → n * line_room ≤ left → (room_for page end (length ms * line_room) ≡ true → Onto page end (lines_of line 0 ms) end' page') → Sofar out at (w ++ lines_of line 0 ms) (left - n * line_room) end' page'
  sofar_lines line ms n end' page' few all g q =
      sofar_more (lines_of line 0 ms) (n * line_room) end' page' (omega (arith, all, lines_short line few 0 ms)) g
      (q (sofar_room (length ms * line_room) (rw all g)))
