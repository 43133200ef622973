-- Laws of lines: parts put one behind the other, and what a line then holds.
-- Assumes nothing.
use Prim.Native.Nat.{ℕ, zero, suc, ◌+◌, ◌-◌, ◌/◌, ◌%◌, ◌≤◌, ◌<◌}
use native.Mathlib.Omega.{arith}
use native.Mathlib.Numerals.{add-one}
use mathlib.Core.Path.{◌≡◌, refl, sym, ap, ◌∙◌}
use mathlib.Core.List.{List, [], ◌∷◌, ◌++◌, append-nil}
use lib.ListN.{length, get_or, drop, length-append, drop_of_length-le}
use lib.Seq.{set-append_seam, append_snoc, drop-cons}
use borrow.Author.Tests.{lt-ltb, le-ltb}
use Rattle.line.specs.declared.Line.{Line}
use Rattle.ascii.specs.Decimal.{digits_of}
use Rattle.line.specs.Line.{holding, put_of, puts}

pub puts_append : (l : Line) (v w : List ℕ) → puts (puts l v) w ≡ puts l (v ++ w)
unfolding puts
puts_append l [] w = refl
puts_append l (b ∷ v) w = puts_append (put_of l b) v w

-- one part behind another
pub then : (l m r : Line) (v w : List ℕ) → m ≡ puts l v → r ≡ puts m w → r ≡ puts l (v ++ w)
then l m r v w e f = cc (puts_append l v w)

-- one byte is a part
pub single : (l : Line) (b : ℕ) → put_of l b ≡ puts l (b ∷ [])
unfolding puts
single l b = refl

-- a byte in front of a part, and behind one
pub first : (l m r : Line) (b : ℕ) (w : List ℕ) → m ≡ put_of l b → r ≡ puts m w → r ≡ puts l (b ∷ w)
first l m r b w e f = then l m r (b ∷ []) w (e ∙ single l b) f

pub last : (l m r : Line) (v : List ℕ) (b : ℕ) → m ≡ puts l v → r ≡ put_of m b → r ≡ puts l (v ++ (b ∷ []))
last l m r v b e f = then l m r v (b ∷ []) e (f ∙ single m b)

-- a byte that is put on a line that holds v
put_holding : (v : List ℕ) (b : ℕ) → length v < 128 → put_of (holding v) b ≡ holding (v ++ (b ∷ []))
unfolding put_of holding
put_holding v b h =
    let room : 128 - length v ≡ suc (127 - length v) = omega arith in
    let rest : 128 - length (v ++ (b ∷ [])) ≡ 127 - length v = omega (arith, length-append v (b ∷ [])) in
    let size : length (v ++ (b ∷ [])) ≡ length v + 1 = length-append v (b ∷ []) in
    rw (lt-ltb (length v) 128 h, rest, size, room, set-append_seam, append_snoc)

-- a line that has the room holds what it held, and behind it what was put there
pub holds : (v w : List ℕ) → length v + length w ≤ 128 → puts (holding v) w ≡ holding (v ++ w)
unfolding puts
holds v [] h = rw append-nil
holds v (b ∷ w) h =
    let now : length v < 128 = omega arith in
    let later : length (v ++ (b ∷ [])) + length w ≤ 128 = omega (arith, length-append v (b ∷ [])) in
    rw (put_holding v b now) (holds (v ++ (b ∷ [])) w later ∙ ap holding (append_snoc v b w))

-- the loop that puts a word: what is left of it, put on what the line has now, gives the same line at each turn
pub turn : (l next m : Line) (w : List ℕ) (i : ℕ) → puts next (drop i w) ≡ l → i < length w → m ≡ put_of next (get_or w i 0)
    → puts m (drop (i + 1) w) ≡ l
unfolding puts
turn l next m w i e h f = rw f (sym (rw (drop-cons w i 0 h, ← add-one i) at (sym e)))

pub done : (l next : Line) (w : List ℕ) (i : ℕ) → puts next (drop i w) ≡ l → length w ≤ i → next ≡ l
unfolding puts
done l next w i e h = rw (drop_of_length-le w h) at e

-- the digits of a number: the first of them, then the last
pub none : (l : Line) (k n : ℕ) → k ≡ 0 → l ≡ puts l (digits_of k n)
unfolding puts digits_of
none l k n e = rw e

pub small : (l m : Line) (k n b : ℕ) → (k ≡ 0 → ⊥) → n < 10 → b ≡ 48 + n → m ≡ put_of l b → m ≡ puts l (digits_of k n)
unfolding puts digits_of
small l m zero n b h _ _ _ = absurd (h refl)
small l m (suc k) n b _ g e f = rw (lt-ltb n 10 g) (f ∙ ap (put_of l) e)

pub large : (l m r : Line) (k n b : ℕ) → (k ≡ 0 → ⊥) → 10 ≤ n → m ≡ puts l (digits_of (k - 1) (n / 10)) → b ≡ 48 + n % 10
    → r ≡ put_of m b → r ≡ puts l (digits_of k n)
unfolding digits_of
large l m r zero n b h _ _ _ _ = absurd (h refl)
large l m r (suc k) n b _ g e a f =
    let less : suc k - 1 ≡ k = omega arith in
    rw (le-ltb n 10 g) (last l m r (digits_of k (n / 10)) (48 + n % 10) (rw less at e) (f ∙ ap (put_of m) a))
