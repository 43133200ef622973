-- The numbers of a command, filled in one after the other, and the text behind them.
-- Assumes nothing.
use Prim.Native.Nat.{ℕ, zero, suc, ◌+◌, ◌-◌, ◌≤◌, ◌<◌}
use native.Mathlib.Omega.{arith}
use native.Mathlib.Numerals.{add-one}
use mathlib.Core.Path.{◌≡◌, refl, sym, ap, ◌∙◌}
use mathlib.Core.Bool.{Bool, true, false, cond, ◌&&◌}
use mathlib.Core.List.{List, [], ◌∷◌, ◌++◌}
use mathlib.Core.Logic.{◌⊎◌, ⊎_elim, inl, inr}
use lib.ListN.{length, get_or, take, drop, set, drop_of_length-le, length-take, length-append}
use lib.Seq.{drop-cons, get_or-take, set-append_seam, append_snoc}
use lib.Dec.{eqb, ltb}
use borrow.Author.Tests.{ltb-true, ltb-false}
use Rattle.laws.proofs.Sums.{by_test}
use Rattle.laws.specs.Bits.{zeros}
use Rattle.ascii.specs.Decimal.{read_on}
use Rattle.console_names.specs.Rows.{most_numbers, Wanted}
use Rattle.console_names.specs.declared.Command.{Command}
use Rattle.console_names.specs.declared.Command.TheVariants.{Unknown}
use Rattle.console_names.specs.declared.Text.{Text}
use Rattle.console_parse.specs.declared.Order.{Order}
use Rattle.std.proofs.Common.{Option, Some, None, Bor, min}
use Rattle.std.specs.Option.{option_map}
use Rattle.console_parse.specs.Bytes.{front, behind, is_number}
use Rattle.console_parse.specs.Lines.{text_ok, text_start, order_at, numbers_ok, values_of, rest_of, asked}
use Rattle.console_parse.specs.Scan.{next_of, filled}
use Rattle.console_parse.proofs.Words.{some_pair}

abbrev value_in : Option (ℕ × List ℕ) → ℕ
value_in None = 0
value_in (Some p) = p.0

abbrev left_in : Option (ℕ × List ℕ) → List ℕ
left_in None = []
left_in (Some p) = p.1

-- what a look for the next number gave
module _ (o : Option (ℕ × Bor (List ℕ))) (p : Option (ℕ × List ℕ)) where
  pub taken : (n : ℕ) (l : Bor (List ℕ)) → o ≡ Some (n, l) → option_map (λ q. (q.0, q.1.now)) o ≡ p → p ≡ some_pair n l.now
  taken n l e f = sym f ∙ ap (option_map (λ q. (q.0, q.1.now))) e

  pub untaken : o ≡ None → option_map (λ q. (q.0, q.1.now)) o ≡ p → p ≡ None
  untaken e f = sym f ∙ ap (option_map (λ q. (q.0, q.1.now))) e

-- as many are read as there are, or as there are places for
pub all_read : (most : List ℕ) (count k e : ℕ) → e ≡ min (length most) count → e ≤ k → (count ≤ k) ⊎ (length most ≤ k)
all_read most count k e f g =
    by_test (ltb count (length most))
    (λ p. inl (omega (arith, ltb-true count (length most) p)))
    (λ p. inr (omega (arith, ltb-false count (length most) p)))

-- no number is to come behind the last
pub none_left : (most : List ℕ) (count k : ℕ) → (count ≤ k) ⊎ (length most ≤ k) → drop k (take count most) ≡ []
none_left most count k h = drop_of_length-le (take count most) {i = k} (⊎_elim (λ (p : count ≤ k). omega (arith, length-take count most)) (λ (p : length most ≤ k). omega (arith, length-take count most)) h)

pub one_left : (most : List ℕ) (count k : ℕ) → k < count → k < length most
    → drop k (take count most) ≡ get_or most k 0 ∷ drop (k + 1) (take count most)
one_left most count k h g =
    let inside : k < length (take count most) = omega (arith, length-take count most) in
    rw (drop-cons (take count most) k 0 inside, get_or-take count most k 0 h, add-one k)

-- a number that was found goes to its place; where none was found the line is no command
module _ (size : ℕ) (command : Command) (t : Option Text) (m k : ℕ) (ms ns : List ℕ) where
  pub found : (d : List ℕ) (n : ℕ) (l : List ℕ) → next_of m d ≡ some_pair n l
      → filled size command t k (m ∷ ms) d ns ≡ filled size command t (k + 1) ms l (set ns k n)
  unfolding next_of filled
  found [] n l h = cc
  found (b ∷ d) n l h = go (eqb b 32 && is_number m (front d)) (read_on 0 (front d)) h
    where
      go : (u : Bool) (v : ℕ) → cond u (some_pair v (behind d)) None ≡ some_pair n l
          → cond u (filled size command t (suc k) ms (behind d) (set ns k v)) (order_at Unknown [] size) ≡ filled size command t (k + 1) ms l (set ns k n)
      go true v y =
          let same : v ≡ n = ap value_in y in
          let left : behind d ≡ l = ap left_in y in
          rw (same, left, add-one k)
      go false v y = cc

  pub missing : (d : List ℕ) → next_of m d ≡ None → order_at Unknown [] size ≡ filled size command t k (m ∷ ms) d ns
  unfolding next_of filled
  missing [] h = refl
  missing (b ∷ l) h = go (eqb b 32 && is_number m (front l)) (read_on 0 (front l)) h
    where
      go : (u : Bool) (v : ℕ) → cond u (some_pair v (behind l)) None ≡ None
          → order_at Unknown [] size ≡ cond u (filled size command t (suc k) ms (behind l) (set ns k v)) (order_at Unknown [] size)
      go true v y = cc
      go false v y = refl

-- a turn of the loop over the numbers
module _ (size : ℕ) (command : Command) (t : Option Text) (rest most ns : List ℕ) (count k : ℕ) (o : Order)
    (y : filled size command t k (drop k (take count most)) rest ns ≡ o) where
  pub turn : (n : ℕ) (l : List ℕ) → k < count → k < length most → next_of (get_or most k 0) rest ≡ some_pair n l
      → filled size command t (k + 1) (drop (k + 1) (take count most)) l (set ns k n) ≡ o
  turn n l c m x =
      sym (found size command t (get_or most k 0) k (drop (k + 1) (take count most)) ns rest n l x) ∙ rw (one_left most count k c m) at y

  pub stop : (r : Order) → k < count → k < length most → next_of (get_or most k 0) rest ≡ None → r ≡ order_at Unknown [] size → r ≡ o
  stop r c m x e =
      e ∙ missing size command t (get_or most k 0) k (drop (k + 1) (take count most)) ns rest x ∙ rw (one_left most count k c m) at y

  -- behind the last number it is the text that decides
  module _ (b : Bool) (f : b ≡ text_ok t rest) (h : (count ≤ k) ⊎ (length most ≤ k)) where
    pub ends : (text : ℕ) → b ≡ true → text ≡ text_start size rest → ◌≡◌ {A = Order} (record { command = command; numbers = ns; text = text }) o
    unfolding filled
    ends text g e = rw (e) (last g)
      where
        last : b ≡ true → ◌≡◌ {A = Order} (record { command = command; numbers = ns; text = text_start size rest }) o
        last g = sym (ap (λ (u : Bool). cond u (record { command = command; numbers = ns; text = text_start size rest }) (order_at Unknown [] size)) (sym f ∙ g)) ∙ (rw (none_left most count k h) at y)

    pub ends_not : (r : Order) → b ≡ false → r ≡ order_at Unknown [] size → r ≡ o
    unfolding filled
    ends_not r g e = e ∙ sym (ap (λ (u : Bool). cond u (record { command = command; numbers = ns; text = text_start size rest }) (order_at Unknown [] size)) (sym f ∙ g)) ∙ (rw (none_left most count k h) at y)

-- all the numbers filled in, behind those of pre, make the command
fill_all : (size : ℕ) (command : Command) (t : Option Text) (ms l pre : List ℕ) (n : ℕ) → length ms ≤ n
    → filled size command t (length pre) ms l (pre ++ zeros n)
    ≡ cond (numbers_ok t ms l)
    (record { command = command; numbers = pre ++ (values_of ms l ++ zeros (n - length (values_of ms l))); text = text_start size (rest_of ms l) })
    (order_at Unknown [] size)
unfolding filled numbers_ok values_of rest_of
fill_all size command t [] l pre n h = let e : n - 0 ≡ n = omega arith in rw e
fill_all size command t (m ∷ ms) [] pre n h = refl
fill_all size command t (m ∷ ms) (b ∷ l) pre zero h = absurd (omega arith)
fill_all size command t (m ∷ ms) (b ∷ l) pre (suc n) h =
    let v : ℕ = read_on 0 (front l) in
    let less : length ms ≤ n = omega arith in
    let longer : suc (length pre) ≡ length (pre ++ (read_on 0 (front l) ∷ [])) = omega (arith, length-append pre (read_on 0 (front l) ∷ [])) in
    let rest : suc n - suc (length (values_of ms (behind l))) ≡ n - length (values_of ms (behind l)) = omega arith in
    rw (set-append_seam pre 0 (zeros n) (read_on 0 (front l)), ← append_snoc pre (read_on 0 (front l)) (zeros n), longer, fill_all size command t ms (behind l) (pre ++ (read_on 0 (front l) ∷ [])) n less, rest, append_snoc)
    (both (eqb b 32) (is_number m (front l)) (numbers_ok t ms (behind l)) _ _)
  where
    both : (u v k : Bool) (x y : Order) → cond (u && v) (cond k x y) y ≡ cond (u && (v && k)) x y
    both true true k x y = refl
    both true false k x y = refl
    both false v k x y = refl

pub filled_asked : (size : ℕ) (r : Wanted) (l : List ℕ) → filled size r.command r.text 0 (take most_numbers r.most) l (zeros most_numbers) ≡ asked size r l
unfolding asked
filled_asked size r l = fill_all size r.command r.text (take most_numbers r.most) l [] most_numbers (omega (arith, length-take most_numbers r.most))
