-- The table of fields: what holds of every row, and a row and its values by cases.
-- Assumes nothing.
use Prim.Native.Nat.{ℕ, zero, suc, ◌+◌, ◌-◌, ◌≤◌, ◌<◌}
use mathlib.Core.List.{List, [], ◌∷◌}
use mathlib.Core.Path.{◌≡◌, refl, sym, ap, ap₂, ◌∙◌}
use mathlib.Core.Bool.{Bool, true, false, cond, ◌&&◌}
use native.Mathlib.Omega.{arith}
use lib.ListN.{length, take, drop, get_or, get_or-eq_default}
use lib.Seq.{get_or-drop, get_or-take}
use lib.Dec.{eqb, leb, ltb}
use borrow.Author.Tests.{eq-eqb, eqb-false, eqb-true, le-leb, lt-leb, leb-true, ltb-false, ltb-true, ne_eqb}
use Rattle.std.specs.List.{list_all}
use Rattle.laws.specs.Lists.{All, within}
use Rattle.laws.proofs.Sums.{and_no, and_parts, by_test}
use Rattle.sheet_carried.specs.declared.SheetField.{SheetField}
use Rattle.sheet_carried.specs.declared.Point.{Point}
use Rattle.sheet_carried.specs.Table.{behind_of, first_order, greatest_of, in_rule_of, least_of, order_of, refusal_of, row, row_of, second_order, sheet_fields, width_of}
use Rattle.sheet_carried.specs.Reader.{rule_of, value_at}
use Rattle.sheet_carried.proofs.Filled.{cond_elim}

-- ---- widths

column_le : (m : ℕ) (l : List SheetField) → list_all (λ (r : SheetField). leb r.width m) l ≡ true → (f : ℕ) → (get_or l f (row 0 0 0)).width ≤ m
column_le m [] e f = omega arith
column_le m (r ∷ l) e zero = leb-true r.width m (and_parts (leb r.width m) (list_all (λ (q : SheetField). leb q.width m) l) e).0
column_le m (r ∷ l) e (suc f) = column_le m l (and_parts (leb r.width m) (list_all (λ (q : SheetField). leb q.width m) l) e).1 f

column_ge : (m : ℕ) (l : List SheetField) → list_all (λ (r : SheetField). leb m r.width) l ≡ true → (f : ℕ) → f < length l → m ≤ (get_or l f (row 0 0 0)).width
column_ge m [] e f h = absurd (omega arith)
column_ge m (r ∷ l) e zero h = leb-true m r.width (and_parts (leb m r.width) (list_all (λ (q : SheetField). leb m q.width) l) e).0
column_ge m (r ∷ l) e (suc f) h = column_ge m l (and_parts (leb m r.width) (list_all (λ (q : SheetField). leb m q.width) l) e).1 f (omega arith)

-- the rows from j on
row_behind : (j f : ℕ) → j ≤ f → row_of f ≡ get_or (drop j sheet_fields) (f - j) (row 0 0 0)
unfolding row_of
row_behind j f h = ap (λ (i : ℕ). get_or sheet_fields i (row 0 0 0)) (let q : f ≡ j + (f - j) = omega arith in q) ∙ sym (get_or-drop j sheet_fields (f - j) (row 0 0 0))

behind_le : (m j f : ℕ) → j ≤ f → list_all (λ (r : SheetField). leb r.width m) (drop j sheet_fields) ≡ true → width_of f ≤ m
behind_le m j f h e = omega (arith, column_le m (drop j sheet_fields) e (f - j), ap (λ (r : SheetField). r.width) (row_behind j f h))

pub width_le : (f : ℕ) → width_of f ≤ 20
width_le f = behind_le 20 0 f (omega arith) refl

-- a bit of padding is a field of its own
pub width_pad : (f : ℕ) → 9 ≤ f → width_of f ≤ 1
width_pad f h = behind_le 1 9 f h refl

-- a refused sheet has no bit to come, and any other has
pub width_none : (f : ℕ) → 17 ≤ f → width_of f ≤ 0
width_none f h = behind_le 0 17 f h refl

pub width_some : (f : ℕ) → f < 17 → 0 < width_of f
unfolding row_of
width_some f h = omega (arith, column_ge 1 (take 17 sheet_fields) refl f (omega arith), ap (λ (r : SheetField). r.width) (get_or-take 17 sheet_fields f (row 0 0 0) h))

pub row_some : (f : ℕ) → 0 < width_of f → f < 17
row_some f h = by_test (ltb f 17) (λ e. omega (arith, ltb-true f 17 e)) (λ e. absurd (omega (arith, width_none f (ltb-false f 17 e))))

-- ---- refusals

pub refusal_row : (f : ℕ) → (17 ≤ refusal_of f) × (refusal_of f < 20)
unfolding refusal_of
refusal_row f =
    cond_elim (λ (g : ℕ). (17 ≤ g) × (g < 20)) (eqb f 0) 17 (cond (ltb f 9) 18 19) (λ e. (omega arith, omega arith))
    (λ e. cond_elim (λ (g : ℕ). (17 ≤ g) × (g < 20)) (ltb f 9) 18 19 (λ q. (omega arith, omega arith)) (λ q. (omega arith, omega arith)))

-- ---- what a value may be

pub rule_high : (f n low v : ℕ) → in_rule_of f n low v ≡ true → v ≤ greatest_of f n
unfolding in_rule_of
rule_high f n low v e = leb-true v (greatest_of f n) (and_parts (leb (least_of f low) v) (leb v (greatest_of f n)) e).1

pub rule_offset : (p : Point) (vs : List ℕ) (r : SheetField) (m : ℕ) → p.row ≡ 8 → r ≡ row_of p.row → m ≡ greatest_of 8 p.whole → row r.width (value_at vs 8) m ≡ rule_of p vs
unfolding rule_of least_of
rule_offset p vs r m e h k =
    ap₂ (λ (q : SheetField) (i : ℕ). row q.width (value_at vs 8) i) h k ∙ ap (λ (g : ℕ). row (width_of p.row) (least_of g (value_at vs 8)) (greatest_of g p.whole)) (sym e)

pub rule_other : (p : Point) (vs : List ℕ) → (p.row ≡ 8 → ⊥) → row_of p.row ≡ rule_of p vs
unfolding rule_of least_of greatest_of
rule_other p vs h =
    ap (λ (t : Bool). row (width_of p.row) (cond t (value_at vs 8) (row_of p.row).least) (cond (t && eqb p.whole 0) 0 (row_of p.row).greatest)) (sym (ne_eqb p.row 8 h))

pub within_zero : (v b : ℕ) → within 0 v b ≡ leb v b
within_zero v b = ap (λ (t : Bool). t && leb v b) (le-leb 0 v (omega arith))

pub within_all : (v b : ℕ) → v ≤ b → within 0 v b ≡ true
within_all v b h = within_zero v b ∙ le-leb v b h

-- ---- by cases

pub by_value_row : (P : ℕ → Type 0) → P 0 → P 1 → P 2 → P 3 → P 4 → P 5 → P 6 → P 7 → P 8 → (f : ℕ) → f < 9 → P f
by_value_row P a b c d e f g h i zero k = a
by_value_row P a b c d e f g h i (suc zero) k = b
by_value_row P a b c d e f g h i (suc (suc zero)) k = c
by_value_row P a b c d e f g h i (suc (suc (suc zero))) k = d
by_value_row P a b c d e f g h i (suc (suc (suc (suc zero)))) k = e
by_value_row P a b c d e f g h i (suc (suc (suc (suc (suc zero))))) k = f
by_value_row P a b c d e f g h i (suc (suc (suc (suc (suc (suc zero)))))) k = g
by_value_row P a b c d e f g h i (suc (suc (suc (suc (suc (suc (suc zero))))))) k = h
by_value_row P a b c d e f g h i (suc (suc (suc (suc (suc (suc (suc (suc zero)))))))) k = i
by_value_row P a b c d e f g h i (suc (suc (suc (suc (suc (suc (suc (suc (suc j))))))))) k = absurd (omega arith)

-- nine values, each by itself
pub by_values : (P : List ℕ → Type 0) → ((a b c d e f g h i : ℕ) → P (a ∷ b ∷ c ∷ d ∷ e ∷ f ∷ g ∷ h ∷ i ∷ [])) → (vs : List ℕ) → length vs ≡ 9 → P vs
by_values P q [] k = absurd (omega arith)
by_values P q (a ∷ []) k = absurd (omega arith)
by_values P q (a ∷ b ∷ []) k = absurd (omega arith)
by_values P q (a ∷ b ∷ c ∷ []) k = absurd (omega arith)
by_values P q (a ∷ b ∷ c ∷ d ∷ []) k = absurd (omega arith)
by_values P q (a ∷ b ∷ c ∷ d ∷ e ∷ []) k = absurd (omega arith)
by_values P q (a ∷ b ∷ c ∷ d ∷ e ∷ f ∷ []) k = absurd (omega arith)
by_values P q (a ∷ b ∷ c ∷ d ∷ e ∷ f ∷ g ∷ []) k = absurd (omega arith)
by_values P q (a ∷ b ∷ c ∷ d ∷ e ∷ f ∷ g ∷ h ∷ []) k = absurd (omega arith)
by_values P q (a ∷ b ∷ c ∷ d ∷ e ∷ f ∷ g ∷ h ∷ i ∷ []) k = q a b c d e f g h i
by_values P q (a ∷ b ∷ c ∷ d ∷ e ∷ f ∷ g ∷ h ∷ i ∷ j ∷ l) k = absurd (omega arith)

-- a padding bit must be 0, and there are seven at most
zero_is : (v : ℕ) → within 0 v 0 ≡ eqb v 0 && true
zero_is v =
    by_test (eqb v 0) (λ e. ap (λ (u : ℕ). within 0 u 0) (eqb-true v 0 e) ∙ sym (ap (λ (t : Bool). t && true) e))
    (λ e. within_zero v 0 ∙ lt-leb v 0 (omega (arith, eqb-false v 0 e)) ∙ sym (ap (λ (t : Bool). t && true) e))

none_is : (v : ℕ) → within 1 v 0 ≡ eqb v 0 && false
none_is v =
    by_test (leb 1 v) (λ e. ap (λ (t : Bool). t && leb v 0) e ∙ lt-leb v 0 (omega (arith, leb-true 1 v e)) ∙ sym (and_no (eqb v 0) false refl))
    (λ e. ap (λ (t : Bool). t && leb v 0) e ∙ sym (and_no (eqb v 0) false refl))

-- the rows of padding from the first on
pub by_padding : (P : ℕ → Type 0) → P 0 → P 1 → P 2 → P 3 → P 4 → P 5 → P 6 → P 7 → (f : ℕ) → 9 ≤ f → f < 17 → P (f - 9)
by_padding P a b c d e g h i f k l =
    by_value_row (λ (j : ℕ). j < 8 → P j) (λ _. a) (λ _. b) (λ _. c) (λ _. d) (λ _. e) (λ _. g) (λ _. h) (λ _. i) (λ q. absurd (omega arith)) (f - 9) (omega arith) (omega arith)

pub pad_rule : (f n low v : ℕ) → 9 ≤ f → f < 17 → in_rule_of f n low v ≡ eqb v 0 && ltb (f - 9) 7
unfolding in_rule_of least_of greatest_of row_of
pad_rule f n low v h k =
    ap (λ (g : ℕ). in_rule_of g n low v) (let e : f ≡ 9 + (f - 9) = omega arith in e)
    ∙ by_padding (λ (g : ℕ). in_rule_of (9 + g) n low v ≡ eqb v 0 && ltb g 7) (zero_is v) (zero_is v) (zero_is v) (zero_is v) (zero_is v) (zero_is v) (zero_is v) (none_is v) f h k

-- the rows of seven padding bits are the same
pub padding_row : (f : ℕ) → 9 ≤ f → f < 17 → (f ≡ 16 → ⊥) → row_of f ≡ row 1 0 0
unfolding row_of
padding_row f h k z =
    row_behind 9 f h
    ∙ by_padding (λ (g : ℕ). g < 7 → get_or (drop 9 sheet_fields) g (row 0 0 0) ≡ row 1 0 0) (λ _. refl) (λ _. refl) (λ _. refl) (λ _. refl) (λ _. refl) (λ _. refl) (λ _. refl) (λ i. absurd (omega arith)) f h k (omega (arith, z))

-- and those from the first refusal on
none_all : (l : List SheetField) → All (λ (r : SheetField). r ≡ row 0 0 0) l → (f : ℕ) → get_or l f (row 0 0 0) ≡ row 0 0 0
none_all [] a f = refl
none_all (r ∷ l) a zero = a.0
none_all (r ∷ l) a (suc f) = none_all l a.1 f

pub refused_row : (f : ℕ) → 17 ≤ f → row_of f ≡ row 0 0 0
refused_row f h = row_behind 17 f h ∙ none_all (drop 17 sheet_fields) (refl, (refl, (refl, tt))) (f - 17)

-- what a match on the row leaves for its last way
pub last_value : (f : ℕ) → f < 9 → (f ≡ 0 → ⊥) → (f ≡ 1 → ⊥) → (f ≡ 2 → ⊥) → (f ≡ 3 → ⊥) → (f ≡ 4 → ⊥) → (f ≡ 5 → ⊥) → (f ≡ 6 → ⊥) → (f ≡ 7 → ⊥) → f ≡ 8
last_value f h a b c d e g i j =
    by_test (eqb f 8) (λ q. eqb-true f 8 q) (λ q. absurd (by_value_row (λ (m : ℕ). f ≡ m → ⊥) a b c d e g i j (eqb-false f 8 q) f h refl))

-- ---- the orders

-- version 1 differs from the next row at three places, version 2 at none
pub first_behind : (version f r : ℕ) → version ≡ 1 → r ≡ get_or first_order f (f + 1) → r ≡ behind_of version f
unfolding behind_of
first_behind version f r e h = h ∙ ap (λ (t : Bool). get_or (order_of t) f (f + 1)) (sym (eq-eqb version 1 e))

pub first_next : (f : ℕ) → f < 9 → (f ≡ 1 → ⊥) → (f ≡ 2 → ⊥) → (f ≡ 5 → ⊥) → f + 1 ≡ get_or first_order f (f + 1)
first_next f h =
    by_value_row (λ (g : ℕ). (g ≡ 1 → ⊥) → (g ≡ 2 → ⊥) → (g ≡ 5 → ⊥) → g + 1 ≡ get_or first_order g (g + 1)) (λ a b c. refl) (λ a b c. absurd (a refl)) (λ a b c. absurd (b refl)) (λ a b c. refl) (λ a b c. refl) (λ a b c. absurd (c refl)) (λ a b c. refl) (λ a b c. refl) (λ a b c. refl) f h

pub second_behind : (version f : ℕ) → (version ≡ 1 → ⊥) → f < 9 → f + 1 ≡ behind_of version f
unfolding behind_of
second_behind version f e h =
    by_value_row (λ (g : ℕ). g + 1 ≡ get_or second_order g (g + 1)) refl refl refl refl refl refl refl refl refl f h
    ∙ ap (λ (t : Bool). get_or (order_of t) f (f + 1)) (sym (ne_eqb version 1 e))

-- behind padding comes the next row, in either
order_out : (t : Bool) (f d : ℕ) → 9 ≤ f → get_or (order_of t) f d ≡ d
order_out true f d h = get_or-eq_default first_order d {n = f} (omega arith)
order_out false f d h = get_or-eq_default second_order d {n = f} (omega arith)

pub behind_padding : (version f : ℕ) → 9 ≤ f → behind_of version f ≡ f + 1
unfolding behind_of
behind_padding version f h = order_out (eqb version 1) f (f + 1) h

-- a row behind which both versions have the next one
pub same_order : (f : ℕ) → get_or first_order f (f + 1) ≡ f + 1 → get_or second_order f (f + 1) ≡ f + 1 → (version : ℕ) → behind_of version f ≡ f + 1
unfolding behind_of
same_order f a b version = cond_elim (λ (l : List ℕ). get_or l f (f + 1) ≡ f + 1) (eqb version 1) first_order second_order (λ _. a) (λ _. b)
