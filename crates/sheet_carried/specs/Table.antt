-- The fields of a sheet as data: a row for each, one rule for all of them, and for each version the order in which they come.
-- Assumes nothing.
use Rattle.std.specs.Prelude.{ℕ, ◌+◌, Bool, cond, ◌&&◌, List, [], ◌∷◌, get_or, eqb, ltb}
use Rattle.laws.specs.Lists.{within}
use Rattle.rules.specs.declared.Refusal.{Refusal}
use Rattle.rules.specs.declared.Refusal.TheVariants.{BitsMissing, BadVersion, OutOfRule, Leftover}
use Rattle.std.specs.Prelude.{Result, Ok, Err}
use Rattle.sheet_carried.specs.declared.SheetField.{SheetField}

-- ---- rows

-- how many bits a field has, and from where to where its value may be
abbrev pub row : ℕ → ℕ → ℕ → SheetField
row w a b = record { width = w; least = a; greatest = b }

-- a refused sheet: no bit comes any more. One row for each of 6, 7 and 10
abbrev pub refused_rows : List SheetField
refused_rows = row 0 0 0 ∷ row 0 0 0 ∷ row 0 0 0 ∷ []

-- "Then zero bits to the end of the byte and nothing more": seven at most, and a bit of a further byte, which may have no value
abbrev pub padding_rows : List SheetField
padding_rows = row 1 0 0 ∷ row 1 0 0 ∷ row 1 0 0 ∷ row 1 0 0 ∷ row 1 0 0 ∷ row 1 0 0 ∷ row 1 0 0 ∷ row 1 1 0 ∷ refused_rows

-- "tuples less one (2); for each tuple cycle (20, 0 for once), offset (17)"
abbrev pub tuple_rows : List SheetField
tuple_rows = row 2 0 3 ∷ row 20 0 1000000 ∷ row 17 0 100000 ∷ padding_rows

-- "2 bits of stages less one"; "task (4), cost (16)"
abbrev pub stage_rows : List SheetField
stage_rows = row 2 0 3 ∷ row 4 0 15 ∷ row 16 1 65535 ∷ tuple_rows

-- "version (4 bits, 1), stream count (5)", or version 2; "deadline (18)"
abbrev pub sheet_fields : List SheetField
sheet_fields = row 4 1 2 ∷ row 5 0 16 ∷ row 18 1 200000 ∷ stage_rows

-- where each stands
abbrev pub at_version : ℕ
at_version = 0

abbrev pub at_count : ℕ
at_count = 1

abbrev pub at_deadline : ℕ
at_deadline = 2

abbrev pub at_stages : ℕ
at_stages = 3

abbrev pub at_task : ℕ
at_task = 4

abbrev pub at_cost : ℕ
at_cost = 5

abbrev pub at_tuples : ℕ
at_tuples = 6

abbrev pub at_cycle : ℕ
at_cycle = 7

abbrev pub at_offset : ℕ
at_offset = 8

abbrev pub at_padding : ℕ
at_padding = 9

abbrev pub at_refused : ℕ
at_refused = 17

abbrev pub rows : ℕ
rows = 20

-- the field of a row; behind the last there is none
unfoldable pub row_of : ℕ → SheetField
row_of f = get_or sheet_fields f (row 0 0 0)

abbrev pub width_of : ℕ → ℕ
width_of f = (row_of f).width

-- "the first is 0 and they never fall": an offset behind n tuples, the last of them at the offset low
unfoldable pub least_of : ℕ → ℕ → ℕ
least_of f low = cond (eqb f at_offset) low (row_of f).least

unfoldable pub greatest_of : ℕ → ℕ → ℕ
greatest_of f n = cond (eqb f at_offset && eqb n 0) 0 (row_of f).greatest

unfoldable pub in_rule_of : ℕ → ℕ → ℕ → ℕ → Bool
in_rule_of f n low v = within (least_of f low) v (greatest_of f n)

-- "a bad version 6, else a value outside the rules 7"; "a set padding bit or a further byte gives 10"
unfoldable pub refusal_of : ℕ → ℕ
refusal_of f = cond (eqb f at_version) 17 (cond (ltb f at_padding) 18 19)

-- ---- the orders: behind each row the one that comes, where no further stage or tuple of the stream does

-- "for each stream task (4), cost (16), deadline (18), tuples less one (2)"
abbrev pub first_order : List ℕ
first_order = at_count ∷ at_task ∷ at_tuples ∷ at_task ∷ at_cost ∷ at_deadline ∷ at_cycle ∷ at_offset ∷ []

-- "Sheets of version 2 carry, after the deadline, 2 bits of stages less one and that many task and cost pairs in place of the single pair."
abbrev pub second_order : List ℕ
second_order = at_count ∷ at_deadline ∷ at_stages ∷ at_task ∷ at_cost ∷ at_tuples ∷ at_cycle ∷ at_offset ∷ []

abbrev pub order_of : Bool → List ℕ
order_of first = cond first first_order second_order

unfoldable pub behind_of : ℕ → ℕ → ℕ
behind_of version f = get_or (order_of (eqb version 1)) f (f + 1)

-- what comes behind k whole streams of n
unfoldable pub opened_of : ℕ → ℕ → ℕ → ℕ
opened_of version k n = cond (ltb k n) (behind_of version at_count) at_padding

-- what comes behind a field with the value v: behind the count the padding, where there is no stream
unfoldable pub following_of : ℕ → ℕ → ℕ → ℕ
following_of version f v = cond (eqb f at_count) (opened_of version 0 v) (behind_of version f)

-- ---- the end

-- what the sheet reads as when no bit comes any more
unfoldable pub why_of : ℕ → Refusal
why_of f = cond (eqb f 17) BadVersion (cond (eqb f 18) OutOfRule Leftover)

unfoldable pub answer_of : ℕ → Result (Unit {0}) Refusal
answer_of f = cond (ltb f at_padding) (Err BitsMissing) (cond (ltb f at_refused) (Ok tt) (Err (why_of f)))
