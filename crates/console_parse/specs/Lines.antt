-- The console's page: what a line asks for.
-- Assumes nothing.
use Rattle.std.specs.Prelude.{ℕ, ◌-◌, Bool, true, false, cond, ◌&&◌, List, [], ◌∷◌, ◌++◌, length, take, ltb, eqb, Option, Some, None}
use Prim.Native.Char.{code}
use Rattle.laws.specs.Bits.{zeros}
use Rattle.ascii.specs.Decimal.{read_on}
use Rattle.console_names.specs.declared.Command.{Command}
use Rattle.console_names.specs.declared.Command.TheVariants.{Nothing, Unknown}
use Rattle.console_names.specs.declared.Text.{Text}
use Rattle.console_names.specs.declared.Text.TheVariants.{Hex, Steps}
use Rattle.console_names.specs.Rows.{most_numbers, Wanted, row_of}
use Rattle.console_parse.specs.declared.Order.{Order}
use Rattle.console_parse.specs.Bytes.{front, behind, is_number, is_hex_text, is_steps}

-- what the text of a command is; some have none
abbrev pub is_text : Option Text → List ℕ → Bool
is_text None l = false
is_text (Some Hex) l = is_hex_text l
is_text (Some Steps) l = is_steps l

-- behind the numbers stands the text that the command asks for, behind its space. "an empty HEX leaves its space out as well (`read`)";
-- "TRACE .. or is left out with its space"
unfoldable pub text_ok : Option Text → List ℕ → Bool
text_ok t [] = true
text_ok t (b ∷ l) = eqb b (code " ") && (ltb 0 (length l) && is_text t l)

-- "words with one space between them": each number behind its space, and the text behind the last
unfoldable pub numbers_ok : Option Text → List ℕ → List ℕ → Bool
numbers_ok t [] l = text_ok t l
numbers_ok t (m ∷ ms) [] = false
numbers_ok t (m ∷ ms) (b ∷ l) = eqb b (code " ") && (is_number m (front l) && numbers_ok t ms (behind l))

unfoldable pub values_of : List ℕ → List ℕ → List ℕ
values_of [] l = []
values_of (m ∷ ms) [] = []
values_of (m ∷ ms) (b ∷ l) = read_on 0 (front l) ∷ values_of ms (behind l)

-- what is left behind the numbers
unfoldable pub rest_of : List ℕ → List ℕ → List ℕ
rest_of [] l = l
rest_of (m ∷ ms) [] = []
rest_of (m ∷ ms) (b ∷ l) = rest_of ms (behind l)

-- where the text starts in a line of this size of which l is left: behind its space, and at the line's end where there is none
abbrev pub text_start : ℕ → List ℕ → ℕ
text_start size l = size - (length l - 1)

abbrev pub order_at : Command → List ℕ → ℕ → Order
order_at k ns text = record { command = k; numbers = ns ++ zeros (most_numbers - length ns); text = text }

-- a command with its numbers and its text, where these are what the row asks for
unfoldable pub asked : ℕ → Wanted → List ℕ → Order
asked size r l =
    cond (numbers_ok r.text (take most_numbers r.most) l)
    (order_at r.command (values_of (take most_numbers r.most) l) (text_start size (rest_of (take most_numbers r.most) l)))
    (order_at Unknown [] size)

abbrev pub longest : ℕ
longest = 4096

-- "A line that is not one of those below .. prints `?` .. An empty line prints nothing. Lines are at most 4,096 bytes; a longer
-- one prints `?`."
unfoldable pub order_of : List ℕ → Order
order_of l =
    cond (eqb (length l) 0) (order_at Nothing [] 0)
    (cond (ltb longest (length l)) (order_at Unknown [] (length l))
    (asked (length l) (row_of (front l)) (behind l)))
