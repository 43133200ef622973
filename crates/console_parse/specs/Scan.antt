-- What the private functions find on the way through a line.
-- Assumes nothing.
use Rattle.std.specs.Prelude.{ℕ, suc, Bool, cond, not, ◌&&◌, ◌||◌, List, [], ◌∷◌, set, eqb, Option, Some, None}
use Prim.Native.Char.{code}
use Rattle.ascii.specs.Decimal.{read_on}
use Rattle.ascii.specs.Hex.{is_hex}
use Rattle.console_names.specs.declared.Command.{Command}
use Rattle.console_names.specs.declared.Command.TheVariants.{Unknown}
use Rattle.console_names.specs.declared.Text.{Text}
use Rattle.console_parse.specs.declared.Order.{Order}
use Rattle.console_parse.specs.Bytes.{front, behind, is_number, is_unit}
use Rattle.console_parse.specs.Lines.{text_ok, text_start, order_at}

-- the number that a word is, where it is one of at most `most`
unfoldable pub number_of : ℕ → List ℕ → Option ℕ
number_of most w = cond (is_number most w) (Some (read_on 0 w)) None

-- the number behind a space, and what is left behind it
unfoldable pub next_of : ℕ → List ℕ → Option (ℕ × List ℕ)
next_of most [] = None
next_of most (b ∷ l) = cond (eqb b (code " ") && is_number most (front l)) (Some (read_on 0 (front l), behind l)) None

-- a byte of a trace, where a p waits for its digit and where none does; and the steps that are left
abbrev pub step_byte : Bool → ℕ → Bool
step_byte waiting b = cond waiting (is_hex b) (eqb b (code "p") || is_unit b)

unfoldable pub steps_from : Bool → List ℕ → Bool
steps_from waiting [] = not waiting
steps_from waiting (b ∷ l) = step_byte waiting b && steps_from (not waiting && eqb b (code "p")) l

-- the order of a line of this size, where numbers with these limits are still to come, the next for place k, and what was read stands in
-- ns
unfoldable pub filled : ℕ → Command → Option Text → ℕ → List ℕ → List ℕ → List ℕ → Order
filled size command t k [] l ns =
    cond (text_ok t l) (record { command = command; numbers = ns; text = text_start size l }) (order_at Unknown [] size)
filled size command t k (m ∷ ms) [] ns = order_at Unknown [] size
filled size command t k (m ∷ ms) (b ∷ l) ns =
    cond (eqb b (code " ") && is_number m (front l))
    (filled size command t (suc k) ms (behind l) (set ns k (read_on 0 (front l))))
    (order_at Unknown [] size)
