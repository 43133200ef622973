-- Words and numbers among bytes.
-- Assumes nothing.
use Rattle.std.specs.Prelude.{ℕ, ◌%◌, Bool, true, cond, ◌&&◌, ◌||◌, List, [], ◌∷◌, length, leb, eqb}
use Prim.Native.Char.{code}
use Rattle.std.specs.List.{list_all}
use Rattle.laws.specs.Lists.{within}
use Rattle.ascii.specs.Decimal.{read_on, is_digit}
use Rattle.ascii.specs.Hex.{is_hex}

-- the word at the front, before the first space, and what is left behind it, from that space on
unfoldable pub front : List ℕ → List ℕ
front [] = []
front (b ∷ l) = cond (eqb b (code " ")) [] (b ∷ front l)

unfoldable pub behind : List ℕ → List ℕ
behind [] = []
behind (b ∷ l) = cond (eqb b (code " ")) (b ∷ l) (behind l)

-- "A number is 1 to 10 decimal digits", and in this place at most `most`
unfoldable pub is_number : ℕ → List ℕ → Bool
is_number most w = within 1 (length w) 10 && (list_all is_digit w && leb (read_on 0 w) most)

-- "HEX is an even number of lower-case hex digits"
unfoldable pub is_hex_text : List ℕ → Bool
is_hex_text w = eqb (length w % 2) 0 && list_all is_hex w

-- a step of one byte
abbrev pub is_unit : ℕ → Bool
is_unit b = eqb b (code "u") || eqb b (code "d")

-- "TRACE is steps of a trace with no spaces (`p1uud`) .. A TRACE that has any other byte, or ends in `p`, is `?`."
unfoldable pub is_steps : List ℕ → Bool
is_steps [] = true
is_steps (b ∷ []) = is_unit b
is_steps (b ∷ d ∷ l) = cond (eqb b (code "p")) (is_hex d && is_steps l) (is_unit b && is_steps (d ∷ l))
