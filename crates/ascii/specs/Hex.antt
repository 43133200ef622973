-- Hex digits, and bytes as two of them.
-- Assumes nothing.
use Rattle.std.specs.Prelude.{ℕ, ◌+◌, ◌-◌, ◌*◌, ◌/◌, ◌%◌, Bool, cond, ◌||◌, List, [], ◌∷◌, leb}
use Prim.Native.Char.{code}
use Rattle.laws.specs.Lists.{within}

-- "lower-case hex digit", and its value
abbrev pub is_hex : ℕ → Bool
is_hex b = within (code "0") b (code "9") || within (code "a") b (code "f")

abbrev pub hex_of : ℕ → ℕ
hex_of b = cond (leb b (code "9")) ((b - code "0") % 16) ((b - 87) % 16)

-- the hex digit of a number below 16
abbrev pub hex_digit : ℕ → ℕ
hex_digit n = cond (leb n 9) (code "0" + n) (87 + n)

-- the bytes that hex digits stand for, two digits a byte, and the digits of bytes
unfoldable pub unhexed : List ℕ → List ℕ
unhexed [] = []
unhexed (a ∷ []) = []
unhexed (a ∷ b ∷ w) = (hex_of a * 16 + hex_of b) ∷ unhexed w

unfoldable pub hexed : List ℕ → List ℕ
hexed [] = []
hexed (b ∷ w) = hex_digit (b / 16) ∷ hex_digit (b % 16) ∷ hexed w
