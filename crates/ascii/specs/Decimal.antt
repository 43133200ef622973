-- Words and numbers as bytes.
-- Assumes nothing.
use Rattle.std.specs.Prelude.{ℕ, zero, suc, ◌+◌, ◌-◌, ◌*◌, ◌/◌, ◌%◌, Bool, cond, List, [], ◌∷◌, ◌++◌, ltb, ℤ, pos, negsuc}
use Prim.Native.Char.{code}
use Prim.Native.String.{String, [] as end, ◌∷◌ as ◌then◌}
use Rattle.laws.specs.Lists.{within}

-- the bytes of a word: a letter's byte is its code
abbrev pub letters : String → List ℕ
letters end = []
letters (c then s) = code c ∷ letters s

-- the decimal digits of n, the most significant first, with none but 0 itself in front that is zero; the last k where n has more
unfoldable pub digits_of : ℕ → ℕ → List ℕ
digits_of zero n = []
digits_of (suc k) n = cond (ltb n 10) ((48 + n) ∷ []) (digits_of k (n / 10) ++ ((48 + n % 10) ∷ []))

-- no number of the machine has more than 20 digits
abbrev pub decimal_of : ℕ → List ℕ
decimal_of n = digits_of 20 n

-- "negative laxity with a minus"
abbrev pub signed_of : ℤ → List ℕ
signed_of (pos n) = decimal_of n
signed_of (negsuc n) = letters "-" ++ decimal_of (suc n)

-- behind a space
abbrev pub spaced : List ℕ → List ℕ
spaced w = letters " " ++ w

abbrev pub newline : List ℕ
newline = letters "\n"

-- the number that decimal digits stand for, behind those of a
unfoldable pub read_on : ℕ → List ℕ → ℕ
read_on a [] = a
read_on a (b ∷ w) = read_on (a * 10 + (b - 48)) w

abbrev pub is_digit : ℕ → Bool
is_digit b = within (code "0") b (code "9")
