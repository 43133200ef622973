-- Numbers as bits, most significant first, and strings of bytes as strings of bits.
-- Assumes nothing.
use Rattle.std.specs.Prelude.{ℕ, zero, suc, ◌+◌, ◌*◌, ◌/◌, ◌%◌, ◌^◌, List, [], ◌∷◌, ◌++◌, length, take, drop, replicate}

-- the w lowest bits of a number: a field of width w
unfoldable pub to_bits : ℕ → ℕ → List ℕ
to_bits zero v = []
to_bits (suc w) v = v / 2 ^ w % 2 ∷ to_bits w v

-- what a number is once these bits have been put behind its own
unfoldable pub onto : ℕ → List ℕ → ℕ
onto a [] = a
onto a (b ∷ bs) = onto (a * 2 + b) bs

-- the number that bits stand for
abbrev pub value : List ℕ → ℕ
value bs = onto 0 bs

-- the bits of a string of bytes: a byte is a field of width 8
unfoldable pub bits : List ℕ → List ℕ
bits [] = []
bits (b ∷ s) = to_bits 8 b ++ bits s

abbrev pub zeros : ℕ → List ℕ
zeros n = replicate n 0

-- as many bytes as n bits need
abbrev pub bytes_for : ℕ → ℕ
bytes_for n = (n + 7) / 8

-- the first n bytes of a string of bits
unfoldable pub bytes : ℕ → List ℕ → List ℕ
bytes zero bs = []
bytes (suc n) bs = value (take 8 bs) ∷ bytes n (drop 8 bs)

-- bits as bytes, with zero bits to the end of the last byte
unfoldable pub pack : List ℕ → List ℕ
pack bs = bytes (bytes_for (length bs)) (bs ++ zeros 7)
