-- The bytes that hex digits stand for, in a buffer.
-- Assumes nothing.
use Rattle.std.specs.Prelude.{ℕ, min, List, length}
use Rattle.std.proofs.Math.Seq.{paste}
use Rattle.ascii.specs.Hex.{unhexed}

-- how many of the bytes that the digits stand for have a place in the buffer
unfoldable pub fitting : List ℕ → List ℕ → ℕ
fitting digits buf = min (length (unhexed digits)) (length buf)

-- the buffer with these in its first places
unfoldable pub unhexed_in : List ℕ → List ℕ → List ℕ
unhexed_in digits buf = paste buf 0 (unhexed digits) (fitting digits buf)
