-- What taking a field from a string of bytes, and putting one into it, finds and leaves. A place is counted in bits from the front.
-- Assumes nothing.
use Rattle.std.specs.Prelude.{ℕ, ◌+◌, ◌-◌, ◌*◌, ◌<◌, ◌≤◌, min, List, Bool, cond, ◌&&◌, length, take, drop, leb, ltb}
use Rattle.std.proofs.Math.Seq.{paste}
use Rattle.laws.specs.Bits.{bits, to_bits, value}
use Rattle.bits.specs.declared.Gathered.{Gathered}
use Rattle.std.specs.Prelude.{Result, Ok, Err, Option, Some, None}
use Rattle.bits.specs.declared.NotTaken.{NotTaken}
use Rattle.bits.specs.declared.NotTaken.TheVariants.{Missing, TooWide}
use Rattle.bits.specs.declared.NotPut.{NotPut}
use Rattle.bits.specs.declared.NotPut.TheVariants.{NoRoom, TooWide as PutTooWide}

-- the value of the w bits at a place
unfoldable pub field_at : List ℕ → ℕ → ℕ → ℕ
field_at s at w = value (take w (drop at (bits s)))

-- the number that n bytes from the byte i on stand for
abbrev pub word_of : List ℕ → ℕ → ℕ → ℕ
word_of s i n = value (bits (take n (drop i s)))

-- a field that lies in the four bytes from a byte on, and the four bytes are there
pub record Near (n byte bit w : ℕ) : Type 0 where
  pub some : 0 < w
  pub few : w ≤ 24
  pub first : bit < 8
  pub there : byte + 4 ≤ n

-- how many bits n bytes have behind a place
abbrev pub behind : ℕ → ℕ → ℕ
behind n at = 8 * n - at

-- as many bits as are asked for, and no more than 64 and than there are
abbrev pub got_of : ℕ → ℕ → ℕ → ℕ
got_of n at w = min (min w 64) (behind n at)

unfoldable pub gather_of : List ℕ → ℕ → ℕ → Gathered
gather_of s at w = record { value = field_at s at (got_of (length s) at w); got = got_of (length s) at w }

-- two fields that lie in the eight bytes from a byte on, and the eight bytes are there
unfoldable pub in_eight : ℕ → ℕ → ℕ → ℕ → ℕ → Bool
in_eight n byte bit a b = leb 8 (n - byte) && (ltb bit 8 && ((ltb 0 a && leb a 32) && (ltb 0 b && leb b 24)))

-- both of them, or neither
unfoldable pub two_of : List ℕ → ℕ → ℕ → ℕ → ℕ → Option (ℕ × ℕ)
two_of s byte bit a b =
    cond (in_eight (length s) byte bit a b)
    (Some (field_at s (8 * byte + bit) a, field_at s (8 * byte + bit + a) b))
    None

-- a whole field, or nothing of it
unfoldable pub take_of : List ℕ → ℕ → ℕ → Result ℕ NotTaken
take_of s at w = cond (leb w 64) (cond (leb w (behind (length s) at)) (Ok (field_at s at w)) (Err Missing)) (Err TooWide)

-- whether a field is put: there is room for all of it
unfoldable pub put_of : ℕ → ℕ → ℕ → Result (Unit {0}) NotPut
put_of n at w = cond (leb w 64) (cond (leb w (behind n at)) (Ok tt) (Err NoRoom)) (Err PutTooWide)

-- the bits of the string afterwards: the w lowest bits of v at the place, every other bit as it was
abbrev pub put_by : Result (Unit {0}) NotPut → List ℕ → ℕ → ℕ → ℕ → List ℕ
put_by (Ok tt) bs at w v = paste bs at (to_bits w v) w
put_by (Err why) bs at w v = bs

unfoldable pub put_bits : List ℕ → ℕ → ℕ → ℕ → List ℕ
put_bits s at w v = put_by (put_of (length s) at w) (bits s) at w v
