-- Rows: a set's tuples as plain numbers, and what they add by a length.
-- Assumes nothing.
use Rattle.std.specs.Prelude.{ℕ, ◌+◌, ◌-◌, ◌*◌, ◌/◌, ◌≤◌, ◌<◌, cond, List, ◌≡◌, leb, length, take}
use Rattle.laws.specs.Lists.{sum, All}
use Rattle.rules.specs.declared.Tuple.{Tuple}
use Rattle.rules.specs.declared.Stream.{Stream}
use Rattle.rules.specs.Streams.{events_of}
use Rattle.rules.specs.Load.{due}
use Rattle.load_check.specs.declared.Row.{Row}
use Rattle.load_check.specs.declared.Rows.{Rows}

-- what a row adds by the length i
unfoldable pub row_due : ℕ → Row → ℕ
row_due i r = cond (leb r.first i) (r.cost * ((i - r.first) / r.cycle + 1)) 0

-- what rows add
unfoldable pub dues : List Row → ℕ → ℕ
dues rs i = sum (row_due i) rs

-- the rows in use
abbrev pub used : Rows → List Row
used t = take t.count t.rows

-- what a tuple of a stream adds, and what the stream adds
unfoldable pub tuple_due : ℕ → ℕ → Tuple → ℕ → ℕ
tuple_due c d t i = cond (leb d i) (c * events_of t (i - d)) 0

abbrev pub stream_due : Stream → ℕ → ℕ
stream_due s i = due i s

-- a row holds a cost, of up to four stages, and a cycle
pub record RowFits (r : Row) : Type 0 where
  pub cost : r.cost ≤ 262140
  pub cycle : 0 < r.cycle

pub record RowsFit (rs : List Row) : Type 0 where
  pub room : length rs ≤ 64
  pub each : All RowFits rs

-- the row of a tuple of a stream that has the cost c and the deadline d
pub record RowFor (c d : ℕ) (t : Tuple) (r : Row) : Type 0 where
  pub fits : RowFits r
  pub says : (i : ℕ) → i ≤ 4294967295 → row_due i r ≡ tuple_due c d t i

-- r has at most n rows more than t, which add f by every length of 32 bits
pub record Grows (t : Rows) (n : ℕ) (f : ℕ → ℕ) (r : Rows) : Type 0 where
  pub few : r.count ≤ t.count + n
  pub fit : RowsFit (used r)
  pub adds : (i : ℕ) → i ≤ 4294967295 → dues (used r) i ≡ dues (used t) i + f i

-- the rows say what is due of the streams
pub record RowsOf (ss : List Stream) (r : Rows) : Type 0 where
  pub few : r.count ≤ 64
  pub fit : RowsFit (used r)
  pub say : (i : ℕ) → i ≤ 4294967295 → dues (used r) i ≡ sum (due i) ss
