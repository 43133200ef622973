-- How long a sheet can be, and a string of bytes that is longer than any.
-- Assumes nothing.
use Rattle.std.specs.Prelude.{ℕ, ◌+◌, ◌≤◌, true, List, ◌≡◌, length, take}
use Rattle.laws.specs.Lists.{All}
use Rattle.rules.specs.declared.Stream.{Stream}
use Rattle.rules.specs.declared.Set.{Set}
use Rattle.rules.specs.Streams.{stages_of, streams_of, tuples_of, valid}
use Rattle.rules.specs.Sheet.{read_of, sheet_of}

-- "A full sheet is 378 bytes." That is version 1: sixteen streams of one stage and four tuples
abbrev pub longest_first : ℕ
longest_first = 378

-- version 2: sixteen streams of four stages and four tuples
abbrev pub longest_sheet : ℕ
longest_sheet = 502

-- no valid set's sheet is longer, and of a set of version 1 none is longer than its full one
unfoldable pub SheetAtMost : Type 0
SheetAtMost = (x : Set) → valid x ≡ true → length (sheet_of x) ≤ longest_sheet

unfoldable pub FirstAtMost : Type 0
FirstAtMost = (x : Set) → valid x ≡ true → x.version ≡ 1 → length (sheet_of x) ≤ longest_first

-- sixteen streams of d stages and four tuples
abbrev pub FullStream : ℕ → Stream → Type 0
FullStream d s = (length (stages_of s) ≡ d) × (length (tuples_of s) ≡ 4)

pub record Full (d : ℕ) (x : Set) : Type 0 where
  pub streams : length (streams_of x) ≡ 16
  pub each : All (FullStream d) (streams_of x)

-- so many bytes has every full sheet of the version with d stages in each stream
unfoldable pub FullSheet : ℕ → ℕ → ℕ → Type 0
FullSheet version d n = (x : Set) → x.version ≡ version → Full d x → length (sheet_of x) ≡ n

-- one byte more is enough to judge a string by: its first bytes read as the whole does, a set or the same refusal
unfoldable pub LongSheet : Type 0
LongSheet = (l : List ℕ) → read_of (take (longest_sheet + 1) l) ≡ read_of l
