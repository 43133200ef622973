-- What the check program prints.
-- Assumes nothing.
use Rattle.std.specs.Prelude.{ℕ, zero, suc, ◌*◌, cond, Option, Some, None, List, [], ◌++◌, ◌≡◌, length, leb}
use Rattle.laws.specs.Lists.{flat}
use Rattle.rules.specs.declared.Set.{Set}
use Rattle.rules.specs.declared.Verdict.{Verdict}
use Rattle.rules.specs.declared.Verdict.TheVariants.{Accept, Late, Overload, Refused}
use Rattle.rules.specs.Numbers.{verdict_says}
use Rattle.ascii.specs.Decimal.{letters}
use Rattle.line.specs.Line.{line_room}
use Rattle.answer_words.specs.Words.{nr, says, line_of}
use Rattle.load_parts.specs.declared.Part.{Part}
use Rattle.load_parts.specs.declared.Part.TheVariants.{Due, Blocks}
use Rattle.load_parts.specs.Parts.{stream_part, task_part, parts_of}

-- "lengths tested of how many"
abbrev pub progress_words : ℕ → ℕ → List ℕ
progress_words tested all = letters "tested" ++ nr tested ++ (letters " of" ++ nr all)

abbrev pub progress_line : ℕ → ℕ → List ℕ
progress_line tested all = line_of (progress_words tested all)

-- "a line for each stream that is due (`stream K cost C times E`) and each task that blocks (`task T blocked by B`)"
abbrev pub due_words : ℕ → ℕ → ℕ → List ℕ
due_words k c e = letters "stream" ++ nr k ++ (letters " cost" ++ nr c) ++ (letters " times" ++ nr e)

abbrev pub block_words : ℕ → ℕ → List ℕ
block_words t b = letters "task" ++ nr t ++ (letters " blocked by" ++ nr b)

abbrev pub part_line : Option Part → List ℕ
part_line None = []
part_line (Some (Due k c e)) = line_of (due_words k c e)
part_line (Some (Blocks t b)) = line_of (block_words t b)

-- the lines of the parts that f gives of the numbers below n
unfoldable pub first_lines : (ℕ → Option Part) → ℕ → List ℕ
first_lines f zero = []
first_lines f (suc n) = first_lines f n ++ part_line (f n)

-- the streams in their order, then the tasks in theirs
unfoldable pub part_lines : Set → ℕ → List ℕ
part_lines x i = first_lines (stream_part x i) 16 ++ first_lines (task_part x i) 16

-- these are the lines of the parts of a demand
abbrev pub LinesOfParts : Type 0
LinesOfParts = (x : Set) (i : ℕ) → part_lines x i ≡ flat part_line (parts_of x i)

-- "for `late I W` it then prints what W is made of"; an I that is asked for is a 32-bit number
abbrev pub made_of : Set → Verdict → List ℕ
made_of x Accept = []
made_of x (Late i w) = cond (leb i 4294967295) (part_lines x i) []
made_of x Overload = []
made_of x (Refused why) = []

-- "prints the verdict", and what it is made of
abbrev pub told_of : Set → Verdict → List ℕ
told_of x v = line_of (says (verdict_says v)) ++ made_of x v

-- room for the lines of 16 parts, of all parts, and of all that is printed
abbrev pub sixteen_room : ℕ
sixteen_room = 16 * line_room

abbrev pub parts_room : ℕ
parts_room = 32 * line_room

abbrev pub shown_room : ℕ
shown_room = 33 * line_room

-- a page with less room gets nothing
unfoldable pub shown_of : Set → Verdict → List ℕ → List ℕ
shown_of x v page = cond (leb shown_room (length page)) (told_of x v) []
