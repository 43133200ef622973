-- The lines that `sheet_text` prints.
-- Assumes nothing.
use Rattle.std.specs.Prelude.{ℕ, cond, List, [], ◌++◌, eqb}
use Rattle.ascii.specs.Decimal.{letters, decimal_of, spaced, newline}
use Rattle.text_line.specs.declared.Fault.{Fault}
use Rattle.text_line.specs.declared.Fault.TheVariants.{NotTask, Task, NotCost, Cost, TwoStages, FiveStages, NotDeadline, Deadline, NotTuple, Cycle, Offset, FiveTuples, NotJitter, Jitter, LongLine, LateVersion, ManyStreams}

-- what is wrong with a line
abbrev pub fault_words : Fault → List ℕ
fault_words NotTask = letters "the line does not begin with task and a number"
fault_words Task = letters "the task is not from 0 to 15"
fault_words NotCost = letters "the task is not followed by cost and a number"
fault_words Cost = letters "the cost is not from 1 to 65535"
fault_words TwoStages = letters "there is more than one stage, and the first line is not version 2"
fault_words FiveStages = letters "there are more than 4 stages"
fault_words NotDeadline = letters "the cost is not followed by deadline and a number"
fault_words Deadline = letters "the deadline is not from 1 to 200000"
fault_words NotTuple = letters "the deadline is not followed by tuples alone, such as once@0 or every 20@0"
fault_words Cycle = letters "a cycle is not from 1 to 1000000"
fault_words Offset = letters "the first offset is not 0, or an offset falls or is above 100000"
fault_words FiveTuples = letters "there are more than 4 tuples"
fault_words NotJitter = letters "jitter is not followed by two numbers alone, such as jitter 20 2"
fault_words Jitter = letters "the jitter Z J is out of rule: Z from 1 to 1000000, 2J at most Z, Z - 2J at most 100000"
fault_words LongLine = letters "the line is too long for a stream"
fault_words LateVersion = letters "version 2 is not the first line"
fault_words ManyStreams = letters "there are more than 16 streams"

-- `line 3: the cost is not from 1 to 65535`
unfoldable pub fault_line : ℕ → Fault → List ℕ
fault_line n why = letters "line" ++ spaced (decimal_of n) ++ letters ": " ++ fault_words why ++ newline

-- `set.bin: 3 streams, 30 bytes`
abbrev pub plural : ℕ → List ℕ
plural n = cond (eqb n 1) [] (letters "s")

unfoldable pub made_line : ℕ → ℕ → List ℕ
made_line streams bytes =
    letters "set.bin:" ++ spaced (decimal_of streams) ++ letters " stream" ++ plural streams
    ++ (letters "," ++ spaced (decimal_of bytes)) ++ letters " byte" ++ plural bytes ++ newline
