-- The console's page, **Set**: what each command leaves of the set, and what it prints.
-- Assumes nothing.
use Rattle.std.specs.Prelude.{ℕ, cond, List, [], ◌∷◌, set, eqb}
use Rattle.laws.specs.Lists.{every}
use Rattle.rules.specs.declared.Tuple.{Tuple}
use Rattle.rules.specs.declared.Tuple.TheVariants.{Once as OnceAt, Every as EveryFrom}
use Rattle.rules.specs.declared.Stream.{Stream as Places}
use Rattle.rules.specs.declared.Set.{Set}
use Rattle.rules.specs.Streams.{stream_at}
use Rattle.rules.specs.Sheet.{read_of}
use Rattle.ascii.specs.Decimal.{letters}
use Rattle.line.specs.Line.{holding}
use Rattle.answer_words.specs.Words.{read_words, line_of}
use Rattle.console_names.specs.Rows.{nth}
use Rattle.console_names.specs.declared.SetCommand.{SetCommand}
use Rattle.console_names.specs.declared.SetCommand.TheVariants.{Read, Streams, Stream, Once, Every, Version, Stages, Stage}
use Rattle.console_set.specs.declared.SetAfter.{SetAfter}

-- "put these numbers into the set's count, into place I, into tuple place J of place I"; what else the set holds stays
abbrev pub streams_put : Set → ℕ → Set
streams_put x n = record { count = n; streams = x.streams; version = x.version }

-- "puts the set's version"
abbrev pub version_put : Set → ℕ → Set
version_put x n = record { count = x.count; streams = x.streams; version = n }

unfoldable pub with_stream : Set → ℕ → Places → Set
with_stream x i s = record { count = x.count; streams = set x.streams i s; version = x.version }

-- "puts the number of stages of place I"
abbrev pub stages_put : Places → ℕ → Places
stages_put s n = record { depth = n; stages = s.stages; deadline = s.deadline; count = s.count; tuples = s.tuples }

-- "puts stage place J (0 to 3) of place I"
abbrev pub stage_put : Places → ℕ → ℕ → ℕ → Places
stage_put s j task cost =
    record {
      depth = s.depth;
      stages = set s.stages j (record { task = task; cost = cost });
      deadline = s.deadline;
      count = s.count;
      tuples = s.tuples;
    }

abbrev pub tuple_put : Places → ℕ → Tuple → Places
tuple_put s j t =
    record {
      depth = s.depth;
      stages = s.stages;
      deadline = s.deadline;
      count = s.count;
      tuples = set s.tuples j (record { tuple = t });
    }

-- "puts the task and cost into stage place 0, and 1 as the number of stages, or 0 where all four numbers are 0; stage places 1 to 3 stay as
-- they were"
unfoldable pub depth_of : ℕ → ℕ → ℕ → ℕ → ℕ
depth_of task cost deadline tuples = cond (every (eqb task 0 ∷ eqb cost 0 ∷ eqb deadline 0 ∷ eqb tuples 0 ∷ [])) 0 1

abbrev pub stream_put : Places → ℕ → ℕ → ℕ → ℕ → Places
stream_put s task cost deadline tuples =
    record {
      depth = depth_of task cost deadline tuples;
      stages = (stage_put s 0 task cost).stages;
      deadline = deadline;
      count = tuples;
      tuples = s.tuples;
    }

-- The set after a command with these numbers; `sheet` is the bytes behind `read`.
abbrev pub set_after : SetCommand → List ℕ → List ℕ → Set → Set
-- "the set becomes the one read; or `refused N`, and the set becomes the empty set"
set_after Read ns sheet x = (read_of sheet).set
-- "`streams N`, `stream I TASK COST DEADLINE TUPLES` .., `once I J OFFSET`, `every I J CYCLE OFFSET` .. put these numbers"
set_after Streams ns sheet x = streams_put x (nth ns 0)
set_after Stream ns sheet x = with_stream x (nth ns 0) (stream_put (stream_at x (nth ns 0)) (nth ns 1) (nth ns 2) (nth ns 3) (nth ns 4))
set_after Once ns sheet x = with_stream x (nth ns 0) (tuple_put (stream_at x (nth ns 0)) (nth ns 1) (OnceAt (nth ns 2)))
set_after Every ns sheet x = with_stream x (nth ns 0) (tuple_put (stream_at x (nth ns 0)) (nth ns 1) (EveryFrom (nth ns 2) (nth ns 3)))
-- "`version N` .. `stages I N` .. `stage I J TASK COST`"
set_after Version ns sheet x = version_put x (nth ns 0)
set_after Stages ns sheet x = with_stream x (nth ns 0) (stages_put (stream_at x (nth ns 0)) (nth ns 1))
set_after Stage ns sheet x = with_stream x (nth ns 0) (stage_put (stream_at x (nth ns 0)) (nth ns 1) (nth ns 2) (nth ns 3))

-- What it prints.
abbrev pub set_line : SetCommand → List ℕ → List ℕ
-- "Prints `set N` with the number of streams .. or `refused N`"
set_line Read sheet = line_of (read_words (read_of sheet).answer (read_of sheet).set.count)
-- "Print `put`."
set_line Streams sheet = line_of (letters "put")
set_line Stream sheet = line_of (letters "put")
set_line Once sheet = line_of (letters "put")
set_line Every sheet = line_of (letters "put")
set_line Version sheet = line_of (letters "put")
set_line Stages sheet = line_of (letters "put")
set_line Stage sheet = line_of (letters "put")

-- `read`, which looks at nothing but its sheet
unfoldable pub set_read : List ℕ → SetAfter
set_read sheet = record { set = (read_of sheet).set; line = holding (set_line Read sheet) }
