-- A readable text of a set: one stream a line; in version 2 `version 2` stands before them.
-- Assumes nothing.
use Rattle.std.specs.Prelude.{ℕ, ◌+◌, Bool, cond, ◌&&◌, List, [], ◌∷◌, ◌++◌, length, set, eqb, leb, ltb, Option, Some, None, Result, Ok, Err}
use Prim.Native.Char.{code}
use Rattle.rules.specs.declared.Stream.{Stream}
use Rattle.rules.specs.declared.Set.{Set}
use Rattle.rules.specs.Streams.{empty_set}
use Rattle.rules.specs.Sheet.{set_of}
use Rattle.text_line.specs.declared.Fault.{Fault}
use Rattle.text_line.specs.declared.Fault.TheVariants.{LongLine, LateVersion, ManyStreams}
use Rattle.text_line.specs.declared.Said.{Said}
use Rattle.text_line.specs.declared.Said.TheVariants.{Stream as IsStream, Version}
use Rattle.text_line.specs.Lines.{leads, line_read, longest, judged}
use Rattle.text_tidy.specs.Tidied.{tidied, fresh, kept_of}
use Rattle.text_read.specs.declared.BadLine.{BadLine}
use Rattle.text_read.specs.declared.Draft.{Draft}

-- ---- a whole text

abbrev pub is_newline : ℕ → Bool
is_newline b = eqb b (code "\n")

-- the lines of a text: the bytes before the first newline, and the lines behind it
unfoldable pub first_line : List ℕ → List ℕ
first_line [] = []
first_line (b ∷ l) = cond (is_newline b) [] (b ∷ first_line l)

unfoldable pub more_lines : List ℕ → List (List ℕ)
more_lines [] = []
more_lines (b ∷ l) = cond (is_newline b) (first_line l ∷ more_lines l) (more_lines l)

-- what a line says in a text of a version, once it is tidy
unfoldable pub line_says : ℕ → List ℕ → Result (Option Said) Fault
line_says version l = cond (leb (length l) (longest version)) (line_read version l) (Err LongLine)

-- what a line that says this leads to
module _ {A : Type 0} where
  abbrev pub by_said : Result (Option Said) Fault → (Stream → A) → A → A → (Fault → A) → A
  by_said (Ok (Some (IsStream s))) stream version nothing faulty = stream s
  by_said (Ok (Some Version)) stream version nothing faulty = version
  by_said (Ok None) stream version nothing faulty = nothing
  by_said (Err why) stream version nothing faulty = faulty why

-- the number of the next line; it is counted up to 2^64 - 1
unfoldable pub following : ℕ → ℕ
following n = cond (ltb n 18446744073709551615) (n + 1) n

-- the line of that number is bad
abbrev pub is_bad : {A : Type 0} → ℕ → Fault → Result A BadLine
is_bad n why = Err (record { number = n; fault = why })

-- no line has said anything: the version is still 1, and there is no stream
abbrev pub untold : ℕ → ℕ → Bool
untold version count = eqb version 1 && eqb count 0

-- a text's streams are those of its lines, in order. "Version 2 has `version 2` as its first line": the first that says anything; a text without it is of
-- version 1. The first bad line is the answer, with its number; a 17th stream makes its line bad, and so does `version 2` behind another line.
-- n: the number of the line that comes; ss: the streams before it
unfoldable pub lines_read : ℕ → ℕ → List Stream → List (List ℕ) → Result Set BadLine
lines_read version n ss [] = Ok (set_of version ss)
lines_read version n ss (l ∷ ls) =
    by_said (line_says version (tidied l))
    (λ s. cond (ltb (length ss) 16) (lines_read version (following n) (ss ++ (s ∷ [])) ls) (is_bad n ManyStreams))
    (cond (untold version (length ss)) (lines_read 2 (following n) ss ls) (is_bad n LateVersion))
    (lines_read version (following n) ss ls)
    (λ why. is_bad n why)

-- lines are numbered from 1
unfoldable pub text_read : List ℕ → Result Set BadLine
text_read l = lines_read 1 1 [] (first_line l ∷ more_lines l)

-- ---- the same, byte by byte

-- a draft that is changed in place: what it has become, or the first bad line
unfoldable pub leaves : Result (Unit {0}) BadLine → Draft → Result Draft BadLine
leaves r d = leads r (λ nothing. Ok d)

unfoldable pub onward : Set → ℕ → Draft
onward x n = record { set = x; number = following n; tidy = fresh }

unfoldable pub with_stream : Set → ℕ → Stream → Result Draft BadLine
with_stream x n s =
    cond (ltb x.count 16)
    (Ok (onward (record { count = x.count + 1; streams = set x.streams x.count s; version = x.version }) n))
    (is_bad n ManyStreams)

unfoldable pub with_version : Set → ℕ → Result Draft BadLine
with_version x n =
    cond (untold x.version x.count) (Ok (onward (record { count = x.count; streams = x.streams; version = 2 }) n)) (is_bad n LateVersion)

unfoldable pub line_ended : Draft → Result Draft BadLine
line_ended d =
    by_said (judged d.set.version d.tidy.row)
    (λ s. with_stream d.set d.number s)
    (with_version d.set d.number)
    (Ok (onward d.set d.number))
    (λ why. is_bad d.number why)

unfoldable pub start_of : Draft
start_of = record { set = empty_set; number = 1; tidy = fresh }

unfoldable pub step_of : Draft → ℕ → Result Draft BadLine
step_of d b = cond (is_newline b) (line_ended d) (Ok (record { set = d.set; number = d.number; tidy = kept_of d.tidy b }))

-- behind a bad line nothing counts
unfoldable pub feed_of : Draft → List ℕ → Result Draft BadLine
feed_of d [] = Ok d
feed_of d (b ∷ l) = leads (step_of d b) (λ e. feed_of e l)

unfoldable pub close_of : Draft → Result Set BadLine
close_of d = leads (step_of d (code "\n")) (λ e. Ok e.set)

-- ---- a text so far, or its first bad line: behind that nothing counts

abbrev pub begun : Result Draft BadLine
begun = Ok start_of

unfoldable pub stepped : Result Draft BadLine → ℕ → Result Draft BadLine
stepped t b = leads t (λ d. step_of d b)

unfoldable pub fed : Result Draft BadLine → List ℕ → Result Draft BadLine
fed t l = leads t (λ d. feed_of d l)

unfoldable pub closed : Result Draft BadLine → Result Set BadLine
closed t = leads t (λ d. close_of d)
