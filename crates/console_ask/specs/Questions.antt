-- The console's page: what each question prints.
-- Assumes nothing.
use Rattle.std.specs.Prelude.{ℕ, ◌+◌, ◌*◌, Bool, true, false, cond, List, [], ◌∷◌, ◌++◌, ◌≡◌, length, replicate, leb, eqb, ◌≤◌, Option, Some, None}
use Rattle.laws.specs.Lists.{every}
use Rattle.rules.specs.declared.Set.{Set}
use Rattle.rules.specs.declared.State.{State}
use Rattle.rules.specs.declared.Message.{Message}
use Rattle.rules.specs.declared.Party.{Party}
use Rattle.rules.specs.declared.Party.TheVariants.{Ours, Theirs}
use Rattle.rules.specs.declared.Places.{Places}
use Rattle.rules.specs.declared.Verdict.{Verdict as Judgement}
use Rattle.rules.specs.Streams.{valid, limit_of, jitter_of}
use Rattle.rules.specs.States.{well_formed}
use Rattle.rules.specs.Steps.{choose_of}
use Rattle.rules.specs.Load.{demand_of, VerdictOf}
use Rattle.rules.specs.Sheet.{write_of, buffer_of}
use Rattle.rules.specs.Numbers.{choose_says, count_says, jitter_says, verdict_says, write_says}
use Rattle.ascii.specs.Decimal.{letters}
use Rattle.ascii.specs.Hex.{hexed}
use Rattle.line.specs.declared.Line.{Line}
use Rattle.line.specs.Line.{line_room, holding}
use Rattle.answer_words.specs.Words.{nr, says, line_of}
use Rattle.console_words.specs.Words.{valid_words, formed_words}
use Rattle.page.specs.Pages.{room_for, Onto}
use Rattle.console_names.specs.Rows.{nth, most_bytes}
use Rattle.console_names.specs.declared.Question.{Question}
use Rattle.console_names.specs.declared.Question.TheVariants.{Write, Valid, Limit, Demand, Jitter, Verdict, Choose, State as Shown, Formed}

-- "a line `message I STREAM DEADLINE USED`"
unfoldable pub message_text : ℕ → Message → List ℕ
message_text i m = line_of (letters "message" ++ nr i ++ nr m.stream ++ nr m.deadline ++ nr m.used)

-- ".. for each of the 64 places that is not all zero"; "(a place of which only the stage is not 0 has no `message` line)"
unfoldable pub message_zero : Message → Bool
message_zero m = every (eqb m.stream 0 ∷ eqb m.deadline 0 ∷ eqb m.used 0 ∷ [])

unfoldable pub message_line : ℕ → Message → List ℕ
message_line i m = cond (message_zero m) [] (message_text i m)

-- "`state` prints `staged I N`", "and only for what is not zero"
unfoldable pub staged_text : ℕ → Message → List ℕ
staged_text i m = line_of (letters "staged" ++ nr i ++ nr m.stage)

unfoldable pub staged_line : ℕ → Message → List ℕ
staged_line i m = cond (eqb m.stage 0) [] (staged_text i m)

-- **CR 6**: "`state` prints `door I N`", and only for what is not zero
unfoldable pub door_text : ℕ → ℕ → List ℕ
door_text i n = line_of (letters "door" ++ nr i ++ nr n)

unfoldable pub door_line : ℕ → ℕ → List ℕ
door_line i n = cond (eqb n 0) [] (door_text i n)

-- **CR 8**: "`state` prints `owns I 1`, `room A B`", "only for what is not zero (owners: not ours; places: not 64 and 0)"
unfoldable pub owns_text : ℕ → List ℕ
owns_text i = line_of (letters "owns" ++ nr i ++ nr 1)

abbrev pub owns_if : ℕ → Party → List ℕ
owns_if i Ours = []
owns_if i Theirs = owns_text i

unfoldable pub owns_line : ℕ → Party → List ℕ
owns_line i o = owns_if i o

unfoldable pub room_text : Places → List ℕ
room_text p = line_of (letters "room" ++ nr p.ours ++ nr p.theirs)

unfoldable pub all_for_us : Places → Bool
all_for_us p = every (eqb p.ours 64 ∷ eqb p.theirs 0 ∷ [])

unfoldable pub room_line : Places → List ℕ
room_line p = cond (all_for_us p) [] (room_text p)

-- a line with these bytes, or none where there are none
abbrev pub Tells : Option Line → List ℕ → Type 0
Tells None w = w ≡ []
Tells (Some l) w = (l ≡ holding w) × (length w ≤ line_room)

-- what may be told of the place k, where x stands, is the line of it
abbrev pub TellsEach : {A : Type 0} → (ℕ → A → Option Line → Type 0) → (ℕ → A → List ℕ) → Type 0
TellsEach {A} tells line = (k : ℕ) (x : A) (r : Option Line) → tells k x r → Tells r (line k x)

-- ".. in order", from place i on: what `line` gives for each place
unfoldable pub lines_of : {A : Type 0} (line : ℕ → A → List ℕ) → ℕ → List A → List ℕ
lines_of line i [] = []
lines_of line i (m ∷ ms) = line i m ++ lines_of line (i + 1) ms

-- "the lines of a request stand behind those of the requests before it"
abbrev pub place_lines : List Message → List ℕ
place_lines ms = lines_of message_line 0 ms ++ lines_of staged_line 0 ms

abbrev pub table_lines : State → List ℕ
table_lines s = place_lines s.messages ++ lines_of door_line 0 s.waits

abbrev pub party_lines : State → List ℕ
party_lines s = lines_of owns_line 0 s.owners ++ room_line s.places

abbrev pub rest_lines : State → List ℕ
rest_lines s = table_lines s ++ party_lines s

-- "prints `clock N`, then `pending N`, then .."
unfoldable pub state_lines : State → List ℕ
state_lines s = line_of (letters "clock" ++ nr s.clock) ++ (line_of (letters "pending" ++ nr s.count) ++ rest_lines s)

-- "Prints `wrote N` with the bytes written, or `refused N`; then a line with the whole buffer in hex"
unfoldable pub sheet_lines : Set → List ℕ → List ℕ
sheet_lines x buffer = line_of (says (write_says (write_of x (length buffer)))) ++ line_of (hexed (buffer_of x buffer))

-- "writes the set's sheet into a buffer of LEN bytes (at most 1024, else `?`), each 170 before"
unfoldable pub write_lines : Set → ℕ → List ℕ
write_lines x len = cond (leb len most_bytes) (sheet_lines x (replicate len 170)) (line_of (letters "?"))

-- "prints `accept`, `late I W`, `overload` or `refused N`": the verdict of the set
pub record VerdictLine (x : Set) (w : List ℕ) : Type 0 where
  pub given : Judgement
  pub is_verdict : VerdictOf x given
  pub line : w ≡ line_of (says (verdict_says given))

-- The bytes that a question with these numbers prints, where the console holds the set x and the state s.
abbrev pub Prints : Question → List ℕ → Set → State → List ℕ → Type 0
Prints Write ns x s w = w ≡ write_lines x (nth ns 0)
Prints Valid ns x s w = w ≡ line_of (valid_words (valid x))
-- "the event limit; prints the number, or `refused 7 0`", and so the demand; "prints the tuples"
Prints Limit ns x s w = w ≡ line_of (says (count_says (limit_of x (nth ns 0) (nth ns 1))))
Prints Demand ns x s w = w ≡ line_of (says (count_says (demand_of x (nth ns 0))))
Prints Jitter ns x s w = w ≡ line_of (says (jitter_says (jitter_of (nth ns 0) (nth ns 1))))
Prints Verdict ns x s w = VerdictLine x w
-- "prints `none`, `task T stream S`, or `refused 12`"
Prints Choose ns x s w = w ≡ line_of (says (choose_says (choose_of s)))
Prints Shown ns x s w = w ≡ state_lines s
Prints Formed ns x s w = w ≡ line_of (formed_words (well_formed s))

-- No answer has more lines than a state: a line for its clock, one for its count, two for each of its 64 places, one for each of its 16 waits,
-- one for each of its 16 owners, and one for the parties' places.
abbrev pub answer_room : ℕ
answer_room = (2 + 64 + 64 + 16 + 16 + 1) * line_room

-- The page after a question, and where the answer ends; one that has not that room stays as it is.
pub record Answered (q : Question) (ns : List ℕ) (x : Set) (s : State) (out : List ℕ) (at end : ℕ) (page : List ℕ) : Type 0 where
  pub bytes : List ℕ
  pub prints : Prints q ns x s bytes
  pub onto : Onto out at bytes end page

abbrev pub AnsweredIf : Bool → Question → List ℕ → Set → State → List ℕ → ℕ → ℕ → List ℕ → Type 0
AnsweredIf true q ns x s out at end page = Answered q ns x s out at end page
AnsweredIf false q ns x s out at end page = (end ≡ at) × (page ≡ out)

abbrev pub Asks : Question → List ℕ → Set → State → List ℕ → ℕ → ℕ → List ℕ → Type 0
Asks q ns x s out at end page = AnsweredIf (room_for out at answer_room) q ns x s out at end page
