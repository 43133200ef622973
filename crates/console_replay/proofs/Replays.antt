-- What a command leaves of the replay, from what the functions that it calls give.
-- Assumes nothing.
use Prim.Native.Nat.{ℕ, ◌≤◌, ◌<◌}
use native.Mathlib.Omega.{arith}
use mathlib.Core.Path.{◌≡◌}
use mathlib.Core.Bool.{Bool, true, false, cond}
use mathlib.Core.List.{List}
use lib.ListN.{length}
use lib.Dec.{leb}
use borrow.Author.Tests.{le-leb, lt-leb}
use Rattle.rules.specs.declared.State.{State}
use Rattle.std.specs.Prelude.{Result, Ok, Err, Option, Some, None}
use Rattle.rules.specs.declared.Refusal.{Refusal}
use Rattle.rules.specs.declared.CallAnswer.{CallAnswer}
use Rattle.rules.specs.declared.ReplayResult.{ReplayResult}
use Rattle.rules.specs.Numbers.{number, call_says, refused, ended}
use Rattle.ascii.specs.Decimal.{letters}
use Rattle.line.specs.declared.Line.{Line}
use Rattle.line.specs.Line.{line_room, holding}
use Rattle.answer_words.specs.Words.{says, line_of, replay_line}
use Rattle.answer_words.proofs.Lengths.{says_short, line_short, step_short}
use Rattle.console_words.specs.Words.{recording_words, at_words}
use Rattle.console_words.proofs.Lengths.{recording_short, at_short}
use Rattle.console_names.specs.Rows.{most_bytes}
use Rattle.console_names.specs.declared.ReplayCommand.{ReplayCommand}
use Rattle.console_names.specs.declared.ReplayCommand.TheVariants.{Recording, Next, Reader, Where}
use Rattle.console_replay.specs.declared.Replay.{Replay}
use Rattle.console_replay.specs.declared.ReplayAfter.{ReplayAfter}
use Rattle.console_replay.specs.ReplayCommands.{loaded_of, reader_put, next_step, recording_after, recording_line, replay_line_of}

module _ (t : Replay) (s : State) (text : List ℕ) (l : Line) where
  pub too_long : most_bytes < length text → l ≡ holding (line_of (letters "?"))
      → ◌≡◌ {A = ReplayAfter} (record { replay = t; state = s; line = l })
      (record { replay = recording_after text t; state = s; line = holding (recording_line text) })
  unfolding recording_after recording_line
  too_long h e = rw (lt-leb (length text) most_bytes h, e)

  pub recording_is : (r : Replay) → length text ≤ most_bytes → r ≡ loaded_of text → l ≡ holding (line_of (recording_words (length text)))
      → ◌≡◌ {A = ReplayAfter} (record { replay = r; state = s; line = l })
      (record { replay = recording_after text t; state = s; line = holding (recording_line text) })
  unfolding recording_after recording_line
  recording_is r h e f = rw (le-leb (length text) most_bytes h, e, f)

pub next_is : (t : Replay) (s : State) (r : ReplayResult) (l : Line) → r ≡ next_step t s → l ≡ holding (replay_line s.clock r.answer)
    → ◌≡◌ {A = ReplayAfter} (record { replay = reader_put t r.place; state = r.state; line = l })
    (record {
      replay = reader_put t (next_step t s).place;
      state = (next_step t s).state;
      line = holding (replay_line s.clock (next_step t s).answer);
    })
next_is t s r l e g = rw (g, e)

-- a line has room for what is printed
step_fits : (clock : ℕ) (a : Result (Option CallAnswer) Refusal) → length (replay_line clock a) ≤ line_room
step_fits clock (Ok (Some a)) = step_short clock (call_says a)
step_fits clock (Ok None) = line_short (says ended) (says_short ended)
step_fits clock (Err why) = line_short (says (refused (number why))) (says_short (refused (number why)))

pub replay_short : (k : ReplayCommand) (text : List ℕ) (s : State) (t : Replay) → length (replay_line_of k text s t) ≤ line_room
unfolding recording_line
replay_short Recording text s t = go (leb (length text) most_bytes)
  where
    go : (b : Bool) → length (line_of (cond b (recording_words (length text)) (letters "?"))) ≤ line_room
    go true = line_short (recording_words (length text)) (recording_short (length text))
    go false = omega arith
replay_short Next text s t = step_fits s.clock (next_step t s).answer
replay_short Reader text s t = omega arith
replay_short Where text s t = line_short (at_words t.place.byte t.place.bit) (at_short t.place.byte t.place.bit)
