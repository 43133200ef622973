-- Document 02, request 1, the program replay: how a replay begins, what a step of it does, and what is printed.
-- Assumes nothing.
use Rattle.std.specs.Prelude.{ℕ, zero, suc, ◌/◌, ◌≡◌, Bool, true, false, cond, List, [], ◌++◌, length, drop}
use Rattle.rules.specs.declared.Set.{Set}
use Rattle.rules.specs.declared.ReadResult.{ReadResult}
use Rattle.rules.specs.declared.Verdict.{Verdict}
use Rattle.std.specs.Prelude.{Result, Ok, Err, Option, Some, None}
use Rattle.rules.specs.declared.Refusal.{Refusal}
use Rattle.rules.specs.declared.CallAnswer.{CallAnswer}
use Rattle.rules.specs.declared.ReplayResult.{ReplayResult}
use Rattle.rules.specs.Steps.{start_of}
use Rattle.rules.specs.Recordings.{first_place, replay_step}
use Rattle.load_check.specs.Sheets.{SheetVerdict}
use Rattle.line.specs.Line.{line_room, holding}
use Rattle.answer_words.specs.Words.{replay_line}
use Rattle.trace_steps.specs.Turns.{verdict_line, was_read}
use Rattle.replay_lines.specs.declared.Replaying.{Replaying}
use Rattle.replay_lines.specs.declared.ReplayTurn.{ReplayTurn}

-- ---- the first line

-- from the start of the set, at the recording's first bit
abbrev pub replaying_from : Set → Bool → Replaying
replaying_from x live = record { state = (start_of x).state; place = first_place; live = live }

-- "the verdict first": the line and the replay at the beginning; a refused sheet's has stopped
pub record Begun (r : ReadResult) (t : ReplayTurn) : Type 0 where
  pub verdict : Verdict
  pub is_verdict : SheetVerdict r.answer r.set verdict
  pub line : t.line ≡ holding (verdict_line verdict)
  pub replaying : t.replaying ≡ replaying_from r.set (was_read r.answer)

-- ---- a step

abbrev pub step_of_replay : List ℕ → Replaying → ReplayResult
step_of_replay recording r = replay_step r.state recording r.place

-- "then `end` or `refused 13` or `refused 14`": a call goes on, whatever it answers
abbrev pub goes_on : Result (Option CallAnswer) Refusal → Bool
goes_on (Ok (Some a)) = true
goes_on (Ok None) = false
goes_on (Err why) = false

abbrev pub behind_step : ReplayResult → Replaying
behind_step q = record { state = q.state; place = q.place; live = goes_on q.answer }

abbrev pub next_replaying : List ℕ → Replaying → Replaying
next_replaying recording r = behind_step (step_of_replay recording r)

-- "the lines of the trace program": the clock before the step and its answer
abbrev pub next_line : List ℕ → Replaying → List ℕ
next_line recording r = replay_line r.state.clock (step_of_replay recording r).answer

-- a step; a replay that has stopped takes no more
unfoldable pub replaying_after : List ℕ → Replaying → Replaying
replaying_after recording r = cond r.live (next_replaying recording r) r

unfoldable pub line_after : List ℕ → Replaying → List ℕ
line_after recording r = cond r.live (next_line recording r) []

-- n steps one after the other
unfoldable pub replaying_on : ℕ → List ℕ → Replaying → Replaying
replaying_on zero recording r = r
replaying_on (suc n) recording r = replaying_on n recording (replaying_after recording r)

unfoldable pub lines_on : ℕ → List ℕ → Replaying → List ℕ
lines_on zero recording r = []
lines_on (suc n) recording r = line_after recording r ++ lines_on n recording (replaying_after recording r)

-- ---- a page

-- the lines that a page has room for
abbrev pub lines_fit : List ℕ → ℕ
lines_fit out = length out / line_room

-- that many steps: the replay after them, and the page with their lines at its front and the rest as it was
pub record PageFilled (recording : List ℕ) (r : Replaying) (out : List ℕ) (next : Replaying) (len : ℕ) (page : List ℕ) : Type 0 where
  pub replaying : next ≡ replaying_on (lines_fit out) recording r
  pub size : len ≡ length (lines_on (lines_fit out) recording r)
  pub whole : page ≡ lines_on (lines_fit out) recording r ++ drop (length (lines_on (lines_fit out) recording r)) out
