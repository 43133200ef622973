-- What the replay program's functions make of a sheet and a recording, page by page, is the output that the recording's calls have: the cab's lines, then how the recording stops.
-- Assumes nothing.
use Prim.Native.Nat.{ℕ, zero, suc}
use native.Mathlib.Omega.{arith}
use mathlib.Core.Bool.{true, false}
use mathlib.Core.List.{List, [], ◌∷◌, ◌++◌, append_assoc, append-nil}
use mathlib.Core.Path.{◌≡◌, refl, ap, ap₂, sym, ◌∙◌}
use lib.ListN.{length}
use Rattle.laws.specs.Lists.{flat}
use Rattle.rules.specs.declared.Call.{Call}
use Rattle.std.specs.Prelude.{Result, Ok, Err, Some}
use Rattle.rules.specs.declared.Refusal.{Refusal}
use Rattle.rules.specs.declared.Set.{Set}
use Rattle.rules.specs.declared.State.{State}
use Rattle.rules.specs.declared.ReplayResult.{ReplayResult}
use Rattle.rules.specs.Sheet.{read_of}
use Rattle.rules.specs.Runs.{Run, step_to, step_of, begin, steps_from, steps_of}
use Rattle.rules.specs.declared.Place.{Place}
use Rattle.rules.specs.Recordings.{Stop, ends, refused, call_bits, place_after, mark_of, replay_by, replay_step, first_place, tape_of}
use Rattle.rules.proofs.Events.{step_state}
use Rattle.sheet_write.specs.Answers.{ReadPlaced}
use Rattle.sheet_write.proofs.Rounds.{read_placed}
use Rattle.answer_words.specs.Words.{replay_line, line_of_step}
use Rattle.trace_steps.specs.Pieces.{bytes_of}
use Rattle.trace_steps.specs.Turns.{verdict_line, was_read}
use Rattle.trace_steps.specs.Trace.{behind_verdict}
use Rattle.replay_lines.specs.declared.Replaying.{Replaying}
use Rattle.replay_lines.specs.Replaying.{replaying_from, behind_step, replaying_after, line_after, replaying_on, lines_on}
use Rattle.replay_lines.specs.Replay.{stop_line, replay_printed}
use Rattle.replay_lines.proofs.Pages.{line_bytes, dead_stays, dead_lines, pages_stop, pages_some}
use Rattle.promise_steps.proofs.Runs.{alone_gives}
use Rattle.promise_replay.specs.Replays.{mark_by, Stopped, AllStepsStand}
use Rattle.promise_replay.specs.Prints.{ReplayPrints, ReplayStops}
use Rattle.promise_replay.proofs.Tapes.{all_steps_stand}
use Rattle.promise_replay.proofs.Cab.{From, stop_step, call_step, from_next}

-- a replay that goes on
abbrev going_at : State → Place → Replaying
going_at s p = record { state = s; place = p; live = true }

-- the step that stops a replay
stop_dead : (s : State) (p : Place) (t : Stop) → (behind_step (replay_by s p (mark_by t))).live ≡ false
stop_dead s p ends = refl
stop_dead s p (refused why) = refl

stop_prints : (s : State) (p : Place) (t : Stop) → replay_line s.clock (replay_by s p (mark_by t)).answer ≡ stop_line t
stop_prints s p ends = refl
stop_prints s p (refused why) = refl

module _ (recording last : List ℕ) (stop : Stop) (is_stop : mark_of last ≡ mark_by stop) where
  -- a step, whatever it comes to
  module _ (s : State) (p : Place) (q : ReplayResult) (e : replay_step s recording p ≡ q) where
    next_is : replaying_after recording (going_at s p) ≡ behind_step q
    unfolding replaying_after
    next_is = ap behind_step e

    line_is : line_after recording (going_at s p) ≡ replay_line s.clock q.answer
    unfolding line_after
    line_is = ap (λ (x : ReplayResult). replay_line s.clock x.answer) e

  module _ (r : Run) (p : Place) (front : List ℕ) where
    -- behind the last call
    module _ (f : From recording last stop is_stop r p front []) where
      pub last_dead : (replaying_after recording (going_at r.state p)).live ≡ false
      last_dead =
          ap (λ (x : Replaying). x.live) (next_is r.state p (replay_by r.state p (mark_by stop)) (stop_step recording last stop is_stop r p front f))
          ∙ stop_dead r.state p stop

      pub last_line : line_after recording (going_at r.state p) ≡ stop_line stop
      last_line =
          line_is r.state p (replay_by r.state p (mark_by stop)) (stop_step recording last stop is_stop r p front f)
          ∙ stop_prints r.state p stop

    -- a call, and the rest
    module _ (c : Call) (cs : List Call) (f : From recording last stop is_stop r p front (c ∷ cs)) where
      pub call_next : replaying_after recording (going_at r.state p) ≡ going_at (step_of r c).state (place_after p (length (call_bits c)))
      call_next =
          next_is r.state p (replay_by r.state p (Ok (Some c))) (call_step recording last stop is_stop r p front c cs f)
          ∙ ap (λ (s : State). going_at s (place_after p (length (call_bits c)))) (sym (step_state r c))

      pub call_line : line_after recording (going_at r.state p) ≡ line_of_step (step_to r.state c)
      call_line = line_is r.state p (replay_by r.state p (Ok (Some c))) (call_step recording last stop is_stop r p front c cs f)

  pub stops : (r : Run) (p : Place) (front : List ℕ) (cs : List Call) → From recording last stop is_stop r p front cs
      → (replaying_on (suc (length cs)) recording (going_at r.state p)).live ≡ false
  unfolding replaying_on
  stops r p front [] f = last_dead r p front f
  stops r p front (c ∷ cs) f =
      ap (λ (x : Replaying). (replaying_on (suc (length cs)) recording x).live) (call_next r p front c cs f)
      ∙ stops (step_of r c) (place_after p (length (call_bits c))) (front ++ call_bits c) cs (from_next recording last stop is_stop r p front c cs f)

  pub prints : (n : ℕ) (r : Run) (p : Place) (front : List ℕ) (cs : List Call) → From recording last stop is_stop r p front cs
      → (replaying_on n recording (going_at r.state p)).live ≡ false
      → lines_on n recording (going_at r.state p) ≡ flat line_of_step (steps_from r cs) ++ stop_line stop
  unfolding replaying_on lines_on steps_from flat
  prints zero r p front cs f e = absurd (let z : ◌≡◌ {A = ℕ} 0 1 = cc in omega arith)
  prints (suc n) r p front [] f e =
      ap₂ (λ (v w : List ℕ). v ++ w) (last_line r p front f) (dead_lines recording (replaying_after recording (going_at r.state p)) (last_dead r p front f) n)
      ∙ append-nil (stop_line stop)
  prints (suc n) r p front (c ∷ cs) f e =
      ap₂ (λ (v : List ℕ) (x : Replaying). v ++ lines_on n recording x) (call_line r p front c cs f) (call_next r p front c cs f)
      ∙ ap (λ (w : List ℕ). line_of_step (step_to r.state c) ++ w)
      (prints n (step_of r c) (place_after p (length (call_bits c))) (front ++ call_bits c) cs (from_next recording last stop is_stop r p front c cs f)
      (sym (ap (λ (x : Replaying). (replaying_on n recording x).live) (call_next r p front c cs f)) ∙ e))
      ∙ sym (append_assoc (line_of_step (step_to r.state c)) (flat line_of_step (steps_from (step_of r c) cs)) (stop_line stop))

-- ---- from a sheet

module _ (sheet recording : List ℕ) where
  abbrev x : Set
  x = (read_of sheet).set

  l : Stopped recording
  unfolding AllStepsStand
  l = all_steps_stand recording

  from_start : From recording l.rest (tape_of recording).stop l.stop (begin x) first_place [] (tape_of recording).calls
  unfolding begin ReadPlaced
  from_start = record { formed = alone_gives x (read_placed sheet); small = omega arith; at = refl; split = l.whole; can = l.can }

  -- what follows the first line
  behind : (a : Result (Unit {0}) Refusal) (n : ℕ) → (replaying_on n recording (replaying_from x (was_read a))).live ≡ false
      → lines_on n recording (replaying_from x (was_read a)) ≡ behind_verdict a (replay_printed x (tape_of recording))
  unfolding replay_printed steps_of begin
  behind (Ok tt) n e = prints recording l.rest (tape_of recording).stop l.stop n (begin x) first_place [] (tape_of recording).calls from_start e
  behind (Err why) n e = dead_lines recording (replaying_from x false) refl n

  ends_behind : (a : Result (Unit {0}) Refusal) → (replaying_on (suc (length (tape_of recording).calls)) recording (replaying_from x (was_read a))).live ≡ false
  unfolding begin
  ends_behind (Ok tt) = stops recording l.rest (tape_of recording).stop l.stop (begin x) first_place [] (tape_of recording).calls from_start
  ends_behind (Err why) = ap (λ (r : Replaying). r.live) (dead_stays recording (replaying_from x false) refl (suc (length (tape_of recording).calls)))

pub replay_prints : ReplayPrints
unfolding ReplayPrints
replay_prints sheet recording out m =
    let s = pages_stop recording m.written in
    record {
      verdict = m.begins.verdict;
      is_verdict = m.begins.is_verdict;
      whole =
          m.whole
          ∙ ap₂ (λ (v w : List ℕ). v ++ w) (line_bytes m.first.line (verdict_line m.begins.verdict) m.begins.line)
          (s.lines
          ∙ ap (lines_on s.steps recording) m.begins.replaying
          ∙ behind sheet recording (read_of sheet).answer s.steps
          (sym (ap (λ (r : Replaying). (replaying_on s.steps recording r).live) m.begins.replaying) ∙ s.stopped));
    }

pub replay_stops : ReplayStops
unfolding ReplayStops
replay_stops sheet recording first b =
    let n : ℕ = suc (length (tape_of recording).calls) in
    let w = pages_some recording n first.replaying (ap (λ (r : Replaying). (replaying_on n recording r).live) b.replaying ∙ ends_behind sheet recording (read_of sheet).answer) in
    (bytes_of first.line ++ w.0, record { first = first; begins = b; rest = w.0; written = w.1; whole = refl })
