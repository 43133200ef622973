-- The replay of a recording gives the cab's answers, call by call, then end, and the cab's last state. Assumes nothing.
use Prim.Native.Nat.{ℕ, suc, ◌+◌, ◌*◌, ◌≤◌, ◌<◌}
use native.Mathlib.Omega.{arith}
use mathlib.Core.Bool.{true}
use mathlib.Core.List.{List, [], ◌∷◌, ◌++◌, map, append_assoc}
use mathlib.Core.Path.{◌≡◌, refl, ap, ap₂, sym, subst, ◌∙◌}
use borrow.Author.Tests.{le-leb, lt-ltb, ltb-false, eq-eqb}
use lib.Dec.{ltb}
use lib.ListN.{length, drop, length-append}
use lib.Seq.{drop_at}
use Rattle.std.specs.List.{list_all}
use Rattle.laws.specs.Lists.{flat}
use Rattle.laws.specs.Bits.{to_bits, bits, zeros}
use Rattle.laws.proofs.Sums.{and_parts, by_test}
use Rattle.laws.proofs.Fields.{bits_length}
use Rattle.rules.specs.declared.Call.{Call}
use Rattle.std.specs.Prelude.{Result, Ok, Err, Some}
use Rattle.rules.specs.declared.Refusal.{Refusal}
use Rattle.rules.specs.declared.State.{State}
use Rattle.rules.specs.declared.ReadResult.{ReadResult}
use Rattle.rules.specs.declared.ReplayResult.{ReplayResult}
use Rattle.rules.specs.States.{well_formed}
use Rattle.rules.specs.Steps.{start_for}
use Rattle.rules.specs.Sheet.{read_of}
use Rattle.rules.specs.Numbers.{Says, replay_says}
use Rattle.rules.specs.Runs.{Run, said_at, step_to, step_of, Start, Starts, Boxed, start_at, begin_for, run_from, run_for, steps_from, steps_for, answers_for}
use Rattle.rules.specs.declared.Place.{Place}
use Rattle.rules.specs.Recordings.{call_bits, recordable, recording_of, place_in, bit_at, place_after, mark_of, replay_by, replay_step, begun_by, replay_start, first_place, replay_answers, replay_state, Stop, ends, refused, tape_of}
use Rattle.rules.proofs.Events.{step_state}
use Rattle.sheet_write.specs.Answers.{ReadPlaced}
use Rattle.sheet_write.proofs.Back.{read_back}
use Rattle.sheet_write.proofs.Rounds.{read_placed}
use Rattle.promise_steps.specs.Formed.{Formed, StartGives}
use Rattle.promise_steps.proofs.Runs.{empty_formed, start_gives, step_keeps}
use Rattle.promise_replay.specs.Replays.{cab_start, ReplayIsTheCabs, ReplayBegins, AllStepsStand, mark_by, stop_says, AnyRecording}
use Rattle.promise_replay.proofs.Tapes.{all_steps_stand}
use Rattle.promise_replay.proofs.Reading.{mark_call, mark_end, padding, padding_few, recording_bits}

-- ---- places

place_later : (p : Place) (n : ℕ) → bit_at (place_after p n) ≡ bit_at p + n
unfolding place_after
place_later p n = omega arith

place_bit : (p : Place) (n : ℕ) → (place_after p n).bit < 8
unfolding place_after
place_bit p n = omega arith

place_ok : (s : List ℕ) (p : Place) → p.bit < 8 → bit_at p ≤ 8 * length s → place_in s p ≡ true
unfolding place_in
place_ok s p h e =
    rw (le-leb p.byte (length s) (omega arith), lt-ltb p.bit 8 h)
    (by_test (ltb p.byte (length s)) (λ y. rw y) (λ y. rw (y, eq-eqb p.bit 0 (omega (arith, ltb-false p.byte (length s) y)))))

-- ---- a step where bits are known

module _ (recording : List ℕ) (s : State) (p : Place) (formed : well_formed s ≡ true) (small : p.bit < 8) (front rest : List ℕ) (at : bit_at p ≡ length front) (split : bits recording ≡ front ++ rest) where
  inside : place_in recording p ≡ true
  inside = place_ok recording p small (omega (arith, at, ap length split, length-append front rest, bits_length recording))

  pub step_is : replay_step s recording p ≡ replay_by s p (mark_of rest)
  unfolding replay_step
  step_is = rw (formed, inside) (ap (λ (l : List ℕ). replay_by s p (mark_of l)) (ap₂ drop at split ∙ drop_at front rest (length front) refl))

-- one step more, whatever it comes to
answers_by : (n : ℕ) (recording : List ℕ) (s : State) (p : Place) (r : ReplayResult) → replay_step s recording p ≡ r
    → replay_answers (suc n) recording s p ≡ replay_says r.answer ∷ replay_answers n recording r.state r.place
unfolding replay_answers
answers_by n recording s p r e = ap (λ (r : ReplayResult). replay_says r.answer ∷ replay_answers n recording r.state r.place) e

state_by : (n : ℕ) (recording : List ℕ) (s : State) (p : Place) (r : ReplayResult) → replay_step s recording p ≡ r
    → replay_state (suc n) recording s p ≡ replay_state n recording r.state r.place
unfolding replay_state
state_by n recording s p r e = ap (λ (r : ReplayResult). replay_state n recording r.state r.place) e

-- ---- all steps

module _ (recording last : List ℕ) (stop : Stop) (is_stop : mark_of last ≡ mark_by stop) where
  -- behind the bits `front`, the calls cs and the last bits are left
  pub record From (r : Run) (p : Place) (front : List ℕ) (cs : List Call) : Type 0 where
    pub formed : Formed r.state
    pub small : p.bit < 8
    pub at : bit_at p ≡ length front
    pub split : bits recording ≡ front ++ (flat call_bits cs ++ last)
    pub can : list_all recordable cs ≡ true

  pub record Gives (r : Run) (p : Place) (cs : List Call) : Type 0 where
    pub answers : replay_answers (suc (length cs)) recording r.state p ≡ map said_at (steps_from r cs) ++ (stop_says stop ∷ [])
    pub state : replay_state (suc (length cs)) recording r.state p ≡ (run_from r cs).state

  pub stop_step : (r : Run) (p : Place) (front : List ℕ) → From r p front [] → replay_step r.state recording p ≡ replay_by r.state p (mark_by stop)
  unfolding flat
  stop_step r p front f = step_is recording r.state p f.formed.formed f.small front last f.at f.split ∙ ap (replay_by r.state p) is_stop

  pub call_step : (r : Run) (p : Place) (front : List ℕ) (c : Call) (cs : List Call) → From r p front (c ∷ cs) → replay_step r.state recording p ≡ replay_by r.state p (Ok (Some c))
  unfolding flat
  call_step r p front c cs f =
      step_is recording r.state p f.formed.formed f.small front (call_bits c ++ (flat call_bits cs ++ last)) f.at (f.split ∙ ap (λ (l : List ℕ). front ++ l) (append_assoc (call_bits c) (flat call_bits cs) last))
      ∙ ap (replay_by r.state p) (mark_call c (flat call_bits cs ++ last) (and_parts (recordable c) (list_all recordable cs) f.can).0)

  -- the place behind a call
  pub from_next : (r : Run) (p : Place) (front : List ℕ) (c : Call) (cs : List Call) → From r p front (c ∷ cs) → From (step_of r c) (place_after p (length (call_bits c))) (front ++ call_bits c) cs
  unfolding flat
  from_next r p front c cs f = record {
    formed = step_keeps r c f.formed;
    small = place_bit p (length (call_bits c));
    at = place_later p (length (call_bits c)) ∙ omega (arith, f.at, length-append front (call_bits c));
    split = f.split ∙ ap (λ (l : List ℕ). front ++ l) (append_assoc (call_bits c) (flat call_bits cs) last) ∙ sym (append_assoc front (call_bits c) (flat call_bits cs ++ last));
    can = (and_parts (recordable c) (list_all recordable cs) f.can).1;
  }

  -- the step that stops says so, and leaves the state
  stop_says_lem : (s : State) (p : Place) → replay_says (replay_by s p (mark_by stop)).answer ≡ stop_says stop
  stop_says_lem s p = go stop
    where
      go : (t : Stop) → replay_says (replay_by s p (mark_by t)).answer ≡ stop_says t
      go ends = refl
      go (refused why) = refl

  stop_state : (s : State) (p : Place) → (replay_by s p (mark_by stop)).state ≡ s
  stop_state s p = go stop
    where
      go : (t : Stop) → (replay_by s p (mark_by t)).state ≡ s
      go ends = refl
      go (refused why) = refl

  pub gives : (r : Run) (p : Place) (front : List ℕ) (cs : List Call) → From r p front cs → Gives r p cs
  unfolding steps_from run_from replay_answers replay_state
  gives r p front [] f = record {
    answers = answers_by 0 recording r.state p (replay_by r.state p (mark_by stop)) (stop_step r p front f) ∙ ap (λ (x : Says). x ∷ []) (stop_says_lem r.state p);
    state = state_by 0 recording r.state p (replay_by r.state p (mark_by stop)) (stop_step r p front f) ∙ stop_state r.state p;
  }
  gives r p front (c ∷ cs) f = more (gives (step_of r c) (place_after p (length (call_bits c))) (front ++ call_bits c) cs (from_next r p front c cs f))
    where
      more : Gives (step_of r c) (place_after p (length (call_bits c))) cs → Gives r p (c ∷ cs)
      more g = record {
        answers = answers_by (suc (length cs)) recording r.state p (replay_by r.state p (Ok (Some c))) (call_step r p front c cs f)
            ∙ ap (λ (l : List Says). said_at (step_to r.state c) ∷ l) (subst (λ (s : State). replay_answers (suc (length cs)) recording s (place_after p (length (call_bits c))) ≡ map said_at (steps_from (step_of r c) cs) ++ (stop_says stop ∷ [])) (step_state r c) g.answers);
        state = state_by (suc (length cs)) recording r.state p (replay_by r.state p (Ok (Some c))) (call_step r p front c cs f)
            ∙ subst (λ (s : State). replay_state (suc (length cs)) recording s (place_after p (length (call_bits c))) ≡ (run_from (step_of r c) cs).state) (step_state r c) g.state;
      }

-- ---- from the sheet

sheet_start_lem : (z : Start) → Starts z → cab_start z ≡ (start_for z.set z.owners z.places).state
unfolding replay_start
sheet_start_lem z starts = ap (λ (r : ReadResult). (begun_by r.answer (start_for r.set z.owners z.places)).state) (read_back z.set starts.valid_set starts.boxed.set)

pub replay_is_the_cabs : ReplayIsTheCabs
unfolding ReplayIsTheCabs answers_for steps_for run_for begin_for StartGives
replay_is_the_cabs z starts calls can =
    let g = gives (recording_of calls) (to_bits 2 3 ++ zeros (padding calls)) ends (mark_end (padding calls) (padding_few calls)) (begin_for z) first_place [] calls (record { formed = start_gives z starts.boxed; small = omega arith; at = refl; split = recording_bits calls; can = can }) in
    record {
      answers = rw (sheet_start_lem z starts) g.answers;
      state = rw (sheet_start_lem z starts) g.state;
    }

-- ---- any recording, from any sheet

replay_formed : (a : Result (Unit {0}) Refusal) (z : Start) → Boxed z → Formed (begun_by a (start_for z.set z.owners z.places)).state
unfolding StartGives
replay_formed (Ok tt) z b = start_gives z b
replay_formed (Err why) z b = empty_formed

pub any_recording : AnyRecording
unfolding AnyRecording AllStepsStand ReadPlaced replay_start
any_recording sheet owners places recording long =
    let l = all_steps_stand recording in
    let z : Start = record { set = (read_of sheet).set; owners = owners; places = places } in
    let g = gives recording l.rest (tape_of recording).stop l.stop (start_at (begun_by (read_of sheet).answer (start_for z.set owners places)).state) first_place [] (tape_of recording).calls
    (record { formed = replay_formed (read_of sheet).answer z (record { set = read_placed sheet; owners = long }); small = omega arith; at = refl; split = l.whole; can = l.can }) in
    record { answers = g.answers; state = g.state }

pub replay_begins : ReplayBegins
unfolding ReplayBegins replay_start begin_for
replay_begins sheet owners places e = rw e
