-- What a post and a unit of document 01 come to, case by case, and the pending messages after each. Assumes nothing.
use Prim.Native.Nat.{ℕ, suc, ◌+◌, ◌-◌, ◌≤◌, ◌<◌}
use mathlib.Core.Bool.{Bool, true, false, cond, not}
use mathlib.Core.List.{List, [], ◌∷◌, ◌++◌}
use mathlib.Core.Logic.{◌≢◌}
use mathlib.Core.Path.{◌≡◌, refl, sym, ap, ◌∙◌}
use native.Mathlib.Numerals.{add-one}
use native.Mathlib.Omega.{arith}
use lib.ListN.{length, get_or, take, drop}
use lib.Seq.{take-suc-set, take-set-lt, set_split, get_or-take, length-take-le, take-take}
use lib.Dec.{T, ltb, eqb, ltb→lt, eqb→eq, T_not}
use lib.IntN.{ℤ}
use Rattle.laws.proofs.Gates.{same_pass}
use Rattle.laws.proofs.Parts.{take_remove}
use Rattle.rules.specs.declared.Message.{Message}
use Rattle.rules.specs.declared.State.{State}
use Rattle.rules.specs.declared.Refusal.{Refusal}
use Rattle.rules.specs.declared.Refusal.TheVariants.{NoStream, Full, LastClock, NothingPending, IllFormed, Early}
use Rattle.rules.specs.declared.PostResult.{PostResult}
use Rattle.std.specs.Prelude.{Ok, Err}
use Rattle.rules.specs.declared.UnitResult.{UnitResult}
use Rattle.rules.specs.declared.Outcome.TheVariants.{Ran, Passed, Finished, Cut, Idle}
use Rattle.rules.specs.Parties.{places_of}
use Rattle.rules.specs.States.{no_message, pending, party_of, held_by, stages_in, task_of, cost_of, last_clock, well_formed}
use Rattle.rules.specs.Doors.{shut}
use Rattle.rules.specs.Steps.{door_at, wait_at, has_place, new_message, added, post_refused, post_of, place_of, message_at, ticked, gained, stayed, passed_on, departed, laxity_of, answered, served_of, empty_unit, unit_of}

-- ---- the cases

pub data PostCase (s : State) (k : ℕ) : PostResult → Type 0 where
  refuses : (why : Refusal) → PostCase s k (post_refused s why)
  accepts : k < s.set.count → held_by s (party_of s k) < places_of s.places (party_of s k) → shut (door_at s k) (wait_at s k) ≡ false → PostCase s k (record { answer = Ok (record { stream = k; deadline = (new_message s k).deadline }); state = added s (new_message s k) })

pub post_case : (s : State) (k : ℕ) → PostCase s k (post_of s k)
unfolding post_of
post_case s k = go (well_formed s) (ltb k s.set.count) (shut (door_at s k) (wait_at s k)) (has_place s k) (ltb→lt k s.set.count) refl (ltb→lt (held_by s (party_of s k)) (places_of s.places (party_of s k)))
  where
    go : (a b d c : Bool) → (T b → k < s.set.count) → shut (door_at s k) (wait_at s k) ≡ d → (T c → held_by s (party_of s k) < places_of s.places (party_of s k)) → PostCase s k (
        cond a
        (cond b
        (cond d
        (post_refused s Early)
        (cond c
        (record { answer = Ok (record { stream = k; deadline = (new_message s k).deadline }); state = added s (new_message s k) })
        (post_refused s Full)))
        (post_refused s NoStream))
        (post_refused s IllFormed)
        )
    go false b d c f e g = refuses IllFormed
    go true false d c f e g = refuses NoStream
    go true true true c f e g = refuses Early
    go true true false false f e g = refuses Full
    go true true false true f e g = accepts (f tt) (g tt) e

-- a unit that serves a message
pub record Serving (s : State) : Type 0 where
  pub some : s.count ≢ 0
  pub early : s.clock < last_clock

-- the message that a unit would serve, its task and its laxity after the unit
abbrev pub chosen_of : State → Message
chosen_of s = message_at s (place_of s)

abbrev pub chosen_task : State → ℕ
chosen_task s = task_of s.set (chosen_of s)

abbrev pub chosen_laxity : State → ℤ
chosen_laxity s = laxity_of (chosen_of s).deadline (s.clock + 1)

pub data UnitCase (s : State) (done : Bool) : UnitResult → Type 0 where
  stops : (why : Refusal) → UnitCase s done (answered s (Err why))
  idles : s.count ≡ 0 → s.clock < last_clock → UnitCase s done (answered (ticked s) (Ok Idle))
  finishes : Serving s → (chosen_of s).stage + 1 ≡ stages_in s.set (chosen_of s) → UnitCase s done (answered (departed s (place_of s)) (Ok (Finished (chosen_task s) (chosen_of s).stream (chosen_laxity s))))
  passes : Serving s → (chosen_of s).stage + 1 ≢ stages_in s.set (chosen_of s) → UnitCase s done (answered (stayed s (place_of s) (passed_on (chosen_of s))) (Ok (Passed (chosen_task s) (chosen_of s).stream)))
  cuts : Serving s → (chosen_of s).used + 1 ≡ cost_of s.set (chosen_of s) → UnitCase s done (answered (departed s (place_of s)) (Ok (Cut (chosen_task s) (chosen_of s).stream (chosen_laxity s))))
  runs : Serving s → (chosen_of s).used + 1 ≢ cost_of s.set (chosen_of s) → UnitCase s done (answered (stayed s (place_of s) (gained (chosen_of s))) (Ok (Ran (chosen_task s) (chosen_of s).stream)))

served_case : (s : State) (done : Bool) → Serving s → UnitCase s done (served_of s (place_of s) done)
unfolding served_of
served_case s done v = go done (eqb ((chosen_of s).stage + 1) (stages_in s.set (chosen_of s))) (eqb ((chosen_of s).used + 1) (cost_of s.set (chosen_of s)))
    (eqb→eq ((chosen_of s).stage + 1) (stages_in s.set (chosen_of s)))
    (apart ((chosen_of s).stage + 1) (stages_in s.set (chosen_of s)))
    (eqb→eq ((chosen_of s).used + 1) (cost_of s.set (chosen_of s)))
    (apart ((chosen_of s).used + 1) (cost_of s.set (chosen_of s)))
  where
    apart : (a b : ℕ) → T (not (eqb a b)) → a ≢ b
    apart a b f e = T_not (eqb a b) f (same_pass a b e)

    go : (a l b : Bool) → (T l → (chosen_of s).stage + 1 ≡ stages_in s.set (chosen_of s)) → (T (not l) → (chosen_of s).stage + 1 ≢ stages_in s.set (chosen_of s))
        → (T b → (chosen_of s).used + 1 ≡ cost_of s.set (chosen_of s)) → (T (not b) → (chosen_of s).used + 1 ≢ cost_of s.set (chosen_of s)) → UnitCase s done (
        cond a
        (cond l
        (answered (departed s (place_of s)) (Ok (Finished (chosen_task s) (chosen_of s).stream (chosen_laxity s))))
        (answered (stayed s (place_of s) (passed_on (chosen_of s))) (Ok (Passed (chosen_task s) (chosen_of s).stream))))
        (cond b
        (answered (departed s (place_of s)) (Ok (Cut (chosen_task s) (chosen_of s).stream (chosen_laxity s))))
        (answered (stayed s (place_of s) (gained (chosen_of s))) (Ok (Ran (chosen_task s) (chosen_of s).stream))))
        )
    go true true b p q f g = finishes v (p tt)
    go true false b p q f g = passes v (q tt)
    go false l true p q f g = cuts v (f tt)
    go false l false p q f g = runs v (g tt)

empty_case : (s : State) (done : Bool) → s.count ≡ 0 → s.clock < last_clock → UnitCase s done (empty_unit s done)
unfolding empty_unit
empty_case s true e h = stops NothingPending
empty_case s false e h = idles e h

pub unit_case : (s : State) (done : Bool) → UnitCase s done (unit_of s done)
unfolding unit_of
unit_case s done = go (well_formed s) (ltb s.clock last_clock) (eqb s.count 0) (ltb→lt s.clock last_clock) (eqb→eq s.count 0) (λ f e. T_not (eqb s.count 0) f (same_pass s.count 0 e))
  where
    go : (a b c : Bool) → (T b → s.clock < last_clock) → (T c → s.count ≡ 0) → (T (not c) → s.count ≢ 0) → UnitCase s done (
        cond a
        (cond b
        (cond c (empty_unit s done) (served_of s (place_of s) done))
        (answered s (Err LastClock)))
        (answered s (Err IllFormed))
        )
    go false b c f g h = stops IllFormed
    go true false c f g h = stops LastClock
    go true true true f g h = empty_case s done (g tt) (f tt)
    go true true false f g h = served_case s done (record { some = h tt; early = f tt })

-- ---- the pending messages after a step, of a state with its 64 places

module _ (s : State) (places : length s.messages ≡ 64) where
  pub pending_length : s.count ≤ 64 → length (pending s) ≡ s.count
  pending_length few = length-take-le s.count s.messages (omega arith)

  pub pending_added : (m : Message) → s.count < 64 → pending (added s m) ≡ pending s ++ (m ∷ [])
  pending_added m room = rw (add-one) (take-suc-set s.messages s.count m (omega arith))

  pub message_is : (i : ℕ) → i < s.count → message_at s i ≡ get_or (pending s) i no_message
  message_is i h = sym (get_or-take s.count s.messages i no_message h)

  pub pending_stayed : (i : ℕ) (m : Message) → s.count ≤ 64 → i < s.count → pending (stayed s i m) ≡ take i (pending s) ++ (m ∷ drop (suc i) (pending s))
  pending_stayed i m few h =
      take-set-lt s.count s.messages i m h
      ∙ set_split (pending s) i m (omega (arith, pending_length few))

  pub pending_departed : (i : ℕ) → s.count ≤ 64 → i < s.count → pending (departed s i) ≡ take i (pending s) ++ drop (suc i) (pending s)
  pending_departed i few h =
      take_remove no_message i (s.count - 1) s.messages (omega arith) (omega arith)
      ∙ ap (λ (n : ℕ). take i s.messages ++ drop (suc i) (take n s.messages)) (let e : suc (s.count - 1) ≡ s.count = omega arith in e)
      ∙ ap (λ (l : List Message). l ++ drop (suc i) (pending s)) (sym (take-take i s.count s.messages (omega arith)))
