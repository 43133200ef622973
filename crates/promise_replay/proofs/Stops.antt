-- When a replay says 12, 13 and 14. Assumes nothing.
use Prim.Native.Nat.{ℕ, zero, suc, ◌≤◌, ◌<◌}
use native.Mathlib.Omega.{arith}
use mathlib.Core.Bool.{true, false, ◌&&◌, true≢false}
use mathlib.Core.List.{List, ◌++◌}
use mathlib.Core.Path.{◌≡◌, refl, ap, sym, ◌∙◌}
use borrow.Author.Tests.{leb-true, leb-false, le-leb, lt-leb}
use lib.Dec.{ltb, leb}
use lib.ListN.{length, take, drop, length-drop}
use lib.Seq.{drop_at}
use Rattle.std.specs.List.{list_all}
use Rattle.laws.specs.Lists.{flat}
use Rattle.laws.specs.Bits.{bits, value}
use Rattle.laws.proofs.Sums.{and_parts, by_test}
use Rattle.laws.proofs.Fields.{AreBits, IsBit, all_drop, taken_lt, bits_bits}
use Rattle.rules.specs.declared.Call.{Call}
use Rattle.rules.specs.declared.Call.TheVariants.{Posts, Units}
use Rattle.std.specs.Prelude.{Result, Ok, Err, Option, Some, None}
use Rattle.rules.specs.declared.Refusal.{Refusal}
use Rattle.rules.specs.declared.Refusal.TheVariants.{StopsEarly, Trailing}
use Rattle.rules.specs.declared.State.{State}
use Rattle.rules.specs.States.{well_formed}
use Rattle.rules.specs.Steps.{call_of}
use Rattle.rules.specs.Sheet.{is_zero}
use Rattle.rules.specs.Numbers.{number, call_says, replay_says, refused}
use Rattle.rules.specs.declared.Place.{Place}
use Rattle.rules.specs.Recordings.{bit_at, call_bits, place_in, kind_mark, mark_of, replay_by, replay_step, refused as stopped, Tape, tape_of}
use Rattle.promise_steps.specs.Refusals.{Twelve}
use Rattle.promise_steps.proofs.Refusals.{NotOfRecordings, call_own, twelve}
use Rattle.promise_replay.specs.Replays.{AllStepsStand, mark_by}
use Rattle.promise_replay.specs.Stops.{Early, no_kind, no_stream, Trails, step_says, At, StepTwelve, StepThirteen, StepFourteen, Then, StopsAtThirteen, StopsAtFourteen}
use Rattle.promise_replay.proofs.Tapes.{all_steps_stand, tape_of_lem}

-- ---- marks

-- the number of a mark that is a refusal, 0 of any other
abbrev mark_no : Result (Option Call) Refusal → ℕ
mark_no (Ok (Some c)) = 0
mark_no (Ok None) = 0
mark_no (Err why) = number why

-- which refusal bits come to
data Marked (bs : List ℕ) : Result (Option Call) Refusal → Type 0 where
  goes : (m : Result (Option Call) Refusal) → mark_no m ≡ 0 → Marked bs m
  early : Early bs → Marked bs (Err StopsEarly)
  trails : Trails bs → Marked bs (Err Trailing)

module _ (bs : List ℕ) (there : 2 ≤ length bs) where
  marked_kind : (k : ℕ) → k < 4 → value (take 2 bs) ≡ k → Marked bs (kind_mark k (drop 2 bs))
  marked_kind zero h e = by_test (leb 4 (length (drop 2 bs)))
      (λ y. rw y (goes (Ok (Some (Posts (value (take 4 (drop 2 bs)))))) refl))
      (λ y. rw y (early (no_stream there e (omega (arith, leb-false 4 (length (drop 2 bs)) y, length-drop 2 bs)))))
  marked_kind (suc zero) h e = goes (Ok (Some (Units false))) refl
  marked_kind (suc (suc zero)) h e = goes (Ok (Some (Units true))) refl
  marked_kind (suc (suc (suc zero))) h e = by_test (ltb (length (drop 2 bs)) 8 && list_all is_zero (drop 2 bs))
      (λ y. rw y (goes (Ok None) refl))
      (λ y. rw y (trails (record { there = there; is_end = e; more = y })))
  marked_kind (suc (suc (suc (suc k)))) h e = absurd (omega arith)

marked : (bs : List ℕ) → AreBits bs → Marked bs (mark_of bs)
unfolding mark_of
marked bs h = by_test (leb 2 (length bs))
    (λ y. rw y (marked_kind bs (leb-true 2 (length bs) y) (value (take 2 bs)) (taken_lt 2 bs h (leb-true 2 (length bs) y)) refl))
    (λ y. rw y (early (no_kind (leb-false 2 (length bs) y))))

is_early : (bs : List ℕ) (m : Result (Option Call) Refusal) → Marked bs m → mark_no m ≡ 13 → Early bs
is_early bs m (goes n e) f = absurd (omega arith)
is_early bs m (early e) f = e
is_early bs m (trails t) f = absurd (omega arith)

is_trailing : (bs : List ℕ) (m : Result (Option Call) Refusal) → Marked bs m → mark_no m ≡ 14 → Trails bs
is_trailing bs m (goes n e) f = absurd (omega arith)
is_trailing bs m (early e) f = absurd (omega arith)
is_trailing bs m (trails t) f = t

never_twelve : (bs : List ℕ) (m : Result (Option Call) Refusal) → Marked bs m → mark_no m ≡ 12 → ⊥
never_twelve bs m (goes n e) f = omega arith
never_twelve bs m (early e) f = omega arith
never_twelve bs m (trails t) f = omega arith

early_mark : (bs : List ℕ) → Early bs → mark_of bs ≡ Err StopsEarly
unfolding mark_of
early_mark bs (no_kind h) = rw (lt-leb 2 (length bs) h)
early_mark bs (no_stream h e f) = rw (le-leb 2 (length bs) h, e, lt-leb 4 (length (drop 2 bs)) (omega (arith, length-drop 2 bs)))

trails_mark : (bs : List ℕ) → Trails bs → mark_of bs ≡ Err Trailing
unfolding mark_of
trails_mark bs t = rw (le-leb 2 (length bs) t.there, t.is_end, t.more)

-- ---- a step

module _ (s : State) (recording : List ℕ) (p : Place) where
  abbrev here : List ℕ
  here = drop (bit_at p) (bits recording)

  here_bits : AreBits here
  here_bits = all_drop IsBit (bit_at p) (bits recording) (bits_bits recording)

  -- what a step says, by what its bits say
  step_by_lem : (well_formed s && place_in recording p) ≡ true → step_says s recording p ≡ replay_says (replay_by s p (mark_of here)).answer
  unfolding replay_step
  step_by_lem e = rw e

  ill_says : (well_formed s && place_in recording p) ≡ false → step_says s recording p ≡ refused 12
  unfolding replay_step
  ill_says e = rw e

  -- 13 and 14, which no call gives, are the mark's, and so is 12 in a state that is well formed
  mark_says : (n : ℕ) → (NotOfRecordings n → ⊥) → (m : Result (Option Call) Refusal) → replay_says (replay_by s p m).answer ≡ refused n → mark_no m ≡ n
  mark_says n h (Ok (Some c)) e = absurd (h (call_own s c n e))
  mark_says n h (Ok None) e = absurd (let z : ◌≡◌ {A = ℕ} 0 1 = cc in omega arith)
  mark_says n h (Err why) e = cc

  call_formed : (c : Call) → well_formed s ≡ true → call_says (call_of s c).answer ≡ refused 12 → ⊥
  unfolding Twelve call_of
  call_formed (Posts k) w e = true≢false (sym w ∙ ((twelve s).post k).0 e)
  call_formed (Units done) w e = true≢false (sym w ∙ ((twelve s).unit done).0 e)

  twelve_mark : well_formed s ≡ true → (m : Result (Option Call) Refusal) → replay_says (replay_by s p m).answer ≡ refused 12 → mark_no m ≡ 12
  twelve_mark w (Ok (Some c)) e = absurd (call_formed c w e)
  twelve_mark w (Ok None) e = absurd (let z : ◌≡◌ {A = ℕ} 0 1 = cc in omega arith)
  twelve_mark w (Err why) e = cc

  is_ill : step_says s recording p ≡ refused 12 → (well_formed s && place_in recording p) ≡ false
  is_ill e = by_test (well_formed s && place_in recording p)
      (λ y. absurd (never_twelve here (mark_of here) (marked here here_bits) (twelve_mark (and_parts (well_formed s) (place_in recording p) y).0 (mark_of here) (sym (step_by_lem y) ∙ e))))
      (λ y. y)

  -- 13 and 14
  at_mark : (n : ℕ) → 12 < n → (NotOfRecordings n → ⊥) → (Such : List ℕ → Type 0) → (mark_no (mark_of here) ≡ n → Such here) → step_says s recording p ≡ refused n → At s recording p Such
  at_mark n h f Such back e = by_test (well_formed s && place_in recording p)
      (λ y. let u = and_parts (well_formed s) (place_in recording p) y in
      record { formed = u.0; inside = u.1; such = back (mark_says n f (mark_of here) (sym (step_by_lem y) ∙ e)) })
      (λ y. absurd (let q : refused 12 ≡ refused n = sym (ill_says y) ∙ e in let same : 12 ≡ n = cc in omega arith))

  says_mark : (why : Refusal) (Such : List ℕ → Type 0) → (Such here → mark_of here ≡ Err why) → At s recording p Such → step_says s recording p ≡ refused (number why)
  says_mark why Such mark a = step_by_lem (rw (a.formed, a.inside)) ∙ ap (λ (m : Result (Option Call) Refusal). replay_says (replay_by s p m).answer) (mark a.such)

pub step_twelve : StepTwelve
unfolding StepTwelve
step_twelve s recording p = (is_ill s recording p, ill_says s recording p)

pub step_thirteen : StepThirteen
unfolding StepThirteen
step_thirteen s recording p =
    let bs : List ℕ = here s recording p in (
      at_mark s recording p 13 (omega arith) (λ q. q.0 refl) Early (is_early bs (mark_of bs) (marked bs (here_bits s recording p))),
      says_mark s recording p StopsEarly Early (early_mark bs),
    )

pub step_fourteen : StepFourteen
unfolding StepFourteen
step_fourteen s recording p =
    let bs : List ℕ = here s recording p in (
      at_mark s recording p 14 (omega arith) (λ q. q.1 refl) Trails (is_trailing bs (mark_of bs) (marked bs (here_bits s recording p))),
      says_mark s recording p Trailing Trails (trails_mark bs),
    )

-- ---- a whole recording

tail_bits : (xs ys : List ℕ) → AreBits (xs ++ ys) → AreBits ys
tail_bits xs ys h = rw (← drop_front xs ys) (all_drop IsBit (length xs) (xs ++ ys) h)
  where
    drop_front : (xs ys : List ℕ) → drop (length xs) (xs ++ ys) ≡ ys
    drop_front xs ys = drop_at xs ys (length xs) refl

module _ (recording : List ℕ) (why : Refusal) (Such : List ℕ → Type 0) where
  then_of : ((bs : List ℕ) → AreBits bs → mark_of bs ≡ Err why → Such bs) → (tape_of recording).stop ≡ stopped why → Then recording Such
  unfolding AllStepsStand
  then_of back e =
      let l = all_steps_stand recording in
      record {
        calls = (tape_of recording).calls;
        can = l.can;
        rest = l.rest;
        whole = l.whole;
        such = back l.rest (tail_bits (flat call_bits (tape_of recording).calls) l.rest (rw (← l.whole) (bits_bits recording))) (l.stop ∙ ap mark_by e);
      }

  stop_of : ((bs : List ℕ) → Such bs → mark_of bs ≡ Err why) → Then recording Such → (tape_of recording).stop ≡ stopped why
  stop_of mark t = ap (λ (x : Tape). x.stop) (tape_of_lem recording t.calls t.rest (stopped why) t.can t.whole (mark t.rest t.such))

pub stops_at_thirteen : StopsAtThirteen
unfolding StopsAtThirteen
stops_at_thirteen recording = (then_of recording StopsEarly Early (λ bs h e. is_early bs (mark_of bs) (marked bs h) (ap mark_no e)), stop_of recording StopsEarly Early early_mark)

pub stops_at_fourteen : StopsAtFourteen
unfolding StopsAtFourteen
stops_at_fourteen recording = (then_of recording Trailing Trails (λ bs h e. is_trailing bs (mark_of bs) (marked bs h) (ap mark_no e)), stop_of recording Trailing Trails trails_mark)
