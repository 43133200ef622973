-- The two passes of choosing: the first keeps the best message so far, the second looks for the started message of its task.
-- Assumes nothing.
use Prim.Native.Nat.{ℕ, ◌+◌, ◌≤◌, ◌<◌}
use mathlib.Core.Bool.{Bool, true, false, cond, false≢true}
use mathlib.Core.Logic.{⊎_elim}
use mathlib.Core.List.{List}
use mathlib.Core.Path.{◌≡◌, refl, ap, sym, ◌∙◌}
use native.Mathlib.Omega.{arith}
use native.Mathlib.Numerals.{add-one}
use borrow.Author.Tests.{lt-ltb, le-ltb, eq-eqb, ne_eqb}
use lib.ListN.{length, drop, drop_of_length-le, length-take}
use lib.Seq.{drop-cons, get_or-take}
use Rattle.laws.specs.Lists.{find, first_by}
use Rattle.laws.proofs.Sums.{all_take_at}
use Rattle.laws.proofs.Parts.{scan_at}
use Rattle.laws.proofs.Gates.{le_or_lt}
use Rattle.rules.specs.declared.Set.{Set}
use Rattle.rules.specs.declared.Message.{Message}
use Rattle.rules.specs.declared.State.{State}
use Rattle.rules.specs.declared.Stream.{Stream}
use Rattle.rules.specs.Streams.{no_stream, no_stage, stream_at}
use Rattle.rules.specs.Valid.{ValidStage, ValidStream}
use Rattle.rules.proofs.Valid.{valid_set}
use Rattle.rules.specs.States.{no_message, pending, stage_of, task_of, posted_at, message_ok, messages_ok, started_of, well_formed}
use Rattle.rules.specs.Steps.{never, ahead, no_turn, running_task, started_at, urgent_at, place_of, served_at}
use Rattle.state_formed.proofs.WellFormed.{WellFormed, well_formed_lem}
use Rattle.state_formed.proofs.Standing.{Standing, standing, standing_ok, message_beyond, stage_room}
use Rattle.state_choosing.specs.declared.Served.{Served}
use Rattle.state_choosing.specs.First.{goes_first}
use Rattle.state_choosing.specs.ToServe.{serve_by, found_of}
use Rattle.state_choosing.specs.Words.{at}
use Rattle.state_choosing.proofs.Best.{due_at, task_at, best_of, best_runs, best_urgent}

-- ---- the first pass

-- what is kept at k is the best before k, and its deadline
pub record First (x : Set) (l : List Message) (k : ℕ) (best : Served) (deadline : ℕ) : Type 0 where
  pub which : best.place ≡ best_of x l k
  pub inside : best.place < length l
  pub kept : best ≡ serve_by x best.place (at l best.place)
  pub due : deadline ≡ (at l best.place).deadline

pub first_start : (x : Set) (l : List Message) (b : Served) (d : ℕ) → 0 < length l → b ≡ serve_by x 0 (at l 0) → d ≡ (at l 0).deadline → First x l 0 b d
unfolding first_by
first_start x l b d some e f =
    let p : b.place ≡ 0 = ap (λ (y : Served). y.place) e in
    record { which = p; inside = rw p some; kept = e ∙ ap (λ (i : ℕ). serve_by x i (at l i)) (sym p); due = rw p f }

more_first : (before : ℕ → ℕ → Bool) (k best : ℕ) → best ≡ first_by before k → cond (before k best) k best ≡ first_by before (k + 1)
unfolding first_by
more_first before k best e = rw (add-one, ← e) refl

in_order : (f g : ℕ → ℕ) (k best d t e u : ℕ) → d ≡ f k → t ≡ g k → e ≡ f best → u ≡ g best → goes_first d t e u ≡ ahead f g k best
unfolding goes_first ahead
in_order f g k best d t e u p q r w = rw (p, q, r, w) refl

module _ (x : Set) (l : List Message) (k : ℕ) (best : Served) (deadline : ℕ) (inv : First x l k best deadline) (q : k < length l) (here : Served) (e : here ≡ serve_by x k (at l k)) (r : Bool)
    (g : r ≡ goes_first (at l k).deadline here.task deadline best.task) where
  abbrev order : ℕ → ℕ → Bool
  order = ahead (due_at l) (task_at x l)

  ordered : r ≡ order k best.place
  ordered = g ∙ in_order (due_at l) (task_at x l) k best.place (at l k).deadline here.task deadline best.task refl (ap (λ (y : Served). y.task) e) inv.due (ap (λ (y : Served). y.task) inv.kept)

  pub first_new : r ≡ true → First x l (k + 1) here (at l k).deadline
  first_new t =
      let p : here.place ≡ k = ap (λ (y : Served). y.place) e in
      record { which = p ∙ (rw (sym ordered ∙ t) at (more_first order k best.place inv.which)); inside = rw p q; kept = e ∙ ap (λ (i : ℕ). serve_by x i (at l i)) (sym p); due = rw p refl }

  pub first_old : r ≡ false → First x l (k + 1) best deadline
  first_old t = record { which = rw (sym ordered ∙ t) at (more_first order k best.place inv.which); inside = inv.inside; kept = inv.kept; due = inv.due }

-- ---- the second pass

-- the messages before k are not started, or of another task
pub record Second (x : Set) (l : List Message) (k : ℕ) (best : Served) : Type 0 where
  pub which : best.place ≡ best_of x l (length l)
  pub inside : best.place < length l
  pub kept : best ≡ serve_by x best.place (at l best.place)
  pub left : k + find (started_of x best.task) (drop k l) ≡ started_at x l best.task

pub second_start : (x : Set) (l : List Message) (k : ℕ) (best : Served) (deadline : ℕ) → First x l k best deadline → k ≡ length l → Second x l 0 best
unfolding started_at
second_start x l k best deadline inv h = record { which = rw h at inv.which; inside = inv.inside; kept = inv.kept; left = omega arith }

module _ (x : Set) (l : List Message) (k : ℕ) (best : Served) (inv : Second x l k best) (q : k < length l) where
  go : started_of x best.task (at l k) ≡ false → Second x l (k + 1) best
  unfolding find
  go e = record {
    which = inv.which;
    inside = inv.inside;
    kept = inv.kept;
    left = rw add-one (omega (arith, rw (drop-cons l k no_message q, e) at inv.left));
  }

  -- a message that is not started, and one of another task
  pub second_fresh : (at l k).used ≤ 0 → Second x l (k + 1) best
  second_fresh h = go (rw (le-ltb 0 (at l k).used h) refl)

  pub second_other : 0 < (at l k).used → (t : ℕ) → t ≡ task_of x (at l k) → (t ≡ best.task → ⊥) → Second x l (k + 1) best
  second_other h t e f = go (rw (lt-ltb 0 (at l k).used h, ← e, ne_eqb t best.task f) refl)

  -- the started message of the task
  started : 0 < (at l k).used → task_of x (at l k) ≡ best.task → k ≡ started_at x l best.task
  unfolding find
  started h e = omega (arith, rw (drop-cons l k no_message q, lt-ltb 0 (at l k).used h, eq-eqb (task_of x (at l k)) best.task e) at inv.left)

-- ---- of a state

module _ (s : State) (w : well_formed s ≡ true) where
  abbrev l : List Message
  l = pending s

  here : WellFormed s
  here = well_formed_lem s w

  pub few_pending : length l ≤ 64
  few_pending = omega (arith, length-take s.count s.messages, here.few)

  count_in : (j : ℕ) → j < length l → j < s.count
  count_in j q = omega (arith, length-take s.count s.messages)

  module _ (j : ℕ) (q : j < length l) where
    abbrev m : Message
    m = at l j

    stands : (b : ℕ) × Standing s.set s.clock b m
    unfolding messages_ok
    stands =
        let o = scan_at (message_ok s.set s.clock) (posted_at s.set) 0 l j no_message here.each q in
        (o.0, standing s.set s.clock o.0 m o.1)

    pub stream_in : m.stream < 16
    stream_in = omega (arith, stands.1.stream, (valid_set s.set here.set).count)

    inside : m.stream < length s.set.streams
    inside = ⊎_elim
        (λ (h : length s.set.streams ≤ m.stream).
        absurd (false≢true (sym (message_beyond s.set s.clock stands.0 m h) ∙ standing_ok s.set s.clock stands.0 m stands.1)))
        (λ (h : m.stream < length s.set.streams). h)
        (le_or_lt (length s.set.streams) m.stream)

    its_stream : ValidStream (stream_at s.set m.stream)
    its_stream =
        let v = valid_set s.set here.set in
        all_take_at ValidStream s.set.streams s.set.count m.stream no_stream stands.1.stream inside v.streams

    pub stage_in : m.stage < 4
    stage_in = omega (arith, stands.1.stage, its_stream.depth.high)

    its_stage : ValidStage (stage_of s.set m)
    its_stage =
        let y : Stream = stream_at s.set m.stream in
        all_take_at ValidStage y.stages y.depth m.stage no_stage stands.1.stage (stage_room s.set s.clock stands.0 m stands.1) its_stream.stages

    task_in : task_of s.set m < 16
    task_in = omega (arith, its_stage.task)

    due_in : m.deadline < never
    due_in = omega (arith, stands.1.late, here.clock, its_stream.deadline.high)

  pub is_found : (i : ℕ) (b : Served) → i < length l → b ≡ serve_by s.set i (at l i) → i ≡ place_of s → b ≡ found_of s
  unfolding found_of
  is_found i b q e p = rw (← p) (e ∙ ap (λ (m : Message). serve_by s.set i m) (get_or-take s.count s.messages i no_message (count_in i q)))

  module _ (k : ℕ) (best : Served) (inv : Second s.set l k best) where
    some : 0 < length l
    some = omega (arith, inv.inside)

    runs : best.task ≡ running_task no_turn s.set l
    runs = ap (λ (y : Served). y.task) inv.kept ∙ ap (task_at s.set l) inv.which ∙ best_runs s.set l some task_in due_in

    place_started : k < length l → k ≡ started_at s.set l best.task → k ≡ place_of s
    unfolding place_of served_at
    place_started q e = rw (← runs, ← e, lt-ltb k (length l) q) refl

    pub serve_started : k < length l → 0 < (at l k).used → (b : Served) → b ≡ serve_by s.set k (at l k) → b.task ≡ best.task → (b ≡ found_of s) × (b.place < s.count)
    serve_started q h b e f = (
      is_found k b q e (place_started q (started s.set l k best inv q h (sym (ap (λ (y : Served). y.task) e) ∙ f))),
      rw (ap (λ (y : Served). y.place) e) (count_in k q),
    )

    urgent : best.place ≡ urgent_at s.set l best.task
    urgent = rw runs (inv.which ∙ best_urgent s.set l some task_in due_in)

    place_best : length l ≤ k → k ≡ started_at s.set l best.task → best.place ≡ place_of s
    unfolding place_of served_at
    place_best h e = rw (← runs, ← e, le-ltb k (length l) h) urgent

    pub serve_best : length l ≤ k → (best ≡ found_of s) × (best.place < s.count)
    unfolding find
    serve_best h =
        let e : k ≡ started_at s.set l best.task = omega (arith, rw (drop_of_length-le l {i = k} h) at inv.left) in
        (is_found best.place best inv.inside inv.kept (place_best h e), count_in best.place inv.inside)
