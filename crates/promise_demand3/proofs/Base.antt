-- The set and messages of documents 01 and 02 as a kind of the deadline argument, and its demand and limits as that argument's. Assumes nothing.
use Prim.Native.Nat.{ℕ, suc, ◌+◌, ◌-◌, ◌≤◌, ◌<◌}
use mathlib.Core.Bool.{Bool, true}
use mathlib.Core.List.{List}
use mathlib.Core.Logic.{⊎_elim}
use mathlib.Core.Path.{◌≡◌, refl, ap, ◌∙◌}
use native.Mathlib.Omega.{arith}
use lib.ListN.{length, get_or, drop, length-take}
use lib.Seq.{drop-cons}
use lib.Dec.{T, leb, ltb, leb→le, le→leb, ltb→lt, lt→ltb}
use Rattle.std.specs.List.{list_any}
use Rattle.laws.specs.Lists.{below, sum, top}
use Rattle.laws.proofs.Gates.{le_or_lt, both_pass, cond_yes, cond_no, range_mono, sum_places, top_member, any_member}
use Rattle.rules.specs.declared.Set.{Set}
use Rattle.rules.specs.declared.Stage.{Stage}
use Rattle.rules.specs.declared.Stream.{Stream}
use Rattle.rules.specs.Valid.{ValidStream}
use Rattle.rules.specs.Streams.{Placed, no_stage, no_stream, stages_of, streams_of, stream_at, limit, valid}
use Rattle.rules.specs.States.{stages_in, task_of, cost_of, span_of}
use Rattle.rules.specs.Load.{stage_cost, cost_in, due, has, urgent, blocks_for, blocks, blocking, demand}
use Rattle.rules.proofs.Stages.{stage_in_lem, stage_has, stage_blocks}
use Rattle.rules.specs.Runs.{Accepted, Departure, KeepsLimit, KeepsLimits}
use Rattle.promise_deadlines.specs.Model.{Model, Keeps, Fits, in_window, due as model_due, demand as model_demand}
use Rattle.promise_demand3.specs.Kind.{Named, Fine, cost_from, rest_of, hold_of, cap_of, Urged, Tells}
use Rattle.promise_steps.proofs.Valid.{streams_length, stream_is, stream_member, stream_valid, four_stages, stage_fine}

true_pass : {b : Bool} → b ≡ true → T b
true_pass e = rw e tt

module _ (S : Set) where
  -- the costs are those of the stream
  pub from_stream : (m n : Named) → m.message.stream ≡ n.message.stream → (j : ℕ) → cost_from S m j ≡ cost_from S n j
  unfolding cost_from
  from_stream m n e j = rw e

  pub hold_started : (m : Named) → 0 < m.message.used → hold_of S m ≡ cost_of S m.message - m.message.used
  unfolding hold_of
  hold_started m h = cond_yes (ltb 0 m.message.used) (cost_of S m.message - m.message.used) 0 (lt→ltb 0 m.message.used h)

  pub hold_unstarted : (m : Named) → m.message.used ≡ 0 → hold_of S m ≡ 0
  unfolding hold_of
  hold_unstarted m e = cond_no (ltb 0 m.message.used) (cost_of S m.message - m.message.used) 0 (λ t. let h : 0 < m.message.used = ltb→lt 0 m.message.used t in omega arith)

  hold_le : (m : Named) → hold_of S m ≤ cost_of S m.message - 1
  hold_le m = ⊎_elim
      (λ (h : 1 ≤ m.message.used). omega (arith, hold_started m h))
      (λ (h : m.message.used < 1). omega (arith, hold_unstarted m (omega arith)))
      (le_or_lt 1 m.message.used)

  -- a message that keeps the rules has started exactly if its task owes it something
  pub started_hold : (m : Named) → Fine S m → hold_of S m ≡ 0 → m.message.used ≡ 0
  started_hold m f e = ⊎_elim
      (λ (h : 1 ≤ m.message.used). absurd (omega (arith, hold_started m h, f.used_in)))
      (λ (h : m.message.used < 1). omega arith)
      (le_or_lt 1 m.message.used)

  module _ (placed : Placed S) (ok : valid S ≡ true) where
    -- the costs from a stage on are its own and those of the stages behind it; from the first on they are the stream's
    pub cost_split : (m : Named) → m.message.stream < S.count → m.message.stage < stages_in S m.message
        → cost_from S m m.message.stage ≡ cost_of S m.message + cost_from S m (suc m.message.stage)
    unfolding cost_from sum
    cost_split m h q =
        let s : Stream = stream_at S m.message.stream in
        let four : length s.stages ≡ 4 = four_stages S placed ok m.message.stream h in
        let v : ValidStream s = stream_valid S placed ok m.message.stream h in
        ap (sum stage_cost) (drop-cons (stages_of s) m.message.stage no_stage (omega (arith, q, four, v.depth.high, length-take s.depth s.stages)))
        ∙ ap (λ (g : Stage). stage_cost g + sum stage_cost (drop (suc m.message.stage) (stages_of s))) (stage_in_lem s four v m.message.stage q)

    pub cost_first : (m : Named) → cost_from S m 0 ≡ cost_in (stream_at S m.message.stream)
    unfolding cost_from cost_in
    cost_first m = refl

    -- a started message is one of those that the load check counts as blocking
    pub capped_of : (m : Named) → Fine S m → (i : ℕ) → i < span_of S m.message → hold_of S m ≤ cap_of S (task_of S m.message) i
    capped_of m f i h = omega (
      arith,
      hold_le m,
      top_member (blocks (task_of S m.message) i) (stream_member S placed ok m.message.stream f.stream_in),
      stage_blocks (stream_at S m.message.stream) (four_stages S placed ok m.message.stream f.stream_in) (stream_valid S placed ok m.message.stream f.stream_in) m.message.stage f.stage_in,
      cond_no (leb (span_of S m.message) i) 0 (blocks_for (task_of S m.message) (stream_at S m.message.stream)) (λ t. let q : span_of S m.message ≤ i = leb→le (span_of S m.message) i t in omega arith),
    )

    pub urges_of : (m : Named) → Fine S m → (i : ℕ) → span_of S m.message ≤ i → Urged S (task_of S m.message) i
    urges_of m f i h = any_member (urgent (task_of S m.message) i) (stream_member S placed ok m.message.stream f.stream_in)
        (both_pass (has (task_of S m.message) (stream_at S m.message.stream)) (leb (span_of S m.message) i) (true_pass (stage_has (stream_at S m.message.stream) (four_stages S placed ok m.message.stream f.stream_in) (stream_valid S placed ok m.message.stream f.stream_in) m.message.stage f.stage_in)) (le→leb (span_of S m.message) i h))

    pub blocking_of_lem : (t i : ℕ) → Urged S t i → cap_of S t i ≤ blocking (streams_of S) i t
    unfolding blocking
    blocking_of_lem t i u = omega (arith, cond_yes (list_any (urgent t i) (streams_of S)) (top (blocks t i) (streams_of S)) 0 u)

    abbrev pub base : Model
    base = record {
      Msg = Named;
      number = λ m. m.number;
      stream = λ m. m.message.stream;
      task = λ m. task_of S m.message;
      deadline = λ m. m.message.deadline;
      rest = rest_of S;
      hold = hold_of S;
      Fine = Fine S;
      Post = Accepted;
      post_number = λ p. p.number;
      post_stream = λ p. p.stream;
      post_clock = λ p. p.at;
      Departure = Departure;
      left_number = λ d. d.number;
      left_clock = λ d. d.at;
      Tells = Tells S;
      streams = S.count;
      tasks = 16;
      cost = λ k. cost_in (stream_at S k);
      span = λ k. (stream_at S k).deadline;
      limit = λ k. limit (stream_at S k);
      cap = cap_of S;
      Urgent = Urged S;
      blocking = λ t i. blocking (streams_of S) i t;
      blocking_urgent = blocking_of_lem;
      live = λ m f. omega (arith, f.used_in, cost_split m f.stream_in f.stage_in);
      task_in = λ m f. omega (arith, (stage_fine S placed ok m.message.stream f.stream_in m.message.stage f.stage_in).task);
      capped = capped_of;
      urges = urges_of;
    }

    -- ---- the load check's demand, and the limits, are those of the argument

    demand_is : (i : ℕ) → model_demand base i ≤ demand (streams_of S) i
    unfolding model_demand model_due demand due
    demand_is i = omega (
      arith,
      sum_places (due i) (streams_of S) no_stream,
      ap (λ (n : ℕ). sum (λ k. due i (get_or (streams_of S) k no_stream)) (below n)) (streams_length S placed ok),
      range_mono S.count (model_due base i) (λ k. due i (get_or (streams_of S) k no_stream)) (λ k h. omega (arith, ap (due i) (stream_is S placed ok k h))),
    )

    pub base_fits : ((i : ℕ) → demand (streams_of S) i ≤ i) → Fits base
    base_fits fits i = omega (arith, demand_is i, fits i)

    pub base_keeps : (ps : List Accepted) → KeepsLimits S ps → Keeps base ps
    unfolding KeepsLimit KeepsLimits in_window
    base_keeps ps keeps = keeps
