-- What the test of a pending message says, as propositions, and the test as the code makes it.
-- Assumes nothing.
use Prim.Native.Nat.{ℕ, ◌+◌, ◌-◌, ◌≤◌, ◌<◌}
use mathlib.Core.Bool.{true, false}
use mathlib.Core.Path.{◌≡◌, ap, ◌∙◌}
use native.Mathlib.Omega.{arith}
use borrow.Author.Tests.{ltb-true, ltb-false, leb-true, lt-ltb, le-ltb, le-leb}
use lib.Dec.{ltb, leb}
use lib.ListN.{length, get_or-eq_default}
use Rattle.laws.specs.Lists.{within}
use Rattle.laws.proofs.Sums.{and_parts, by_test}
use Rattle.laws.proofs.Parts.{every_at_lem}
use Rattle.rules.specs.declared.Set.{Set}
use Rattle.rules.specs.declared.Stage.{Stage}
use Rattle.rules.specs.declared.Stream.{Stream}
use Rattle.rules.specs.declared.Message.{Message}
use Rattle.rules.specs.Streams.{stream_at, stage_at, no_stream, no_stage}
use Rattle.rules.specs.States.{stages_in, task_of, cost_of, span_of, posted_at, message_tests, message_ok}

-- the message m stands behind one that was posted at `before`
pub record Standing (x : Set) (clock before : ℕ) (m : Message) : Type 0 where
  pub stream : m.stream < x.count
  pub stage : m.stage < stages_in x m
  pub used : m.used < cost_of x m
  pub early : span_of x m ≤ m.deadline
  pub late : m.deadline ≤ clock + span_of x m
  pub order : before ≤ posted_at x m

pub standing : (x : Set) (clock before : ℕ) (m : Message) → message_ok x clock before m ≡ true → Standing x clock before m
unfolding message_ok
standing x clock before m e =
    let t = every_at_lem (message_tests x clock before m) in
    let w : within (span_of x m) m.deadline (clock + span_of x m) ≡ true = t 3 e in
    record {
      stream = ltb-true _ _ (t 0 e);
      stage = ltb-true _ _ (t 1 e);
      used = ltb-true _ _ (t 2 e);
      early = leb-true _ _ (and_parts (leb (span_of x m) m.deadline) (leb m.deadline (clock + span_of x m)) w).0;
      late = leb-true _ _ (and_parts (leb (span_of x m) m.deadline) (leb m.deadline (clock + span_of x m)) w).1;
      order = leb-true _ _ (t 4 e);
    }

pub standing_ok : (x : Set) (clock before : ℕ) (m : Message) → Standing x clock before m → message_ok x clock before m ≡ true
unfolding message_ok
standing_ok x clock before m h =
    rw (lt-ltb m.stream x.count h.stream, lt-ltb m.stage (stages_in x m) h.stage, lt-ltb m.used (cost_of x m) h.used, le-leb (span_of x m) m.deadline h.early, le-leb m.deadline (clock + span_of x m) h.late, le-leb before (posted_at x m) h.order)

-- a message of a stream that the set has not
pub message_out : (x : Set) (clock before : ℕ) (m : Message) → x.count ≤ m.stream → message_ok x clock before m ≡ false
unfolding message_ok
message_out x clock before m h = rw (le-ltb m.stream x.count h)

-- a message of a stream without a place
pub message_beyond : (x : Set) (clock before : ℕ) (m : Message) → length x.streams ≤ m.stream → message_ok x clock before m ≡ false
message_beyond x clock before m h =
    by_test (message_ok x clock before m)
    (λ t. absurd (omega (arith, (standing x clock before m t).stage, ap (λ (y : Stream). y.depth) (get_or-eq_default x.streams no_stream h))))
    (λ t. t)

-- a stage without a place costs 0: the stage of a message that stands has one
pub stage_room : (x : Set) (clock before : ℕ) (m : Message) → Standing x clock before m → m.stage < length (stream_at x m.stream).stages
stage_room x clock before m h =
    by_test (ltb m.stage (length (stream_at x m.stream).stages))
    (λ t. ltb-true _ _ t)
    (λ t. absurd (omega (arith, h.used, ap (λ (g : Stage). g.cost) (get_or-eq_default (stream_at x m.stream).stages no_stage (ltb-false _ _ t)))))

-- a message in a stage without a place
pub message_past : (x : Set) (clock before : ℕ) (m : Message) → length (stream_at x m.stream).stages ≤ m.stage → message_ok x clock before m ≡ false
message_past x clock before m h =
    by_test (message_ok x clock before m)
    (λ t. absurd (omega (arith, h, stage_room x clock before m (standing x clock before m t))))
    (λ t. t)

-- a message whose deadline is before the d of its stream
pub message_early : (x : Set) (clock before : ℕ) (m : Message) → m.deadline < span_of x m → message_ok x clock before m ≡ false
message_early x clock before m h =
    by_test (message_ok x clock before m)
    (λ t. absurd (omega (arith, h, (standing x clock before m t).early)))
    (λ t. t)

-- as the code reads it: y is its stream, g its stage, and `at` the clock at which it was posted
module _ (x : Set) (clock before : ℕ) (m : Message) (y : Stream) (g : Stage) (at : ℕ) (e : y ≡ stream_at x m.stream) (f : g ≡ stage_at y m.stage)
    (q : y.deadline ≤ m.deadline) (r : at ≡ m.deadline - y.deadline) where
  pub posted_is : at ≡ posted_at x m
  posted_is = r ∙ ap (λ (z : Stream). m.deadline - z.deadline) e

  pub task_is : g.task ≡ task_of x m
  task_is = ap (λ (h : Stage). h.task) f ∙ ap (λ (z : Stream). (stage_at z m.stage).task) e

  cost_is : g.cost ≡ cost_of x m
  cost_is = ap (λ (h : Stage). h.cost) f ∙ ap (λ (z : Stream). (stage_at z m.stage).cost) e

  depth_is : y.depth ≡ stages_in x m
  depth_is = ap (λ (z : Stream). z.depth) e

  span_is : y.deadline ≡ span_of x m
  span_is = ap (λ (z : Stream). z.deadline) e

  pub message_yes : m.stream < x.count → m.stage < y.depth → m.used < g.cost → at ≤ clock → before ≤ at → message_ok x clock before m ≡ true
  message_yes a b c d h =
      standing_ok x clock before m (record {
        stream = a;
        stage = omega (arith, b, depth_is);
        used = omega (arith, c, cost_is);
        early = omega (arith, q, span_is);
        late = omega (arith, d, q, r, span_is);
        order = omega (arith, h, posted_is);
      })

  pub message_no : (m.stream < x.count → m.stage < y.depth → m.used < g.cost → at ≤ clock → before ≤ at → ⊥) → message_ok x clock before m ≡ false
  message_no n =
      by_test (message_ok x clock before m)
      (λ t.
      let h = standing x clock before m t in
      absurd (n h.stream (omega (arith, h.stage, depth_is)) (omega (arith, h.used, cost_is)) (omega (arith, h.late, r, span_is)) (omega (arith, h.order, posted_is))))
      (λ t. t)
