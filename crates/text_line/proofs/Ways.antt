-- The tuples of a line, and its stages, one turn of a loop after the other.
-- Assumes nothing.
use Rattle.std.proofs.Common.{ℕ, zero, suc, ◌<◌, ◌≤◌, ◌≡◌, List, length}
use Rattle.std.specs.Prelude.{Some, None, Ok, Err}
use Rattle.rules.specs.declared.Tuple.{Tuple}
use Rattle.rules.specs.declared.Stage.{Stage}
use Rattle.rules.specs.declared.Stream.{Stream}
use Rattle.rules.specs.Streams.{offset}
use Rattle.text_line.specs.declared.Fault.{Fault}
use Rattle.text_line.specs.declared.Fault.TheVariants.{FiveTuples}
use Rattle.text_line.specs.Lines.{leads, tuple_at, tuples_at, added, finished, pair_at, staged, by_stage, stages_at, stages_end}
use borrow.Author.Tests.{lt-leb, le-leb}

-- ---- the tuples

-- the line ends here
pub tuples_over : (n : ℕ) (s : Stream) (low high : ℕ) (l : List ℕ) (at : ℕ) → length l ≤ at → tuples_at n s low high l at ≡ finished s
unfolding tuples_at
tuples_over zero s low high l at h = rw (le-leb (length l) at h)
tuples_over (suc n) s low high l at h = rw (le-leb (length l) at h)

-- four tuples are through, and the line does not end
pub tuples_five : (n : ℕ) → n ≡ 0 → (s : Stream) (low high : ℕ) (l : List ℕ) (at : ℕ) → at < length l → tuples_at n s low high l at ≡ Err FiveTuples
unfolding tuples_at
tuples_five n z s low high l at h = rw (z, lt-leb (length l) at h)

-- one tuple more; a fault of it is the line's
module _ (m n : ℕ) (z : m ≡ suc n) (s : Stream) (low high : ℕ) (l : List ℕ) (at : ℕ) (h : at < length l) where
  pub tuple_more : (t : Tuple) (end : ℕ) → tuple_at low high l at ≡ Ok (t, end) → tuples_at m s low high l at ≡ tuples_at n (added s t) (offset t) 100000 l end
  unfolding tuples_at leads
  tuple_more t end e = rw (z, lt-leb (length l) at h, e)

  pub tuple_faulty : (why : Fault) → tuple_at low high l at ≡ Err why → tuples_at m s low high l at ≡ Err why
  unfolding tuples_at leads
  tuple_faulty why e = rw (z, lt-leb (length l) at h, e)

-- ---- the stages

-- one stage more, none, or a fault of one
module _ (version m n : ℕ) (z : m ≡ suc n) (s : Stream) (l : List ℕ) (at : ℕ) where
  pub stage_more : (g : Stage) (end : ℕ) → pair_at l at ≡ Ok (Some (g, end)) → stages_at version m s l at ≡ stages_at version n (staged s g) l end
  unfolding stages_at by_stage
  stage_more g end e = rw (z, e)

  pub stage_none : pair_at l at ≡ Ok None → stages_at version m s l at ≡ stages_end s l at
  unfolding stages_at by_stage
  stage_none e = rw (z, e)

  pub stage_faulty : (why : Fault) → pair_at l at ≡ Err why → stages_at version m s l at ≡ Err why
  unfolding stages_at by_stage
  stage_faulty why e = rw (z, e)
