-- The streams of a valid set, by their numbers. Assumes nothing.
use Prim.Native.Nat.{ℕ, ◌<◌}
use mathlib.Core.Bool.{true}
use mathlib.Core.List.{Memᴰ}
use mathlib.Core.Path.{◌≡◌, subst}
use native.Mathlib.Omega.{arith}
use lib.ListN.{length, get_or}
use lib.Seq.{get_or-take, length-take-le}
use Rattle.laws.proofs.Gates.{mem_get_d}
use Rattle.laws.proofs.Sums.{all_at, all_take_at}
use Rattle.rules.specs.declared.Set.{Set}
use Rattle.rules.specs.declared.Stream.{Stream}
use Rattle.rules.specs.Streams.{Placed, FourPlaces, no_stream, streams_of, stream_at, stage_at, valid}
use Rattle.rules.specs.Valid.{ValidStage, ValidStream}
use Rattle.rules.proofs.Valid.{valid_set}
use Rattle.rules.proofs.Stages.{stage_valid}

module _ (S : Set) (placed : Placed S) (ok : valid S ≡ true) where
  pub streams_length : length (streams_of S) ≡ S.count
  streams_length = length-take-le S.count S.streams (omega (arith, (valid_set S ok).count, placed.sixteen))

  pub stream_is : (k : ℕ) → k < S.count → get_or (streams_of S) k no_stream ≡ stream_at S k
  stream_is k h = get_or-take S.count S.streams k no_stream h

  pub stream_member : (k : ℕ) → k < S.count → Memᴰ (stream_at S k) (streams_of S)
  stream_member k h = subst (λ (s : Stream). Memᴰ s (streams_of S)) (stream_is k h) (mem_get_d (streams_of S) k no_stream (omega (arith, streams_length)))

  pub stream_valid : (k : ℕ) → k < S.count → ValidStream (stream_at S k)
  stream_valid k h = all_take_at ValidStream S.streams S.count k no_stream h (omega (arith, (valid_set S ok).count, placed.sixteen)) (valid_set S ok).streams

  pub four_stages : (k : ℕ) → k < S.count → length (stream_at S k).stages ≡ 4
  four_stages k h = (all_at FourPlaces S.streams k no_stream (omega (arith, (valid_set S ok).count, placed.sixteen)) placed.four).stages

  -- the stage j of a stream that has it
  pub stage_fine : (k : ℕ) → k < S.count → (j : ℕ) → j < (stream_at S k).depth → ValidStage (stage_at (stream_at S k) j)
  stage_fine k h j q = stage_valid (stream_at S k) (four_stages k h) (stream_valid k h) j q

  -- it has a cost
  pub stage_cost_lem : (k : ℕ) → k < S.count → (j : ℕ) → j < (stream_at S k).depth → 0 < (stage_at (stream_at S k) j).cost
  stage_cost_lem k h j q = (stage_fine k h j q).cost.low
