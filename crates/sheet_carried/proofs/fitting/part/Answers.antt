use Rattle.sheet_carried.proofs.Ways.{part_whole}
use Rattle.sheet_carried.proofs.fitting.part.Goals as goal

-- src/fitting.rt:141:1
pub returns : goal.returns
returns c =
    part_whole _ _ _ _ _ _ _ c.stages_fit-staged.ensures c.offset_at-first.ensures c.tuples_fit-tupled.ensures
