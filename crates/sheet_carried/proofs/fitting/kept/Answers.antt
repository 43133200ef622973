use Rattle.sheet_carried.proofs.Ways.{kept_whole}
use mathlib.Core.Path.{refl}
use Rattle.sheet_carried.proofs.fitting.kept.Goals as goal

-- src/fitting.rt:206:1
pub returns : goal.returns
returns c =
    kept_whole _ _ _ _ _ _ _ _ _ _ _ _ _ _ _ _ c.is_valid-valid.ensures c.version_fits-version.ensures refl c.count_fits-count.ensures c.whole_tuples-j.ensures c.most_whole-most.ensures c.whole_stages-k.ensures c.part-part.ensures c.last_offset.ensures c.values_fit-valued.ensures
