use Rattle.sheet_read.proofs.closing.close.Goals as goal

-- src/closing.rt:44:18
pub cleared-requires : goal.cleared-requires
cleared-requires c =
    let k = c.requires in (k.at.few, k.at.streams)
