use Rattle.std.proofs.lemmas.Result.{err_from_is_err_and}
use Rattle.text_read.proofs.Whole.{read_faulty, read_whole}
use Rattle.text_read.proofs.read.Goals as goal

pub returns-in_err-feed : goal.returns-in_err-feed
returns-in_err-feed c =
    let p = err_from_is_err_and c.from_residual.result c.from_residual.ensures.1 in
    rw (p.1, p.2) (read_faulty _ _ _ c.start.ensures c.feed.ensures _ c.in_err-feed.was)

pub returns : goal.returns
returns c =
    read_whole _ _ _ c.start.ensures c.feed.ensures _ _ c.in_ok-feed.was c.close.ensures
