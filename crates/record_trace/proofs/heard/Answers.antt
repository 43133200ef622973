use Rattle.record_trace.proofs.Takings.{past_is}
use Rattle.record_trace.proofs.heard.Goals as goal

pub returns-in-Makes : goal.returns-in-Makes
returns-in-Makes c =
    rw c.in-Makes.is (past_is c.args.t c.in-Makes.c _ _ c.requires.0 c.requires.1 c.width.ensures c.after.ensures.byte c.after.ensures.bit)
