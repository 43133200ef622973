use Rattle.rules.proofs.Valid.{valid_set}
use Rattle.load_check.proofs.Settle.{verdict_clear, verdict_late}
use Rattle.load_check.proofs.verdict.Goals as goal

pub test_range-requires : goal.test_range-requires
test_range-requires c = valid_set c.args.x c.in-Ok.ensures.lengths.ok

pub returns-in-None : goal.returns-in-None
returns-in-None c = verdict_clear c.args.x c.in-Ok.end c.in-Ok.ensures c.in-None.ensures

pub returns-in-Some : goal.returns-in-Some
returns-in-Some c = verdict_late c.args.x c.in-Ok.end c.in-Some.i c.in-Some.w c.in-Ok.ensures c.in-Some.ensures
