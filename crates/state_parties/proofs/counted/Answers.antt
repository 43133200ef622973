use Rattle.std.proofs.Common.{rules}
use Rattle.state_parties.proofs.Sides.{held_by_theirs}
use Rattle.state_parties.proofs.counted.Goals as goal

pub returns : goal.returns
returns c = held_by_theirs _ _ _ (search rules)
