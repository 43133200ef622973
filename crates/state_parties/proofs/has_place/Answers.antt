use Rattle.state_parties.specs.Shares.{place_left}
use Rattle.state_parties.proofs.has_place.Goals as goal

pub returns-in-Ours : goal.returns-in-Ours
unfolding place_left
returns-in-Ours c =
    rw c.in-Ours.is

pub returns-in-Theirs : goal.returns-in-Theirs
unfolding place_left
returns-in-Theirs c =
    rw c.in-Theirs.is
