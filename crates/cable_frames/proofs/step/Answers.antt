use Rattle.cable_frames.proofs.Taking.{length_comes, byte_comes}
use Rattle.cable_frames.proofs.step.Goals as goal

pub returns-then-f-eq0 : goal.returns-then-f-eq0
returns-then-f-eq0 c =
    length_comes _ _ _ c.if-f-eq0.true

pub returns : goal.returns
returns c =
    byte_comes _ _ _ _ c.if-f-eq0.false c.feed.ensures
