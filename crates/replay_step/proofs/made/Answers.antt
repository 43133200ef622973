use mathlib.Core.Path.{◌∙◌}
use Rattle.replay_step.proofs.Marks.{behind_is}
use Rattle.replay_step.proofs.made.Goals as goal

pub returns : goal.returns
returns c =
    c.standing.ensures ∙ behind_is _ _ c.args.at _ _ _ c.requires.0 c.requires.1 c.call-q.ensures c.width.ensures c.after-behind.ensures.byte c.after-behind.ensures.bit
