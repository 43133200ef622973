use Prim.Native.Nat.{ℕ}
use mathlib.Core.List.{List}
use mathlib.Core.Path.{ap, ◌∙◌}
use Rattle.rules.specs.Recordings.{replay_step}
use Rattle.console_replay.proofs.Replays.{next_is}
use Rattle.console_replay.proofs.next.Goals as goal

pub returns : goal.returns
returns c =
    next_is c.args.t c.args.s _ _ (c.step-r.ensures ∙ ap (λ (w : List ℕ). replay_step c.args.s w c.args.t.place) c.held.ensures) c.replay_line.ensures
