use native.Mathlib.Omega.{arith}
use mathlib.Core.Path.{refl}
use Rattle.console_replay.proofs.Loads.{take_there}
use Rattle.console_replay.proofs.held.Goals as goal

pub returns : goal.returns
returns c =
    take_there c.args.t.now.len _ _ c.args.t.now.bytes (omega arith) refl
