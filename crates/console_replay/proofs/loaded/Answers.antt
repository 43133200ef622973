use Rattle.console_replay.proofs.Loads.{loaded_is}
use Rattle.console_replay.proofs.loaded.Goals as goal

pub returns : goal.returns
returns c =
    loaded_is c.args.text.now _ c.copy_from_slice.ensures.after
