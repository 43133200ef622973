use lib.ListN.{length-take}
use native.Mathlib.Omega.{arith}
use Rattle.console_obey.proofs.Texts.{bytes_in, bytes_all}
use Rattle.console_obey.proofs.text_step.Goals as goal

pub slice_bounds-bytes-end : goal.slice_bounds-bytes-end
slice_bounds-bytes-end c =
    bytes_in _ _ _ _ c.unhex-size.ensures

pub slice_bounds-command_step-end : goal.slice_bounds-command_step-end
slice_bounds-command_step-end c =
    simp length-take (omega (arith, bytes_in _ _ _ _ c.unhex-size.ensures))

pub command_step-requires : goal.command_step-requires
command_step-requires c =
    (bytes_all _ _ _ _ c.unhex-size.ensures c.requires.0, c.requires.1)
