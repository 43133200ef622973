use mathlib.Core.Path.{◌≡◌}
use lib.ListN.{drop}
use Rattle.cable_frames.specs.Frames.{taken_of}
use Rattle.cable_frames.proofs.take.Given as goal

abbrev pub invariant-loop-b : goal.invariant-loop-b
invariant-loop-b l = taken_of l.next (drop l.b-index l.bytes) ≡ taken_of l.fn.f l.bytes
