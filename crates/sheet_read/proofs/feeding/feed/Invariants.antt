use Prim.Native.Nat.{◌+◌, ◌-◌, ◌*◌, ◌≤◌, ◌<◌}
use mathlib.Core.Path.{◌≡◌}
use lib.ListN.{length}
use Rattle.laws.specs.Bits.{bits}
use Rattle.sheet_carried.specs.Reader.{rule_of, run}
use Rattle.sheet_carried.specs.Kept.{Kept}
use Rattle.sheet_read.proofs.Turns.{carried, rest}
use Rattle.sheet_read.proofs.feeding.feed.Given as goal

abbrev pub invariant-loop-at : goal.invariant-loop-at
invariant-loop-at l = (l.at.bit < 8) × (8 * l.at.byte + l.at.bit ≤ 8 * length l.piece) × Kept (carried l.point l.values l.stages l.places l.set)
    × (run (carried l.point l.values l.stages l.places l.set) (rest l.piece (8 * l.at.byte + l.at.bit)) ≡ run (carried l.initial.point l.initial.values l.initial.stages l.initial.places l.initial.set) (bits l.piece))
    × (l.rule ≡ rule_of l.point l.values)

abbrev pub decreases-loop-at : goal.decreases-loop-at
decreases-loop-at l = 8 * length l.piece - (8 * l.at.byte + l.at.bit)
