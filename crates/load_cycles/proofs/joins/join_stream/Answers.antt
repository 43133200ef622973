use native.Mathlib.Omega.{arith}
use Rattle.rules.specs.Streams.{no_tuple}
use Rattle.rules.specs.Load.{PlaceIn}
use Rattle.rules.proofs.Cycles.{place_up}
use Rattle.load_cycles.proofs.Cycling.{so_far, so_far_more}
use Rattle.load_cycles.proofs.joins.join_stream.Goals as goal

pub loop-p-init : goal.loop-p-init
loop-p-init c = so_far PlaceIn _ _ c.requires.0

pub loop-p-preserved : goal.loop-p-preserved
loop-p-preserved c =
    so_far_more PlaceIn place_up c.args.h c.tuples_of-p-items.result.now c.loop-p.p-index c.loop-p.acc c.in_ok-acc.acc no_tuple (omega arith) c.loop-p.invariant c.in_ok-acc.ensures
