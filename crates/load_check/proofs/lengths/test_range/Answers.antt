use native.Mathlib.Omega.{arith}
use Rattle.std.specs.Prelude.{Some, None}
use Rattle.rules.proofs.Resumed.{none_join, late_join}
use Rattle.load_check.proofs.Bounds.{blockings_fit}
use Rattle.load_check.proofs.Ranges.{span_range}
use Rattle.load_check.proofs.lengths.test_range.Goals as goal

pub test_span-requires : goal.test_span-requires
test_span-requires c = (rw c.used-rows.ensures c.rows_of-t.ensures.fit, blockings_fit _ _ _ c.blockings.ensures c.requires.streams)

pub returns-in-Some : goal.returns-in-Some
returns-in-Some c =
    late_join _ _ c.loop-i.invariant.1
    (span_range (Some c.in-Some.late) c.rows_of-t.ensures c.used-rows.ensures c.next_deadline-stop.ensures c.blockings.ensures c.in-Some.ensures (omega arith))
    (omega arith) c.next_deadline-stop.ensures.near

pub loop-i-preserved : goal.loop-i-preserved
loop-i-preserved c = (
  omega (arith, c.next_deadline-stop.ensures.after),
  none_join _ _ _ _ c.loop-i.invariant.1
      (span_range None c.rows_of-t.ensures c.used-rows.ensures c.next_deadline-stop.ensures c.blockings.ensures c.in_default.ensures (omega arith)),
)
