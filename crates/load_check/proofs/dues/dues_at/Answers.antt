use native.Mathlib.Omega.{arith}
use mathlib.Core.Path.{refl, sym}
use lib.ListN.{get_or}
use Rattle.laws.proofs.Sums.{sum_none, sum_take, all_at}
use Rattle.std.proofs.lemmas.List.{take_all}
use Rattle.load_check.specs.declared.Row.{Row}
use Rattle.load_check.specs.Dues.{row_due, dues, RowFits}
use Rattle.load_check.proofs.Bounds.{row_fits}
use Rattle.load_check.proofs.dues.dues_at.Goals as goal

abbrev none : Row
none = record { cost = 0; first = 0; cycle = 0 }

pub loop-row-init : goal.loop-row-init
loop-row-init c = record { is = sym (sum_none _); fits = omega arith }

pub row_due-acc-requires : goal.row_due-acc-requires
row_due-acc-requires c = (all_at RowFits c.args.rows.now c.loop-row.row-index none (omega arith) c.requires.each).cycle

pub overflow_add-acc : goal.overflow_add-acc
overflow_add-acc c =
    let k = c.loop-row.row-index in
    omega (arith, c.row_due-acc.ensures, c.requires.room, row_fits c.args.i (get_or c.args.rows.now k none) (all_at RowFits c.args.rows.now k none (omega arith) c.requires.each) (omega arith))

pub loop-row-preserved : goal.loop-row-preserved
loop-row-preserved c =
    let k = c.loop-row.row-index in
    record {
      is = omega (arith, c.row_due-acc.ensures, c.loop-row.invariant.is, sum_take (row_due c.args.i) c.args.rows.now k none (omega arith));
      fits = omega (arith, c.row_due-acc.ensures, row_fits c.args.i (get_or c.args.rows.now k none) (all_at RowFits c.args.rows.now k none (omega arith) c.requires.each) (omega arith));
    }

pub returns : goal.returns
unfolding dues
returns c = rw (c.loop-row.invariant.is, take_all c.loop-row.row-index c.args.rows.now (omega arith)) refl
