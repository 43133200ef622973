use native.Mathlib.Omega.{arith}
use mathlib.Core.Path.{subst, sym, refl}
use Rattle.laws.specs.Lists.{All}
use Rattle.laws.proofs.Sums.{all_at}
use Rattle.std.proofs.lemmas.List.{take_all}
use Rattle.rules.specs.Valid.{ValidStream}
use Rattle.load_cycles.proofs.Bounds.{blank}
use Rattle.load_check.proofs.RowLaws.{rows_start, rows_more}
use Rattle.load_check.proofs.dues.rows_of.Goals as goal

pub loop-s-init : goal.loop-s-init
loop-s-init c = record { few = omega arith; rows = rows_start _ refl }

pub put_stream-requires : goal.put_stream-requires
put_stream-requires c =
    let ss = c.streams_of-s-items in
    let v : All ValidStream ss.result.now = subst (All ValidStream) (sym ss.ensures.value) c.requires.streams in
    (omega (arith, c.loop-s.invariant.few, ss.ensures.bound), c.loop-s.invariant.rows.fit, all_at ValidStream ss.result.now c.loop-s.s-index blank (omega arith) v)

pub loop-s-preserved : goal.loop-s-preserved
loop-s-preserved c =
    let ss = c.streams_of-s-items in
    record {
      few = omega (arith, c.loop-s.invariant.few, c.put_stream.ensures.few);
      rows = rows_more c.loop-s.t c.put_stream.new.t ss.result.now c.loop-s.s-index blank (omega arith) (omega (arith, c.loop-s.invariant.few, ss.ensures.bound)) c.loop-s.invariant.rows c.put_stream.ensures;
    }

pub returns : goal.returns
returns c =
    let ss = c.streams_of-s-items in
    rw (← ss.ensures.value, ← take_all c.loop-s.s-index ss.result.now (omega arith)) c.loop-s.invariant.rows
