use native.Mathlib.Omega.{arith}
use mathlib.Core.Path.{refl, sym, subst}
use Prim.Native.Nat.{ℕ, ◌≤◌, ◌<◌}
use mathlib.Core.List.{List}
use mathlib.Core.Path.{◌≡◌}
use lib.ListN.{length, get_or}
use Rattle.laws.specs.Lists.{All}
use Rattle.laws.proofs.Sums.{sum_none, sum_take, all_at}
use Rattle.std.proofs.lemmas.List.{take_all}
use Rattle.rules.specs.Load.{stream_load, load}
use Rattle.rules.specs.declared.Stream.{Stream}
use Rattle.rules.specs.Valid.{ValidStream}
use Rattle.load_cycles.proofs.Bounds.{blank, stream_load_fits}
use Rattle.load_cycles.proofs.joins.load_of.Goals as goal

one_fits : (ss of : List Stream) (k h : ℕ) → ss ≡ of → All ValidStream of → k < length ss → h ≤ 1000000 → stream_load h (get_or ss k blank) ≤ 1048560000000
one_fits ss of k h e v l y = stream_load_fits (get_or ss k blank) h (all_at ValidStream ss k blank l (subst (All ValidStream) (sym e) v)) y

pub loop-s-init : goal.loop-s-init
loop-s-init c = record { is = sym (sum_none _); fits = omega arith }

pub overflow_add-acc : goal.overflow_add-acc
overflow_add-acc c =
    let ss = c.streams_of-s-items in
    omega (arith, c.stream_load-acc.ensures, ss.ensures.bound, one_fits ss.result.now _ c.loop-s.s-index c.args.h ss.ensures.value c.requires.0.streams (omega arith) c.requires.1)

pub loop-s-preserved : goal.loop-s-preserved
loop-s-preserved c =
    let ss = c.streams_of-s-items in
    let k = c.loop-s.s-index in
    record {
      is = omega (arith, c.stream_load-acc.ensures, c.loop-s.invariant.is, sum_take (stream_load c.args.h) ss.result.now k blank (omega arith));
      fits = omega (arith, c.stream_load-acc.ensures, one_fits ss.result.now _ k c.args.h ss.ensures.value c.requires.0.streams (omega arith) c.requires.1);
    }

pub returns : goal.returns
unfolding load
returns c =
    rw (c.loop-s.invariant.is, take_all c.loop-s.s-index c.streams_of-s-items.result.now (omega arith), c.streams_of-s-items.ensures.value) refl
