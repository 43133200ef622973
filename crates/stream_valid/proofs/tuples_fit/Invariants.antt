use mathlib.Core.Bool.{◌&&◌}
use mathlib.Core.Path.{◌≡◌}
use lib.ListN.{drop}
use Rattle.std.specs.List.{list_all}
use Rattle.laws.proofs.Fits.{fits_from}
use Rattle.rules.specs.Streams.{tuple_ok, offset_at, tuple_unused, tuples_ok, tuples_of}
use Rattle.stream_valid.proofs.tuples_fit.Given as goal

abbrev pub invariant-loop-k : goal.invariant-loop-k
invariant-loop-k l =
    (l.ok && fits_from tuple_ok offset_at tuple_unused l.k l.fn.s.count l.before l.fn.s.tuples)
    ≡ (tuples_ok (tuples_of l.fn.s) && list_all tuple_unused (drop l.fn.s.count l.fn.s.tuples))
