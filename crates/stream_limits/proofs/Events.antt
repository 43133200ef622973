-- How large an event limit can be.
-- Assumes nothing.
use Prim.Native.Nat.{ℕ, ◌+◌, ◌-◌, ◌/◌, ◌≤◌}
use native.Mathlib.Omega.{arith}
use native.Mathlib.Nat.{div-le_self}
use lib.Dec.{leb}
use Rattle.laws.proofs.Sums.{cond_le}
use Rattle.rules.specs.declared.Tuple.{Tuple}
use Rattle.rules.specs.declared.Tuple.TheVariants.{Once, Every}
use Rattle.rules.specs.Streams.{events_of}

pub events_le : (t : Tuple) (i : ℕ) → events_of t i ≤ i + 1
events_le (Once a) i = cond_le (leb a i) 1 (i + 1) (omega arith)
events_le (Every z a) i = cond_le (leb a i) ((i - a) / z + 1) (i + 1) (omega (arith, div-le_self (i - a) z))
