use native.Mathlib.Omega.{arith}
use mathlib.Core.Path.{refl}
use Prim.Native.Nat.{◌*◌, ◌/◌}
use Rattle.laws.proofs.Divide.{gcd_positive}
use Rattle.load_cycles.proofs.Cycling.{cycle_is, cycle_above}
use Rattle.load_cycles.proofs.joins.join_cycle.Goals as goal

pub nonzero_div-h : goal.nonzero_div-h
nonzero_div-h c = gcd_positive _ _ c.gcd.result c.requires.1.low c.gcd.ensures

pub returns-in-Some : goal.returns-in-Some
returns-in-Some c = cycle_is c.args.h c.args.z c.args.a c.gcd.result c.in-Some.r c.requires.0 c.requires.1 c.gcd.ensures c.in-Some.ensures.1 (omega arith)

pub returns-in_default : goal.returns-in_default
returns-in_default c = cycle_above c.args.h c.args.z c.args.a c.gcd.result c.in-Some.r c.requires.0 c.requires.1 c.gcd.ensures c.in-Some.ensures.1 (omega arith)

pub returns-in_default-2 : goal.returns-in_default-2
returns-in_default-2 c =
    cycle_above c.args.h c.args.z c.args.a c.gcd.result (c.args.h / c.gcd.result * c.args.z) c.requires.0 c.requires.1 c.gcd.ensures refl (omega (arith, c.in_default.ensures))
