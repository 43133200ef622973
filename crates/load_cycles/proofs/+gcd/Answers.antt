-- By Euclid's step.
use native.Mathlib.Nat.{mod-lt, pos_of_ne-zero}
use mathlib.Core.Path.{subst, sym}
use Prim.Native.Nat.{ℕ, ◌%◌, ◌<◌}
use Rattle.laws.specs.Multiples.{IsGcd}
use Rattle.laws.proofs.Divide.{gcd_base, gcd_step}
use Rattle.load_cycles.proofs.+gcd.Goals as goal

pub gcd-requires : goal.gcd-requires
gcd-requires t c = (subst (λ (n : ℕ). c.args.a % c.args.b < n) c.decreases (mod-lt c.args.a (pos_of_ne-zero c.if-b-eq0.false)), tt)

pub returns-then-b-eq0 : goal.returns-then-b-eq0
returns-then-b-eq0 t c = subst (λ (n : ℕ). IsGcd c.args.a n c.args.a) (sym c.if-b-eq0.true) (gcd_base c.args.a)

pub returns-else-b-eq0 : goal.returns-else-b-eq0
returns-else-b-eq0 t c = gcd_step _ _ _ c.gcd.ensures
