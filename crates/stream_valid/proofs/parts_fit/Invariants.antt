use mathlib.Core.Bool.{◌&&◌}
use mathlib.Core.Path.{◌≡◌}
use Prim.Native.Nat.{ℕ}
use lib.ListN.{take, drop}
use Rattle.std.specs.List.{list_all}
use Rattle.laws.proofs.Fits.{fits_from}
use Rattle.stream_valid.proofs.parts_fit.Given as goal

-- the tests of a part do not look back
abbrev pub invariant-loop-k : goal.invariant-loop-k
invariant-loop-k g l =
    (l.ok && fits_from (λ (b : ℕ). g.T.Part.ok) (λ x. 0) g.T.Part.unused l.k l.n 0 l.parts)
    ≡ (list_all g.T.Part.ok (take l.n l.parts) && list_all g.T.Part.unused (drop l.n l.parts))
