use Prim.Native.Nat.{ℕ, ◌<◌}
use Rattle.std.specs.Prelude.{Option}
use Rattle.load_parts.specs.declared.Part.{Part}
use Rattle.check_lines.proofs.Shown.{Showing}
use Rattle.check_lines.proofs.sixteen_onto.Given as goal

abbrev pub invariant-loop-k : goal.invariant-loop-k
invariant-loop-k g l =
    (f : ℕ → Option Part) × ((j : ℕ) → j < l.k → goal.F-post g l.part j (f j)) × Showing f l.initial.out l.at l.out l.end l.k
