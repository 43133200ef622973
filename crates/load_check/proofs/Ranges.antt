-- Lengths that are tested in order.
-- Assumes nothing.
use Prim.Native.Nat.{ℕ, ◌≤◌, ◌<◌}
use native.Mathlib.Omega.{arith}
use mathlib.Core.Path.{◌≡◌, ◌∙◌}
use mathlib.Core.List.{List}
use Rattle.std.specs.Prelude.{Option, Some, None}
use Rattle.rules.specs.declared.Stream.{Stream}
use Rattle.rules.specs.Load.{demand, NoneLate, FirstLate}
use Rattle.load_check.specs.declared.Row.{Row}
use Rattle.load_check.specs.declared.Rows.{Rows}
use Rattle.load_check.specs.Dues.{used, RowsOf}
use Rattle.load_check.specs.Blocked.{blockings_of, NextDeadline}
use Rattle.load_check.specs.Lengths.{TestedBy, rows_with, Spanned, Ranged}
use Rattle.load_check.proofs.Steady.{same_demand}

-- the length i is late, with nothing late before it
pub late_at : (f : ℕ → ℕ) (a e i w : ℕ) → w ≡ f i → a ≤ i → i < e → i < w → NoneLate f a i → FirstLate f a e i w
late_at f a e i w q lo hi late n = record { from = lo; before = hi; that = q; above = omega arith; first = n }

-- two demands that agree from a up to e are tested alike
tested_same : (f g : ℕ → ℕ) (a e : ℕ) → ((j : ℕ) → a ≤ j → j < e → f j ≡ g j) → (r : Option (ℕ × ℕ)) → TestedBy f a e r → TestedBy g a e r
tested_same f g a e s None n = λ j p q. omega (arith, n j p q, s j p q)
tested_same f g a e s (Some (i, w)) l =
    record {
      from = l.from;
      before = l.before;
      that = l.that ∙ s i l.from l.before;
      above = omega (arith, l.above, s i l.from l.before);
      first = λ j p q. omega (arith, l.first j p q, s j p (omega (arith, l.before)));
    }

-- a span from one deadline to the next, where r was found
pub span_range : {ss : List Stream} {t : Rows} {rs : List Row} {b i e stop : ℕ} (r : Option (ℕ × ℕ)) → RowsOf ss t → rs ≡ used t → NextDeadline ss i e stop → b ≡ blockings_of ss i
    → Spanned rs b i stop r → e ≤ 4294967295 → Ranged ss i stop r
span_range {ss} {t} {rs} {b} {i} {e} {stop} r rows er n eb s h =
    tested_same (rows_with rs b) (demand ss) i stop (λ j p q. same_demand i j stop p q ss t rs b n.apart rows er eb (omega (arith, n.near))) r s
