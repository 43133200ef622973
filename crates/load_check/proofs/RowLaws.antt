-- Rows that are put one behind the other say what is due of the tuples, and of the streams, that they were made from.
-- Assumes nothing.
use Prim.Native.Nat.{ℕ, ◌+◌, ◌-◌, ◌*◌, ◌/◌, ◌≤◌, ◌<◌}
use native.Mathlib.Nat.{mul-zero, add-zero, div-eq_of_lt}
use native.Mathlib.Decide.{dec_le}
use native.Mathlib.Omega.{arith}
use mathlib.Core.Path.{◌≡◌, ap, sym, ◌∙◌}
use mathlib.Core.List.{List, [], ◌∷◌, ◌++◌}
use mathlib.Core.Bool.{cond}
use lib.Dec.{leb}
use lib.ListN.{length, get_or, take, length-take, length-append}
use borrow.Author.Tests.{le-leb, lt-leb}
use Rattle.std.proofs.lemmas.List.{take_all}
use Rattle.laws.specs.Lists.{sum}
use Rattle.laws.proofs.Sums.{sum_eq, sum_take, sum_none, sum_append, sum_mul, sum_zero, all_each}
use Rattle.laws.proofs.Fields.{all_append}
use Rattle.rules.specs.declared.Tuple.TheVariants.{Once, Every}
use Rattle.rules.specs.declared.TuplePlace.{TuplePlace}
use Rattle.rules.specs.declared.Stream.{Stream}
use Rattle.rules.specs.Streams.{tuples_of, events, limit}
use Rattle.rules.specs.Load.{cost_in, due}
use Rattle.load_check.specs.declared.Row.{Row}
use Rattle.load_check.specs.declared.Rows.{Rows}
use Rattle.load_check.specs.Dues.{row_due, dues, used, tuple_due, stream_due, RowFits, RowsFit, RowFor, Grows, RowsOf}

-- ---- a tuple as a row

-- first due at deadline plus offset, and again each cycle
pub every_row : (c d z a i : ℕ) → row_due i (record { cost = c; first = d + a; cycle = z }) ≡ tuple_due c d (Every z a) i
unfolding row_due tuple_due
every_row c d z a i =
    elim (dec_le d i) [ yes y ↦ elim (dec_le a (i - d)) [ yes x ↦ on y x | no f ↦ early y f ] | no f ↦ before f ]
  where
    on : d ≤ i → a ≤ i - d → cond (leb (d + a) i) (c * ((i - (d + a)) / z + 1)) 0 ≡ cond (leb d i) (c * cond (leb a (i - d)) ((i - d - a) / z + 1) 0) 0
    on y x =
        let e : i - (d + a) ≡ i - d - a = omega arith in
        simp (le-leb (d + a) i (omega arith), le-leb d i y, le-leb a (i - d) x) (ap (λ (n : ℕ). c * (n / z + 1)) e)

    early : d ≤ i → ¬ (a ≤ i - d) → cond (leb (d + a) i) (c * ((i - (d + a)) / z + 1)) 0 ≡ cond (leb d i) (c * cond (leb a (i - d)) ((i - d - a) / z + 1) 0) 0
    early y f = simp (lt-leb (d + a) i (omega arith), le-leb d i y, lt-leb a (i - d) (omega arith)) (sym (mul-zero c))

    before : ¬ (d ≤ i) → cond (leb (d + a) i) (c * ((i - (d + a)) / z + 1)) 0 ≡ cond (leb d i) (c * cond (leb a (i - d)) ((i - d - a) / z + 1) 0) 0
    before f = simp (lt-leb (d + a) i (omega arith), lt-leb d i (omega arith))

-- once is a cycle that no length of 32 bits completes
pub once_row : (c d a i : ℕ) → 1 ≤ d → i ≤ 4294967295 → row_due i (record { cost = c; first = d + a; cycle = 4294967295 }) ≡ tuple_due c d (Once a) i
unfolding row_due tuple_due
once_row c d a i h k =
    elim (dec_le d i) [ yes y ↦ elim (dec_le a (i - d)) [ yes x ↦ on y x | no f ↦ early y f ] | no f ↦ before f ]
  where
    on : d ≤ i → a ≤ i - d → cond (leb (d + a) i) (c * ((i - (d + a)) / 4294967295 + 1)) 0 ≡ cond (leb d i) (c * cond (leb a (i - d)) 1 0) 0
    on y x =
        let e : (i - (d + a)) / 4294967295 ≡ 0 = div-eq_of_lt (omega arith) in
        simp (le-leb (d + a) i (omega arith), le-leb d i y, le-leb a (i - d) x) (ap (λ (n : ℕ). c * (n + 1)) e)

    early : d ≤ i → ¬ (a ≤ i - d) → cond (leb (d + a) i) (c * ((i - (d + a)) / 4294967295 + 1)) 0 ≡ cond (leb d i) (c * cond (leb a (i - d)) 1 0) 0
    early y f = simp (lt-leb (d + a) i (omega arith), le-leb d i y, lt-leb a (i - d) (omega arith)) (sym (mul-zero c))

    before : ¬ (d ≤ i) → cond (leb (d + a) i) (c * ((i - (d + a)) / 4294967295 + 1)) 0 ≡ cond (leb d i) (c * cond (leb a (i - d)) 1 0) 0
    before f = simp (lt-leb (d + a) i (omega arith), lt-leb d i (omega arith))

pub every_for : (c d z a : ℕ) → c ≤ 262140 → 0 < z → RowFor c d (Every z a) (record { cost = c; first = d + a; cycle = z })
every_for c d z a h k = record { fits = record { cost = h; cycle = k }; says = λ i l. every_row c d z a i }

pub once_for : (c d a : ℕ) → c ≤ 262140 → 1 ≤ d → RowFor c d (Once a) (record { cost = c; first = d + a; cycle = 4294967295 })
once_for c d a h k = record { fits = record { cost = h; cycle = omega arith }; says = λ i l. once_row c d a i k l }

-- ---- one row more

-- the row u behind the rows of r
dues_more : (rs us : List Row) (u : Row) (i : ℕ) → us ≡ rs ++ (u ∷ []) → dues us i ≡ dues rs i + row_due i u
unfolding dues sum
dues_more rs us u i e = rw e (sum_append (row_due i) rs (u ∷ []) ∙ ap (λ (n : ℕ). sum (row_due i) rs + n) (add-zero (row_due i u)))

-- ---- the tuples of a stream

abbrev place_due : ℕ → ℕ → ℕ → TuplePlace → ℕ
place_due c d i p = tuple_due c d p.tuple i

-- what a front part of a stream's tuples adds
unfoldable pub front_due : ℕ → ℕ → List TuplePlace → ℕ → ℕ
front_due c d ps i = sum (place_due c d i) ps

pub front_start : (t : Rows) (c d : ℕ) → RowsFit (used t) → Grows t 0 (front_due c d []) t
unfolding front_due
front_start t c d s = record { few = omega arith; fit = s; adds = λ i h. omega (arith, sum_none (place_due c d i)) }

pub front_more : (t r u : Rows) (c d : ℕ) (ps : List TuplePlace) (j : ℕ) (e : TuplePlace) (row : Row) → j < length ps → r.count < 64
    → Grows t j (front_due c d (take j ps)) r → RowFor c d (get_or ps j e).tuple row → used u ≡ used r ++ (row ∷ []) → u.count ≡ r.count + 1
    → Grows t (j + 1) (front_due c d (take (j + 1) ps)) u
unfolding front_due
front_more t r u c d ps j e row h room a f q n =
    record {
      few = omega (arith, a.few);
      fit = record { room = omega (arith, ap length q, length-append (used r) (row ∷ []), length-take r.count r.rows); each = rw q (all_append RowFits (used r) (row ∷ []) a.fit.each (f.fits, tt)) };
      adds = λ i k. omega (arith, a.adds i k, dues_more (used r) (used u) row i q, f.says i k, sum_take (place_due c d i) ps j e h);
    }

place_on : (c d i : ℕ) (p : TuplePlace) → d ≤ i → c * events (i - d) p ≡ place_due c d i p
unfolding events tuple_due
place_on c d i p y = simp (le-leb d i y)

place_before : (c d i : ℕ) (p : TuplePlace) → i < d → place_due c d i p ≡ 0
unfolding tuple_due
place_before c d i p y = simp (lt-leb d i y)

due_sum : (s : Stream) (i : ℕ) → front_due (cost_in s) s.deadline (tuples_of s) i ≡ due i s
unfolding front_due limit due
due_sum s i = elim (dec_le s.deadline i) [ yes y ↦ on y | no f ↦ before (omega arith) ]
  where
    on : s.deadline ≤ i → sum (place_due (cost_in s) s.deadline i) (tuples_of s) ≡ cond (leb s.deadline i) (cost_in s * sum (events (i - s.deadline)) (tuples_of s)) 0
    on y =
        simp (le-leb s.deadline i y)
        (sym (sum_mul (cost_in s) (events (i - s.deadline)) (tuples_of s)
        ∙ sum_eq (λ p. cost_in s * events (i - s.deadline) p) (place_due (cost_in s) s.deadline i) (tuples_of s)
        (all_each _ (tuples_of s) (λ p. place_on (cost_in s) s.deadline i p y))))

    before : i < s.deadline → sum (place_due (cost_in s) s.deadline i) (tuples_of s) ≡ cond (leb s.deadline i) (cost_in s * sum (events (i - s.deadline)) (tuples_of s)) 0
    before y =
        simp (lt-leb s.deadline i y)
        (sum_zero (place_due (cost_in s) s.deadline i) (tuples_of s) (all_each _ (tuples_of s) (λ p. place_before (cost_in s) s.deadline i p y)))

pub front_end : (t r : Rows) (s : Stream) (c j : ℕ) (ps : List TuplePlace) → c ≡ cost_in s → ps ≡ tuples_of s → length ps ≤ j → j ≤ 4
    → Grows t j (front_due c s.deadline (take j ps)) r → Grows t 4 (stream_due s) r
front_end t r s c j ps q e h l a =
    record {
      few = omega (arith, a.few);
      fit = a.fit;
      adds = λ i k.
          omega (
            arith,
            a.adds i k,
            due_sum s i,
            ap (λ (l : List TuplePlace). front_due c s.deadline l i) (take_all j ps h ∙ e),
            ap (λ (n : ℕ). front_due n s.deadline (tuples_of s) i) q,
          );
    }

-- ---- the streams of a set

pub rows_start : (r : Rows) → r.count ≡ 0 → RowsOf [] r
unfolding dues sum
rows_start r e =
    let none : used r ≡ [] = ap (λ (n : ℕ). take n r.rows) e in
    record {
      few = omega arith;
      fit = rw none (record { room = omega arith; each = tt });
      say = λ i h. ap (λ (l : List Row). dues l i) none;
    }

pub rows_more : (r u : Rows) (ss : List Stream) (k : ℕ) (d : Stream) → k < length ss → r.count ≤ 60 → RowsOf (take k ss) r → Grows r 4 (stream_due (get_or ss k d)) u → RowsOf (take (k + 1) ss) u
rows_more r u ss k d h room a b =
    record { few = omega (arith, b.few); fit = b.fit; say = λ i l. omega (arith, a.say i l, b.adds i l, sum_take (due i) ss k d h) }
