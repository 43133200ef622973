-- From what a call finds to what it answers.
-- Assumes nothing.
use Prim.Native.Nat.{ℕ, ◌+◌, ◌-◌, ◌≤◌, ◌<◌, min}
use native.Mathlib.Omega.{arith}
use mathlib.Core.Path.{◌≡◌, refl, ap, subst, sym}
use Rattle.std.specs.Prelude.{Some, None, Ok, Err}
use Rattle.rules.specs.declared.Set.{Set}
use Rattle.rules.specs.declared.Refusal.{Refusal}
use Rattle.rules.specs.declared.Refusal.TheVariants.{IllFormed}
use Rattle.rules.specs.declared.Verdict.{Verdict}
use Rattle.rules.specs.declared.Verdict.TheVariants.{Accept, Late}
use Rattle.rules.specs.declared.Position.{Position}
use Rattle.rules.specs.declared.Progress.TheVariants.{Next, Falls}
use Rattle.rules.specs.Streams.{streams_of}
use Rattle.rules.specs.Load.{demand, last_length, VerdictOf, NoneLate, FirstLate}
use Rattle.rules.specs.Resumed.{Lengths, at, Resumes, StopsWith, stopped, before, behind, OpenOf, GoOf, Underway}
use Rattle.rules.proofs.Resumed.{underway_opened}
use Rattle.load_cycles.proofs.Bounds.{deadlines_fit, offsets_fit}
use Rattle.load_cycles.specs.Openings.{UpTo}
use Rattle.load_check.specs.Lengths.{FoundOf}

-- ---- a call that is refused

pub barred_stop : (p : Position) {v : Verdict} (n : ℕ) → StopsWith p.set v → GoOf p n (Err IllFormed)
barred_stop p n s = (refl, stopped s)

pub barred_before : (p : Position) (e n : ℕ) → UpTo p.set e → p.next < 1 → GoOf p n (Err IllFormed)
barred_before p e n u h = (refl, before u.lengths h)

pub barred_behind : (p : Position) (e n : ℕ) → UpTo p.set e → e ≤ p.next → GoOf p n (Err IllFormed)
barred_behind p e n u h = (refl, behind u.lengths (omega (arith, u.end)))

-- ---- a call that tests

module _ (x : Set) (from n end : ℕ) (u : UpTo x end) (low : 1 ≤ from) (high : from < end) where
  resumes : Resumes (at x from) u.last
  resumes = record { lengths = u.lengths; named = record { low = low; high = omega (arith, u.end) } }

  clear : (stop : ℕ) → FoundOf x from stop (Ok None) → NoneLate (demand (streams_of x)) from stop
  unfolding FoundOf
  clear stop r = rw u.lengths.ok at r

  pub goes_on_lem : (count : ℕ) → count ≡ min n (end - from) → FoundOf x from (from + count) (Ok None) → from + count < end
      → GoOf (at x from) n (Ok (Next count (at x (from + count))))
  goes_on_lem count q r more =
      (u.last, resumes, record { number = omega arith; next = refl; left = omega (arith, u.end); clear = clear (from + count) r })

  pub accepts : (count : ℕ) → count ≡ min n (end - from) → FoundOf x from (from + count) (Ok None) → end ≤ from + count
      → GoOf (at x from) n (Ok (Falls count Accept))
  accepts count q r done =
      let e : from + count ≡ u.last + 1 = omega (arith, u.end) in
      (u.last, resumes, record { number = omega arith; count = e; falls = subst (NoneLate (demand (streams_of x)) from) e (clear (from + count) r) })

  late : (stop i w : ℕ) → FoundOf x from stop (Ok (Some (i, w))) → FirstLate (demand (streams_of x)) from stop i w
  unfolding FoundOf
  late stop i w r = rw u.lengths.ok at r

  pub is_late : (count i w k : ℕ) → count ≡ min n (end - from) → FoundOf x from (from + count) (Ok (Some (i, w))) → from + k ≡ i + 1
      → GoOf (at x from) n (Ok (Falls k (Late i w)))
  is_late count i w k q r s =
      let l : FirstLate (demand (streams_of x)) from (from + count) i w = late (from + count) i w r in (
        u.last,
        resumes,
        record {
          number = omega (arith, l.before);
          count = s;
          falls = record { from = l.from; before = omega (arith, l.before, u.end); that = l.that; above = l.above; first = l.first };
        },
      )

  -- a late length is one of those tested
  pub late_in : (count i w : ℕ) → count ≡ min n (end - from) → FoundOf x from (from + count) (Ok (Some (i, w))) → (from ≤ i) × (i < end)
  late_in count i w q r =
      let l : FirstLate (demand (streams_of x)) from (from + count) i w = late (from + count) i w r in
      (l.from, omega (arith, l.before))

  -- its set is valid
  pub not_refused : (stop : ℕ) (why : Refusal) → FoundOf x from stop (Err why) → ⊥
  unfolding FoundOf
  not_refused stop why r = rw u.lengths.ok at r

-- ---- calls one after the other

-- no set has more lengths
last_fits : (x : Set) (e : ℕ) → Lengths x e → e ≤ 1300000
unfolding last_length
last_fits x e l =
    omega (arith, l.last, l.opens.short, deadlines_fit (streams_of x) l.opens.streams, offsets_fit (streams_of x) l.opens.streams)

-- the lengths that are left fall
pub on_less : (p q : Position) (n k : ℕ) → GoOf p n (Ok (Next k q)) → 0 < n → 1300000 - q.next < 1300000 - p.next
on_less p q n k y h = omega (arith, y.2.number, y.2.left, ap (λ (r : Position). r.next) y.2.next, last_fits p.set y.0 y.1.lengths)

-- the opening's position begins a check of its set, which is the one that was opened
pub same_set : (x : Set) (p : Position) → OpenOf x (Ok p) → p.set ≡ x
same_set x p o = ap (λ (q : Position). q.set) o.1

pub begins : (x : Set) (p : Position) → OpenOf x (Ok p) → Underway p.set p
begins x p o = subst (λ (s : Set). Underway s p) (sym (same_set x p o)) (underway_opened x p o)

pub of_set : (x : Set) (p : Position) (v : Verdict) → OpenOf x (Ok p) → VerdictOf p.set v → VerdictOf x v
of_set x p v o y = subst (λ (s : Set). VerdictOf s v) (same_set x p o) y
