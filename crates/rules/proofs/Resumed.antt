-- The check in calls: one answer for one input; however the work is divided, document 01's verdict; and calls that antt computes.
-- Assumes nothing.
use Prim.Native.Nat.{ℕ, zero, suc, ◌+◌, ◌≤◌, ◌<◌}
use native.Mathlib.Omega.{arith}
use native.Mathlib.Decide.{dec_lt}
use mathlib.Core.Path.{◌≡◌, refl, ap, ap₂, subst, sym, ◌∙◌}
use mathlib.Core.List.{List, [], ◌∷◌}
use mathlib.Core.Bool.{Bool, true, false, cond}
use lib.Dec.{leb, ltb}
use borrow.Author.Tests.{leb-true, leb-false, ltb-true, ltb-false}
use Rattle.laws.specs.Lists.{sum}
use Rattle.laws.proofs.Sums.{by_test}
use Rattle.rules.specs.declared.Stream.{Stream}
use Rattle.rules.specs.declared.Set.{Set}
use Rattle.rules.specs.declared.Refusal.{Refusal}
use Rattle.rules.specs.declared.Refusal.TheVariants.{OutOfRule, LongCycles, IllFormed}
use Rattle.rules.specs.declared.Verdict.{Verdict}
use Rattle.rules.specs.declared.Verdict.TheVariants.{Accept, Late, Overload, Refused}
use Rattle.rules.specs.declared.Position.{Position}
use Rattle.std.specs.Prelude.{Result, Ok, Err}
use Rattle.rules.specs.declared.Progress.{Progress}
use Rattle.rules.specs.declared.Progress.TheVariants.{Next, Falls}
use Rattle.rules.specs.Streams.{streams_of, valid}
use Rattle.rules.specs.Load.{demand, load, last_length, longest_h, Opens, JudgedByH, VerdictOf, NoneLate, FirstLate}
use Rattle.rules.specs.Resumed.{Lengths, at, Resumes, AtOpening, StopsWith, OpenOf, Barred, stopped, before, behind, GoesOn, past, FallsFrom, Ends, GoOf, PositionsKept, TwelveExactly, Underway, next, fallen, Calls, none, goes, falls, together, AnyDivision, NoVerdictYet, LongEnough, OneCall}
use Rattle.rules.proofs.Valid.{valid_set}
use Rattle.rules.proofs.Cycles.{h_of, h_of_lem}
use Rattle.rules.proofs.Judge.{Fits, fits_one, accepts, is_late, overloads}
use Rattle.rules.proofs.Verdicts.{h_unique, verdict_unique}

-- ---- ranges of lengths

module _ (f : ℕ → ℕ) (a : ℕ) where
  pub none_yet : NoneLate f a a
  none_yet j p q = absurd (omega arith)

  pub none_more : (i : ℕ) → NoneLate f a i → f i ≤ i → NoneLate f a (i + 1)
  none_more i n p j x y =
      elim (dec_lt j i) [ yes z ↦ n j x z | no g ↦ subst (λ (k : ℕ). f k ≤ k) (same g) p ]
    where
      same : ¬ (j < i) → i ≡ j
      same g = omega arith

  pub none_join : (i e : ℕ) → NoneLate f a i → NoneLate f i e → NoneLate f a e
  none_join i e n m j x y = elim (dec_lt j i) [ yes z ↦ n j x z | no g ↦ m j (omega arith) y ]

  pub late_join : {i e e' k w : ℕ} → NoneLate f a i → FirstLate f i e k w → a ≤ i → e ≤ e' → FirstLate f a e' k w
  late_join {i} {e} {e'} {k} {w} n l p q =
      record { from = omega (arith, l.from); before = omega (arith, l.before); that = l.that; above = l.above; first = none_join i k n l.first }

-- the first late length is one
pub same_first : (f : ℕ → ℕ) (a e d i j w u : ℕ) → FirstLate f a e i w → FirstLate f a d j u → i ≡ j
same_first f a e d i j w u x y =
    elim (dec_lt i j) [ yes z ↦ absurd (one z) | no g ↦ elim (dec_lt j i) [ yes z ↦ absurd (two z) | no k ↦ omega arith ] ]
  where
    one : i < j → ⊥
    one z = omega (arith, y.first i x.from z, x.above)

    two : j < i → ⊥
    two z = omega (arith, x.first j y.from z, y.above)

-- ---- one answer for one input

pub lengths_unique : (x : Set) (e d : ℕ) → Lengths x e → Lengths x d → e ≡ d
lengths_unique x e d a b =
    a.last ∙ ap (last_length (streams_of x)) (h_unique (streams_of x) a.h b.h a.opens.is_h b.opens.is_h) ∙ sym b.last

-- a set that is stopped has no lengths
apart : (ss : List Stream) (h : ℕ) (v : Verdict) → Opens ss h → AtOpening v → JudgedByH ss v → ⊥
apart ss h Accept o early j = early
apart ss h (Late i w) o early j = early
apart ss h Overload o early j =
    let same : j.h ≡ h = h_unique ss j.h h j.is_h o.is_h in
    omega (arith, same, ap (load ss) same, j.judged.heavy, o.light)
apart ss h (Refused why) o early j = omega (arith, h_unique ss j.h h j.is_h o.is_h, j.judged.long, o.short)

pub not_stopped : (x : Set) (v : Verdict) (e : ℕ) → StopsWith x v → Lengths x e → ⊥
unfolding VerdictOf
not_stopped x v e s l = apart (streams_of x) l.h v l.opens s.opening (rw l.ok at s.verdict)

pub not_barred : (p : Position) (e : ℕ) → Barred p → Resumes p e → ⊥
not_barred p e (stopped {v = v} s) r = not_stopped p.set v e s r.lengths
not_barred p e (before l z) r = omega (arith, r.named.low)
not_barred p e (behind {e = d} l z) r = omega (arith, r.named.high, lengths_unique p.set d e l r.lengths)

-- two results of an opening, or of a call, allowed for one input are the same
pub open_unique : (x : Set) (r s : Result Position Verdict) → OpenOf x r → OpenOf x s → r ≡ s
open_unique x (Ok p) (Ok q) y z = ap Ok (y.1 ∙ sym z.1)
open_unique x (Ok p) (Err w) y z = absurd (not_stopped x w y.0.0 z y.0.1)
open_unique x (Err v) (Ok q) y z = absurd (not_stopped x v z.0.0 y z.0.1)
open_unique x (Err v) (Err w) y z = ap Err (verdict_unique x v w y.verdict z.verdict)

-- a call that goes on has not come to the verdict
goes_or_falls : (x : Set) (a n e k j : ℕ) (v : Verdict) (p : Position) → GoesOn x a n e k p → Ends x a n e j v → ⊥
goes_or_falls x a n e k j Accept p y z = omega (arith, y.number, y.left, z.number, z.count)
goes_or_falls x a n e k j (Late i w) p y z = omega (arith, y.number, z.number, z.count, z.falls.above, y.clear i z.falls.from (omega (arith, y.number, z.number, z.count)))
goes_or_falls x a n e k j Overload p y z = z.falls
goes_or_falls x a n e k j (Refused why) p y z = z.falls

same_fall : (ss : List Stream) (a e : ℕ) (v u : Verdict) → FallsFrom ss a e v → FallsFrom ss a e u → v ≡ u
same_fall ss a e Accept Accept y z = refl
same_fall ss a e Accept (Late j u) y z = absurd (omega (arith, y j z.from z.before, z.above))
same_fall ss a e Accept Overload y z = absurd z
same_fall ss a e Accept (Refused why) y z = absurd z
same_fall ss a e (Late i w) Accept y z = absurd (omega (arith, z i y.from y.before, y.above))
same_fall ss a e (Late i w) (Late j u) y z =
    let same : i ≡ j = same_first (demand ss) a (e + 1) (e + 1) i j w u y z in
    ap₂ Late same (y.that ∙ ap (demand ss) same ∙ sym z.that)
same_fall ss a e (Late i w) Overload y z = absurd z
same_fall ss a e (Late i w) (Refused why) y z = absurd z
same_fall ss a e Overload u y z = absurd y
same_fall ss a e (Refused why) u y z = absurd y

pub go_unique : (p : Position) (n : ℕ) (r s : Result Progress Refusal) → GoOf p n r → GoOf p n s → r ≡ s
go_unique p n (Ok (Next k q)) (Ok (Next j s)) y z =
    let same : k ≡ j = omega (arith, y.2.number, z.2.number) in
    ap₂ (λ (i : ℕ) (m : Position). Ok (Next i m)) same (y.2.next ∙ ap (λ (i : ℕ). at p.set (p.next + i)) same ∙ sym z.2.next)
go_unique p n (Ok (Next k q)) (Ok (Falls j v)) y z = absurd (goes_or_falls p.set p.next n z.0 k j v q (subst (λ (e : ℕ). GoesOn p.set p.next n e k q) (lengths_unique p.set y.0 z.0 y.1.lengths z.1.lengths) y.2) z.2)
go_unique p n (Ok (Next k q)) (Err why) y z = absurd (not_barred p y.0 z.1 y.1)
go_unique p n (Ok (Falls k v)) (Ok (Next j s)) y z = absurd (goes_or_falls p.set p.next n y.0 j k v s (subst (λ (e : ℕ). GoesOn p.set p.next n e j s) (lengths_unique p.set z.0 y.0 z.1.lengths y.1.lengths) z.2) y.2)
go_unique p n (Ok (Falls k v)) (Ok (Falls j u)) y z =
    let e : y.0 ≡ z.0 = lengths_unique p.set y.0 z.0 y.1.lengths z.1.lengths in
    let same : v ≡ u = same_fall (streams_of p.set) p.next z.0 v u (subst (λ (e : ℕ). FallsFrom (streams_of p.set) p.next e v) e y.2.falls) z.2.falls in
    ap₂ (λ (i : ℕ) (w : Verdict). Ok (Falls i w)) (omega (arith, y.2.count, z.2.count, ap₂ past e same)) same
go_unique p n (Ok (Falls k v)) (Err why) y z = absurd (not_barred p y.0 z.1 y.1)
go_unique p n (Err why) (Ok (Next j s)) y z = absurd (not_barred p z.0 y.1 z.1)
go_unique p n (Err why) (Ok (Falls j u)) y z = absurd (not_barred p z.0 y.1 z.1)
go_unique p n (Err why) (Err who) y z = ap Err (y.0 ∙ sym z.0)

-- ---- calls that antt computes

abbrev stops : Verdict → Result Position Verdict
stops v = Err v

abbrev begins : Set → Result Position Verdict
begins x = Ok (at x 1)

abbrev open_by_h : Set → ℕ → Result Position Verdict
open_by_h x h = cond (leb h longest_h) (cond (leb (load (streams_of x) h) h) (begins x) (stops Overload)) (stops (Refused LongCycles))

unfoldable pub open_of : Set → Result Position Verdict
open_of x = cond (valid x) (open_by_h x (h_of (streams_of x))) (stops (Refused OutOfRule))

-- nothing stops a valid set whose H is not long and whose load is not above it
lengths_of : (x : Set) → valid x ≡ true → h_of (streams_of x) ≤ longest_h → load (streams_of x) (h_of (streams_of x)) ≤ h_of (streams_of x)
    → Lengths x (last_length (streams_of x) (h_of (streams_of x)))
lengths_of x ok s l =
    record {
      ok = ok;
      h = h_of (streams_of x);
      opens = record { streams = (valid_set x ok).streams; is_h = h_of_lem (streams_of x) (valid_set x ok).streams; short = s; light = l };
      last = refl;
    }

stops_as : (x : Set) (v : Verdict) → valid x ≡ true → AtOpening v → JudgedByH (streams_of x) v → OpenOf x (stops v)
unfolding VerdictOf
stops_as x v ok early j = record { verdict = rw ok j; opening = early }

pub open_right : (x : Set) → OpenOf x (open_of x)
unfolding open_of VerdictOf
open_right x = by_test (valid x) good bad
  where
    bad : valid x ≡ false → OpenOf x (open_of x)
    bad b = rw b (record { verdict = rw b refl; opening = tt })

    light : valid x ≡ true → h_of (streams_of x) ≤ longest_h → (b : Bool) → leb (load (streams_of x) (h_of (streams_of x))) (h_of (streams_of x)) ≡ b
        → OpenOf x (cond b (begins x) (stops Overload))
    light ok s true e = ((last_length (streams_of x) (h_of (streams_of x)), lengths_of x ok s (leb-true _ _ e)), refl)
    light ok s false e = stops_as x Overload ok tt (overloads (streams_of x) (h_of (streams_of x)) (h_of_lem (streams_of x) (valid_set x ok).streams) s (leb-false _ _ e))

    short : valid x ≡ true → (b : Bool) → leb (h_of (streams_of x)) longest_h ≡ b
        → OpenOf x (cond b (cond (leb (load (streams_of x) (h_of (streams_of x))) (h_of (streams_of x))) (begins x) (stops Overload)) (stops (Refused LongCycles)))
    short ok true e = light ok (leb-true _ _ e) _ refl
    short ok false e =
        stops_as x (Refused LongCycles) ok tt
        (record { h = h_of (streams_of x); is_h = h_of_lem (streams_of x) (valid_set x ok).streams; judged = record { number = refl; long = leb-false _ _ e } })

    good : valid x ≡ true → OpenOf x (open_of x)
    good ok = rw ok (short ok _ refl)

-- a call at the length a, k lengths behind the one that it began with, with n to go
abbrev fell : ℕ → Verdict → Result Progress Refusal
fell k v = Ok (Falls k v)

unfoldable pub go_from : Set → ℕ → ℕ → ℕ → ℕ → Result Progress Refusal
go_from x e zero a k = Ok (Next k (at x a))
go_from x e (suc n) a k =
    cond (leb (demand (streams_of x) a) a) (cond (ltb a e) (go_from x e n (a + 1) (k + 1)) (fell (k + 1) Accept))
    (fell (k + 1) (Late a (demand (streams_of x) a)))

abbrev refuses : Result Progress Refusal
refuses = Err IllFormed

abbrev go_if : Result Position Verdict → Position → ℕ → ℕ → Result Progress Refusal
go_if (Ok q) p e n = cond (leb 1 p.next) (cond (leb p.next e) (go_from p.set e n p.next 0) refuses) refuses
go_if (Err v) p e n = refuses

unfoldable pub go_of : Position → ℕ → Result Progress Refusal
go_of p n = go_if (open_of p.set) p (last_length (streams_of p.set) (h_of (streams_of p.set))) n

go_from_lem : (p : Position) (e : ℕ) → Resumes p e → (n a k m : ℕ) → a ≡ p.next + k → m ≡ k + n → a ≤ e
    → NoneLate (demand (streams_of p.set)) p.next a → GoOf p m (go_from p.set e n a k)
unfolding go_from
go_from_lem p e r zero a k m q s le f = (
  e,
  r,
  record {
    number = omega arith;
    next = ap (at p.set) q;
    left = omega arith;
    clear = subst (NoneLate (demand (streams_of p.set)) p.next) q f;
  },
)
go_from_lem p e r (suc n) a k m q s le f =
    first (leb (demand (streams_of p.set) a) a) refl
    (λ fits. λ more. go_from_lem p e r n (a + 1) (k + 1) m (omega arith) (omega arith) (omega arith) (none_more (demand (streams_of p.set)) p.next a f fits))
  where
    last : (b : Bool) → ltb a e ≡ b → demand (streams_of p.set) a ≤ a → (a < e → GoOf p m (go_from p.set e n (a + 1) (k + 1)))
        → GoOf p m (cond b (go_from p.set e n (a + 1) (k + 1)) (fell (k + 1) Accept))
    last true t fits more = more (ltb-true a e t)
    last false t fits more =
        let end : a + 1 ≡ e + 1 = omega (arith, ltb-false a e t) in (
          e,
          r,
          record {
            number = omega arith;
            count = omega arith;
            falls = subst (NoneLate (demand (streams_of p.set)) p.next) end (none_more (demand (streams_of p.set)) p.next a f fits);
          },
        )

    first : (b : Bool) → leb (demand (streams_of p.set) a) a ≡ b → (demand (streams_of p.set) a ≤ a → a < e → GoOf p m (go_from p.set e n (a + 1) (k + 1)))
        → GoOf p m (cond b (cond (ltb a e) (go_from p.set e n (a + 1) (k + 1)) (fell (k + 1) Accept)) (fell (k + 1) (Late a (demand (streams_of p.set) a))))
    first true t more = last (ltb a e) refl (leb-true _ _ t) (more (leb-true _ _ t))
    first false t more = (
      e,
      r,
      record {
        number = omega arith;
        count = omega arith;
        falls = record { from = omega arith; before = omega arith; that = refl; above = leb-false _ _ t; first = f };
      },
    )

-- a set with lengths has them up to that one
last_is : (x : Set) (e : ℕ) → Lengths x e → e ≡ last_length (streams_of x) (h_of (streams_of x))
last_is x e l = l.last ∙ ap (last_length (streams_of x)) (h_unique (streams_of x) l.h (h_of (streams_of x)) l.opens.is_h (h_of_lem (streams_of x) l.opens.streams))

-- a position that can be resumed, or not
go_if_lem : (p : Position) (n : ℕ) (a : Result Position Verdict) → OpenOf p.set a → (e : ℕ) → e ≡ last_length (streams_of p.set) (h_of (streams_of p.set)) → GoOf p n (go_if a p e n)
go_if_lem p n (Err v) o e end = (refl, stopped o)
go_if_lem p n (Ok q) o e end = first (leb 1 p.next) refl
  where
    l : Lengths p.set e
    l = subst (Lengths p.set) (last_is p.set o.0.0 o.0.1 ∙ sym end) o.0.1

    second : 1 ≤ p.next → (b : Bool) → leb p.next e ≡ b → GoOf p n (cond b (go_from p.set e n p.next 0) refuses)
    second low true t = go_from_lem p e (record { lengths = l; named = record { low = low; high = leb-true _ _ t } }) n p.next 0 n (omega arith) (omega arith) (leb-true _ _ t) (none_yet _ _)
    second low false t = (refl, behind l (leb-false _ _ t))

    first : (b : Bool) → leb 1 p.next ≡ b → GoOf p n (cond b (cond (leb p.next e) (go_from p.set e n p.next 0) refuses) refuses)
    first true t = second (leb-true _ _ t) (leb p.next e) refl
    first false t = (refl, before l (leb-false _ _ t))

pub go_right : (p : Position) (n : ℕ) → GoOf p n (go_of p n)
unfolding go_of
go_right p n = go_if_lem p n (open_of p.set) (open_right p.set) _ refl

-- ---- the work divided among calls

-- the verdict falls with what was tested before the length a, too
fall_join : (ss : List Stream) (a b e : ℕ) (v : Verdict) → a ≤ b → NoneLate (demand ss) a b → FallsFrom ss b e v → FallsFrom ss a e v
fall_join ss a b e Accept le f g = none_join (demand ss) a b (e + 1) f g
fall_join ss a b e (Late i w) le f g = late_join (demand ss) a f g le (omega arith)
fall_join ss a b e Overload le f g = g
fall_join ss a b e (Refused why) le f g = g

-- calls that come to the verdict v, from a position with none late before it
record Fallen (p : Position) (t : ℕ) (v : Verdict) : Type 0 where
  e : ℕ
  lengths : Lengths p.set e
  falls : FallsFrom (streams_of p.set) 1 e v
  count : p.next + t ≡ past e v

abbrev Clear : Position → Type 0
Clear p = NoneLate (demand (streams_of p.set)) 1 p.next

calls_fall : (p : Position) (ns : List ℕ) (t : ℕ) (v : Verdict) → Clear p → Calls p ns t (fallen v) → Fallen p t v
calls_fall p ns t v f (falls g) =
    record {
      e = g.0;
      lengths = g.1.lengths;
      falls = fall_join (streams_of p.set) 1 p.next g.0 v g.1.named.low f g.2.falls;
      count = g.2.count;
    }
calls_fall p ns t v f (goes {q = q} {k = k} {t = u} {ns = ms} g c) =
    let on : NoneLate (demand (streams_of p.set)) 1 (p.next + k) = none_join (demand (streams_of p.set)) 1 p.next (p.next + k) f g.2.clear in
    let rest : Fallen (at p.set (p.next + k)) u v = subst (λ (q : Position). Fallen q u v) g.2.next (calls_fall q ms u v (subst Clear (sym g.2.next) on) c) in
    record { e = rest.e; lengths = rest.lengths; falls = rest.falls; count = omega (arith, rest.count) }

-- where the verdict falls from the first length on, it is document 01's
pub fall_verdict : (x : Set) (e : ℕ) (v : Verdict) → Lengths x e → FallsFrom (streams_of x) 1 e v → VerdictOf x v
unfolding VerdictOf
fall_verdict x e Accept l f = rw l.ok (accepts (streams_of x) l.h l.opens fits)
  where
    fits : Fits (streams_of x) (last_length (streams_of x) l.h + 1)
    fits j h = elim (dec_lt j 1) [ yes z ↦ fits_one (streams_of x) l.opens.streams j z | no g ↦ f j (omega arith) (omega (arith, l.last)) ]
fall_verdict x e (Late i w) l f =
    rw l.ok (subst (λ (u : ℕ). JudgedByH (streams_of x) (Late i u)) (sym f.that) (is_late (streams_of x) l.h l.opens i fits f.above))
  where
    fits : Fits (streams_of x) i
    fits j h = elim (dec_lt j 1) [ yes z ↦ fits_one (streams_of x) l.opens.streams j z | no g ↦ f.first j (omega arith) h ]
fall_verdict x e Overload l f = absurd f
fall_verdict x e (Refused why) l f = absurd f

-- "However the work from an opening is divided among calls, the final verdict is that of document 01"
pub any_division : AnyDivision
any_division x e l ns t v c =
    let d : Fallen (at x 1) t v = calls_fall (at x 1) ns t v (none_yet (demand (streams_of x)) 1) c in
    (fall_verdict x d.e v d.lengths d.falls, d.count ∙ ap (λ (i : ℕ). past i v) (lengths_unique x d.e e d.lengths l))

-- calls without a verdict
record Stands (p : Position) (ns : List ℕ) (e t : ℕ) (q : Position) : Type 0 where
  number : t ≡ together ns
  next : q ≡ at p.set (p.next + t)
  left : p.next + t ≤ e
  clear : NoneLate (demand (streams_of p.set)) p.next (p.next + t)

calls_stand : (p : Position) (ns : List ℕ) (e t : ℕ) (q : Position) → Resumes p e → Calls p ns t (next q) → Stands p ns e t q
unfolding sum
calls_stand p ns e t q r none =
    record {
      number = refl;
      next = ap (at p.set) (omega arith);
      left = omega (arith, r.named.high);
      clear = λ j a b. absurd (omega arith);
    }
calls_stand p ns e t q r (goes {q = m} {n = n} {k = k} {t = u} {ns = ms} g c) =
    let same : g.0 ≡ e = lengths_unique p.set g.0 e g.1.lengths r.lengths in
    let on : Resumes (at p.set (p.next + k)) e = record { lengths = r.lengths; named = record { low = omega (arith, r.named.low); high = omega (arith, g.2.left) } } in
    let rest : Stands (at p.set (p.next + k)) ms e u q = subst (λ (m : Position). Stands m ms e u q) g.2.next (calls_stand m ms e u q (subst (λ (m : Position). Resumes m e) (sym g.2.next) on) c) in
    let sums : p.next + k + u ≡ p.next + (k + u) = omega arith in
    record {
      number = omega (arith, g.2.number, rest.number);
      next = rest.next ∙ ap (at p.set) sums;
      left = omega (arith, rest.left);
      clear = none_join (demand (streams_of p.set)) p.next (p.next + k) (p.next + (k + u)) g.2.clear (subst (NoneLate (demand (streams_of p.set)) (p.next + k)) sums rest.clear);
    }

-- the position of an opening
begun : (x : Set) (e : ℕ) → Lengths x e → Resumes (at x 1) e
unfolding last_length
begun x e l = record { lengths = l; named = record { low = omega arith; high = omega (arith, l.last, l.opens.is_h.positive) } }

pub no_verdict_yet : NoVerdictYet
no_verdict_yet x e l ns t p c =
    let s : Stands (at x 1) ns e t p = calls_stand (at x 1) ns e t p (begun x e l) c in
    (s.number, s.next, s.left, s.clear)

-- calls with a number for each length that is left
finds : (p : Position) (e : ℕ) → Resumes p e → (ns : List ℕ) → e < p.next + together ns → (t : ℕ) × (v : Verdict) × Calls p ns t (fallen v)
unfolding sum
finds p e r [] far = absurd (omega (arith, r.named.high))
finds p e r (n ∷ ns) far = go (go_of p n) (go_right p n) (λ q s h. finds q e s ns h)
  where
    go : (a : Result Progress Refusal) → GoOf p n a → ((q : Position) → Resumes q e → e < q.next + together ns → (t : ℕ) × (v : Verdict) × Calls q ns t (fallen v))
        → (t : ℕ) × (v : Verdict) × Calls p (n ∷ ns) t (fallen v)
    go (Ok (Falls k v)) g more = (k, v, falls g)
    go (Err why) g more = absurd (not_barred p e g.1 r)
    go (Ok (Next k q)) g more =
        let same : g.0 ≡ e = lengths_unique p.set g.0 e g.1.lengths r.lengths in
        let on : Resumes (at p.set (p.next + k)) e = record { lengths = r.lengths; named = record { low = omega (arith, r.named.low); high = omega (arith, g.2.left) } } in
        let rest : (t : ℕ) × (v : Verdict) × Calls q ns t (fallen v) = more q (subst (λ (m : Position). Resumes m e) (sym g.2.next) on) (omega (arith, g.2.number, ap (λ (m : Position). m.next) g.2.next)) in
        (k + rest.0, rest.1, goes g rest.2)

pub long_enough : LongEnough
long_enough x e l ns h = finds (at x 1) e (begun x e l) ns (omega arith)

-- document 01's verdict falls at a length that is named
verdict_falls : (x : Set) (e : ℕ) (v : Verdict) → Lengths x e → VerdictOf x v → FallsFrom (streams_of x) 1 e v
unfolding VerdictOf
verdict_falls x e v l y = go v (rw l.ok at y)
  where
    go : (v : Verdict) → JudgedByH (streams_of x) v → FallsFrom (streams_of x) 1 e v
    go Accept j = λ i a b. j.judged.fits i
    go (Late i w) j =
        record {
          from = elim (dec_lt i 1) [ yes z ↦ absurd (omega (arith, fits_one (streams_of x) l.opens.streams i z, j.judged.above)) | no g ↦ omega arith ];
          before = elim (dec_lt i (e + 1)) [ yes z ↦ z | no g ↦ absurd (omega (arith, j.judged.above, (accepts (streams_of x) l.h l.opens (λ k h. j.judged.least k (omega (arith, l.last)))).judged.fits i)) ];
          that = j.judged.that;
          above = j.judged.above;
          first = λ k a b. j.judged.least k b;
        }
    go Overload j = apart (streams_of x) l.h Overload l.opens tt j
    go (Refused why) j = apart (streams_of x) l.h (Refused why) l.opens tt j

past_le : (ss : List Stream) (e : ℕ) (v : Verdict) → FallsFrom ss 1 e v → past e v ≤ e + 1
past_le ss e Accept f = omega arith
past_le ss e (Late i w) f = omega (arith, f.before)
past_le ss e Overload f = omega arith
past_le ss e (Refused why) f = omega arith

-- document 01's verdict is one such way
pub one_call : OneCall
one_call x e n k v l y h c =
    let f : FallsFrom (streams_of x) 1 e v = verdict_falls x e v l y in
    (e, begun x e l, record { number = omega (arith, past_le (streams_of x) e v f); count = c; falls = f })

-- ---- the rules of a position

pub positions_kept : PositionsKept
positions_kept =
    record {
      opened = λ x p o. (o.0.0, subst (λ (q : Position). Resumes q o.0.0) (sym o.1) (begun x o.0.0 o.0.1));
      gone = λ p q n k g. (
        g.0,
        subst (λ (m : Position). Resumes m g.0) (sym g.2.next)
            (record { lengths = g.1.lengths; named = record { low = omega (arith, g.1.named.low); high = g.2.left } }),
      );
    }

pub twelve_exactly : (p : Position) (n : ℕ) (r : Result Progress Refusal) → GoOf p n r → TwelveExactly p n r
twelve_exactly p n (Ok (Next k q)) y = record { given = λ s. absurd (let z : ◌≡◌ {A = ℕ} 0 1 = cc in omega arith); broken = λ f. absurd (f y.0 y.1); alone = tt }
twelve_exactly p n (Ok (Falls k v)) y = record { given = λ s. absurd (let z : ◌≡◌ {A = ℕ} 0 1 = cc in omega arith); broken = λ f. absurd (f y.0 y.1); alone = tt }
twelve_exactly p n (Err why) y = record { given = λ s e z. not_barred p e y.1 z; broken = λ f. ap Err y.0; alone = y.0 }

-- ---- a check under way

pub underway_opened : (x : Set) (p : Position) → OpenOf x (Ok p) → Underway x p
underway_opened x p o =
    subst (Underway x) (sym o.1)
    (record { same = refl; last = o.0.0; resumes = begun x o.0.0 o.0.1; clear = none_yet (demand (streams_of x)) 1 })

-- the set of a position as the check's own
clear_own : (x : Set) (p : Position) → Underway x p → Clear p
clear_own x p u = subst (λ (y : Set). NoneLate (demand (streams_of y)) 1 p.next) (sym u.same) u.clear

pub underway_next : (x : Set) (p q : Position) (n k : ℕ) → Underway x p → GoOf p n (Ok (Next k q)) → Underway x q
underway_next x p q n k u g =
    subst (Underway x) (sym g.2.next)
    (record {
      same = u.same;
      last = g.0;
      resumes = record { lengths = g.1.lengths; named = record { low = omega (arith, g.1.named.low); high = g.2.left } };
      clear = subst (λ (y : Set). NoneLate (demand (streams_of y)) 1 (p.next + k)) u.same (none_join (demand (streams_of p.set)) 1 p.next (p.next + k) (clear_own x p u) g.2.clear);
    })

pub underway_falls : (x : Set) (p : Position) (n k : ℕ) (v : Verdict) → Underway x p → GoOf p n (Ok (Falls k v)) → VerdictOf x v
underway_falls x p n k v u g =
    let d : Fallen p k v = calls_fall p (n ∷ []) k v (clear_own x p u) (falls g) in
    subst (λ (y : Set). VerdictOf y v) u.same (fall_verdict p.set d.e v d.lengths d.falls)

pub underway_goes : (x : Set) (p : Position) (n : ℕ) {why : Refusal} → Underway x p → GoOf p n (Err why) → ⊥
underway_goes x p n u g = not_barred p u.last g.1 u.resumes
