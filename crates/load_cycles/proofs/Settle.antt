-- From the cycles and the load to how a check begins: it is one opening.
-- Assumes nothing.
use Prim.Native.Nat.{ℕ, ◌+◌, ◌≤◌, ◌<◌}
use native.Mathlib.Nat.{one-dvd}
use native.Mathlib.Omega.{arith}
use mathlib.Core.Path.{◌≡◌, refl, ap, subst}
use mathlib.Core.Bool.{true, false}
use Rattle.std.specs.Prelude.{Option, Some, None, Result, Ok, Err}
use Rattle.rules.specs.declared.Set.{Set}
use Rattle.rules.specs.declared.Refusal.TheVariants.{OutOfRule, LongCycles}
use Rattle.rules.specs.declared.Verdict.{Verdict}
use Rattle.rules.specs.declared.Verdict.TheVariants.{Overload, Refused}
use Rattle.rules.specs.Streams.{streams_of, valid}
use Rattle.rules.specs.Load.{load, JudgedByH, VerdictOf, greatest_deadline, greatest_offset, last_length}
use Rattle.rules.proofs.Valid.{valid_set}
use Rattle.rules.proofs.Cycles.{least_is_h}
use Rattle.rules.proofs.Judge.{overloads, too_long}
use Rattle.rules.proofs.Verdicts.{verdict_unique}
use Rattle.rules.proofs.Resumed.{lengths_unique, not_stopped}
use Rattle.rules.specs.Resumed.{AtOpening, StopsWith}
use Rattle.load_cycles.specs.Cycles.{CommonOf, JoinedBy}
use Rattle.load_cycles.specs.Openings.{UpTo, OpeningOf}

pub verdict_refused : (x : Set) → valid x ≡ false → StopsWith x (Refused OutOfRule)
unfolding VerdictOf
verdict_refused x bad = record { verdict = rw bad refl; opening = tt }

pub verdict_is : (x : Set) (v : Verdict) → valid x ≡ true → JudgedByH (streams_of x) v → VerdictOf x v
unfolding VerdictOf
verdict_is x v ok j = rw ok j

stops_is : (x : Set) (v : Verdict) → valid x ≡ true → AtOpening v → JudgedByH (streams_of x) v → StopsWith x v
stops_is x v ok early j = record { verdict = verdict_is x v ok j; opening = early }

-- H of the cycles that were joined, r, where it is not above 1,000,000
joined_h : (x : Set) {r : Option ℕ} {h : ℕ} → JoinedBy 1 (CommonOf (streams_of x)) r → r ≡ Some h → JoinedBy 1 (CommonOf (streams_of x)) (Some h)
joined_h x j e = subst (JoinedBy 1 (CommonOf (streams_of x))) e j

pub joined_short : (x : Set) {r : Option ℕ} {h : ℕ} → JoinedBy 1 (CommonOf (streams_of x)) r → r ≡ Some h → h ≤ 1000000
joined_short x j e = (joined_h x j e).1

pub verdict_long : (x : Set) {r : Option ℕ} → valid x ≡ true → JoinedBy 1 (CommonOf (streams_of x)) r → r ≡ None → StopsWith x (Refused LongCycles)
verdict_long x ok j e =
    stops_is x (Refused LongCycles) ok tt
    (too_long (streams_of x) (valid_set x ok).streams (λ m p c. subst (JoinedBy 1 (CommonOf (streams_of x))) e j m p (one-dvd m) c))

pub verdict_overload : (x : Set) {r : Option ℕ} {h k w : ℕ} → valid x ≡ true → JoinedBy 1 (CommonOf (streams_of x)) r → r ≡ Some h → k ≡ h → w ≡ load (streams_of x) h → k < w
    → StopsWith x Overload
verdict_overload x {h = h} ok j e f g heavy =
    stops_is x Overload ok tt
    (overloads (streams_of x) h (least_is_h (streams_of x) h (joined_h x j e).0) (joined_short x j e) (omega arith))

pub goes_on_lem : (x : Set) {r : Option ℕ} {h k w d o e : ℕ} → valid x ≡ true → JoinedBy 1 (CommonOf (streams_of x)) r → r ≡ Some h → k ≡ h → w ≡ load (streams_of x) h
    → d ≡ greatest_deadline (streams_of x) → o ≡ greatest_offset (streams_of x) → e ≡ h + d + o + 1 → w ≤ k → UpTo x e
unfolding last_length
goes_on_lem x {h = h} ok j i f g p q r light =
    record {
      last = last_length (streams_of x) h;
      lengths = record {
        ok = ok;
        h = h;
        opens = record { streams = (valid_set x ok).streams; is_h = least_is_h (streams_of x) h (joined_h x j i).0; short = joined_short x j i; light = omega arith };
        last = refl;
      };
      end = omega arith;
    }

-- ---- one opening

same_end : (x : Set) (e f : ℕ) → UpTo x e → UpTo x f → e ≡ f
same_end x e f a b = omega (arith, a.end, b.end, lengths_unique x a.last b.last a.lengths b.lengths)

-- two openings allowed for one set are the same
pub opening_unique : (x : Set) (a b : Result ℕ Verdict) → OpeningOf x a → OpeningOf x b → a ≡ b
opening_unique x (Err v) (Err w) p q = ap Err (verdict_unique x v w p.verdict q.verdict)
opening_unique x (Err v) (Ok f) p q = absurd (not_stopped x v q.last p q.lengths)
opening_unique x (Ok e) (Err w) p q = absurd (not_stopped x w p.last q p.lengths)
opening_unique x (Ok e) (Ok f) p q = ap Ok (same_end x e f p q)
