-- A law for each way out of taking and putting a field.
-- Assumes nothing.
use Prim.Native.Nat.{ℕ, ◌+◌, ◌*◌, ◌/◌, ◌%◌, ◌^◌, ◌<◌, ◌≤◌, ◌-◌}
use mathlib.Core.Path.{◌≡◌, sym, ap, ap₂, ◌∙◌}
use mathlib.Core.Bool.{true, false}
use mathlib.Core.List.{List}
use native.Mathlib.Omega.{arith}
use lib.ListN.{length}
use lib.Pow.{pow_mono}
use borrow.Author.Tests.{leb-true, ltb-true}
use Rattle.laws.proofs.Sums.{and_parts, by_test}
use Rattle.std.specs.Prelude.{Option, Some, None}
use Rattle.bits.specs.Places.{Near, field_at, gather_of, got_of, in_eight, two_of, word_of}
use Rattle.bits.proofs.Words.{eight_field, field_joined, field_lt, field_none}

-- ---- gathering

pub gather_is : (s : List ℕ) (at w v got : ℕ) → got ≡ got_of (length s) at w → v ≡ field_at s at got → record { value = v; got = got } ≡ gather_of s at w
unfolding gather_of
gather_is s at w v got e h = ap₂ (λ (x n : ℕ). record { value = x; got = n }) (h ∙ ap (field_at s at) e) e

pub gather_none : (s : List ℕ) (at w got : ℕ) → got ≡ got_of (length s) at w → got ≡ 0 → record { value = 0; got = 0 } ≡ gather_of s at w
gather_none s at w got e z = gather_is s at w 0 0 (sym z ∙ e) (field_none s at)

pub gather_near : (s : List ℕ) (byte bit w v : ℕ) → Near (length s) byte bit w → v ≡ field_at s (8 * byte + bit) w → record { value = v; got = w } ≡ gather_of s (8 * byte + bit) w
gather_near s byte bit w v n h = gather_is s (8 * byte + bit) w v w (omega (arith, n.few, n.first, n.there)) h

-- a word fits 32 bits, wherever it stands
pub word_lt : (s : List ℕ) (p w v : ℕ) → v ≡ field_at s p w → p + w ≤ 8 * length s → w ≤ 32 → v < 4294967296
word_lt s p w v e r h = omega (arith, e, field_lt s p w r, pow_mono {i = w} {j = 32} h)

module _ (s : List ℕ) (at w got high low p q : ℕ) (e : got ≡ got_of (length s) at w) (long : 32 < got) (hh : high ≡ field_at s p (got - 32)) (hp : p ≡ at) (hl : low ≡ field_at s q 32) (hq : q ≡ at + (got - 32)) where
  high_is : high ≡ field_at s at (got - 32)
  high_is = hh ∙ ap (λ (x : ℕ). field_at s x (got - 32)) hp

  low_is : low ≡ field_at s (at + (got - 32)) 32
  low_is = hl ∙ ap (λ (x : ℕ). field_at s x 32) hq

  pub gather_two : record { value = high * 4294967296 + low; got = got } ≡ gather_of s at w
  gather_two =
      gather_is s at w (high * 4294967296 + low) got e
      (ap₂ (λ (x y : ℕ). x * 4294967296 + y) high_is low_is
      ∙ sym (field_joined s at (got - 32) 32 (omega arith)) ∙ ap (field_at s at) (let h : got - 32 + 32 ≡ got = omega arith in h))

-- ---- two at once

pub record Eight (n byte bit a b : ℕ) : Type 0 where
  pub there : byte + 8 ≤ n
  pub first : bit < 8
  pub some : 0 < a
  pub few : a ≤ 32
  pub more : 0 < b
  pub fewer : b ≤ 24

behind_eight : (n byte : ℕ) → 8 ≤ n - byte → byte + 8 ≤ n
behind_eight n byte h = omega arith

pub in_eight_lem : (n byte bit a b : ℕ) → in_eight n byte bit a b ≡ true → Eight n byte bit a b
unfolding in_eight
in_eight_lem n byte bit a b e =
    let u = and_parts _ _ e in
    let v = and_parts _ _ u.1 in
    let w = and_parts _ _ v.1 in
    let x = and_parts _ _ w.0 in
    let y = and_parts _ _ w.1 in
    record {
      there = behind_eight n byte (leb-true 8 (n - byte) u.0);
      first = ltb-true bit 8 v.0;
      some = ltb-true 0 a x.0;
      few = leb-true a 32 x.1;
      more = ltb-true 0 b y.0;
      fewer = leb-true b 24 y.1;
    }

module _ (s : List ℕ) (byte bit a b v : ℕ) (h : Eight (length s) byte bit a b) (e : v ≡ word_of s byte 8) where
  first_is : v * 2 ^ bit % 2 ^ 64 / 2 ^ (64 - a) ≡ field_at s (8 * byte + bit) a
  first_is = eight_field s byte bit a v h.there (omega (arith, h.first, h.few)) e

  second_is : v * 2 ^ (bit + a) % 2 ^ 64 / 2 ^ (64 - b) ≡ field_at s (8 * byte + bit + a) b
  second_is =
      eight_field s byte (bit + a) b v h.there (omega (arith, h.first, h.few, h.fewer)) e
      ∙ ap (λ (at : ℕ). field_at s at b) (let q : 8 * byte + (bit + a) ≡ 8 * byte + bit + a = omega arith in q)

  pub first_lt : v * 2 ^ bit % 2 ^ 64 / 2 ^ (64 - a) < 4294967296
  first_lt = word_lt s (8 * byte + bit) a _ first_is (omega (arith, h.there, h.first, h.few)) h.few

  pub second_lt : v * 2 ^ (bit + a) % 2 ^ 64 / 2 ^ (64 - b) < 4294967296
  second_lt = word_lt s (8 * byte + bit + a) b _ second_is (omega (arith, h.there, h.first, h.few, h.fewer)) (omega (arith, h.fewer))

  pub two_is : in_eight (length s) byte bit a b ≡ true → Some (v * 2 ^ bit % 2 ^ 64 / 2 ^ (64 - a), v * 2 ^ (bit + a) % 2 ^ 64 / 2 ^ (64 - b)) ≡ two_of s byte bit a b
  unfolding two_of
  two_is i = simp i (ap₂ (λ (x y : ℕ). Some (x, y)) first_is second_is)

pub two_none : (s : List ℕ) (byte bit a b : ℕ) → in_eight (length s) byte bit a b ≡ false → None ≡ two_of s byte bit a b
unfolding two_of
two_none s byte bit a b i = sym (simp i)

-- each is what gathering finds
module _ (s : List ℕ) (byte bit a b first second : ℕ) (e : Some (first, second) ≡ two_of s byte bit a b) where
  both_in : in_eight (length s) byte bit a b ≡ true
  both_in =
      by_test (in_eight (length s) byte bit a b) (λ i. i)
      (λ i. let q : Some (first, second) ≡ None = e ∙ sym (two_none s byte bit a b i) in cc)

  pub two_in : Eight (length s) byte bit a b
  two_in = in_eight_lem (length s) byte bit a b both_in

  two_fields : (first ≡ field_at s (8 * byte + bit) a) × (second ≡ field_at s (8 * byte + bit + a) b)
  unfolding two_of
  two_fields =
      let q : ◌≡◌ {A = Option (ℕ × ℕ)} (Some (first, second)) (Some (field_at s (8 * byte + bit) a, field_at s (8 * byte + bit + a) b)) = e ∙ simp both_in in
      let p : ◌≡◌ {A = ℕ × ℕ} (first, second) (field_at s (8 * byte + bit) a, field_at s (8 * byte + bit + a) b) = cc in
      (ap (λ (x : ℕ × ℕ). x.0) p, ap (λ (x : ℕ × ℕ). x.1) p)

  pub two_first : record { value = first; got = a } ≡ gather_of s (8 * byte + bit) a
  two_first =
      gather_is s (8 * byte + bit) a first a (omega (arith, two_in.there, two_in.first, two_in.few)) two_fields.0

  pub two_second : record { value = second; got = b } ≡ gather_of s (8 * byte + bit + a) b
  two_second =
      gather_is s (8 * byte + bit + a) b second b (omega (arith, two_in.there, two_in.first, two_in.few, two_in.fewer))
      two_fields.1
