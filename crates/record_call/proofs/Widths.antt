-- How wide a call is in a recording, and what a place in one is.
-- Assumes nothing.
use Prim.Native.Nat.{ℕ, ◌+◌, ◌≤◌, ◌<◌}
use native.Mathlib.Omega.{arith}
use mathlib.Core.Bool.{Bool, true, cond, ◌&&◌, ◌||◌}
use mathlib.Core.List.{List, [], ◌∷◌}
use mathlib.Core.Path.{◌≡◌, refl, ap, ap₂, sym, ◌∙◌}
use borrow.Author.Tests.{leb-true, ltb-true}
use lib.Dec.{ltb, leb, eqb}
use lib.ListN.{length, length-append}
use Rattle.laws.specs.Lists.{flat}
use Rattle.laws.specs.Bits.{to_bits}
use Rattle.laws.proofs.Sums.{and_parts}
use Rattle.laws.proofs.Fields.{AreBits, IsBit, all_append, to_bits_bits, to_bits_length}
use Rattle.rules.specs.declared.Call.{Call}
use Rattle.rules.specs.declared.Call.TheVariants.{Posts, Units}
use Rattle.rules.specs.Recordings.{call_bits, place_in}
use Rattle.rules.specs.declared.Place.{Place}

pub width_post : (c : Call) (k : ℕ) → c ≡ Posts k → 6 ≡ length (call_bits c)
unfolding call_bits
width_post c k e = rw e (sym (length-append (to_bits 2 0) (to_bits 4 k) ∙ ap₂ ◌+◌ (to_bits_length 2 0) (to_bits_length 4 k)))

pub width_unit : (c : Call) (done : Bool) → c ≡ Units done → 2 ≡ length (call_bits c)
unfolding call_bits
width_unit c done e = rw e (sym (length-append (to_bits 2 (cond done 2 1)) [] ∙ ap (λ (n : ℕ). n + 0) (to_bits_length 2 (cond done 2 1))))

pub call_width : (c : Call) → length (call_bits c) ≤ 6
call_width (Posts k) = omega (arith, width_post (Posts k) k refl)
call_width (Units done) = omega (arith, width_unit (Units done) done refl)

pub some_width : (c : Call) → 1 ≤ length (call_bits c)
some_width (Posts k) = omega (arith, width_post (Posts k) k refl)
some_width (Units done) = omega (arith, width_unit (Units done) done refl)

-- ---- the bits of calls

pub call_bits_lem : (c : Call) → AreBits (call_bits c)
unfolding call_bits
call_bits_lem (Posts k) = all_append IsBit (to_bits 2 0) (to_bits 4 k) (to_bits_bits 2 0) (to_bits_bits 4 k)
call_bits_lem (Units done) = all_append IsBit (to_bits 2 (cond done 2 1)) [] (to_bits_bits 2 (cond done 2 1)) tt

pub calls_bits : (cs : List Call) → AreBits (flat call_bits cs)
unfolding flat
calls_bits [] = tt
calls_bits (c ∷ cs) = all_append IsBit (call_bits c) (flat call_bits cs) (call_bits_lem c) (calls_bits cs)

-- ---- the place

pub record Inside (s : List ℕ) (p : Place) : Type 0 where
  pub byte_in : p.byte ≤ length s
  pub bit_in : p.bit < 8

pub inside : (s : List ℕ) (p : Place) → place_in s p ≡ true → Inside s p
unfolding place_in
inside s p e =
    let a = and_parts (leb p.byte (length s)) (ltb p.bit 8 && (ltb p.byte (length s) || eqb p.bit 0)) e in
    let b = and_parts (ltb p.bit 8) (ltb p.byte (length s) || eqb p.bit 0) a.1 in
    record { byte_in = leb-true p.byte (length s) a.0; bit_in = ltb-true p.bit 8 b.0 }
