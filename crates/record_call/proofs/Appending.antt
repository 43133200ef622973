-- A call, or end, as one field; and what appending and finishing answer and leave.
-- Assumes nothing.
use Prim.Native.Nat.{ℕ, zero, suc, ◌+◌, ◌-◌, ◌*◌, ◌/◌, ◌%◌, ◌^◌, ◌<◌}
use native.Mathlib.Omega.{arith}
use mathlib.Core.Bool.{Bool, true, false, cond}
use mathlib.Core.List.{List, [], ◌∷◌, ◌++◌}
use mathlib.Core.Path.{◌≡◌, refl, ap, ap₂, sym, ◌∙◌}
use borrow.Author.Tests.{ltb-true}
use lib.ListN.{length, length-append, length-replicate}
use Rattle.laws.specs.Bits.{bytes_for, to_bits, zeros}
use Rattle.laws.proofs.Sums.{by_test}
use Rattle.laws.proofs.Fields.{to_bits_length}
use Rattle.rules.specs.declared.Call.{Call}
use Rattle.rules.specs.declared.Call.TheVariants.{Posts, Units}
use Rattle.rules.specs.declared.Refusal.TheVariants.{NoStream, IllFormed}
use Rattle.std.specs.Prelude.{Result, Ok, Err}
use Rattle.rules.specs.declared.Refusal.{Refusal}
use Rattle.rules.specs.declared.Place.{Place}
use Rattle.rules.specs.Recordings.{call_bits, recordable, place_in, place_after, fits, end_bits, append_of, appended_by, appended_to, finish_of, finished_by, finished_to}
use Rattle.record_call.specs.Places.{code_of, put_answer, put_buffer}
use Rattle.record_call.proofs.Widths.{width_post, width_unit}

-- ---- a call

-- kind 0 and a stream below 16 are the stream's six lowest bits
post_bits : (k : ℕ) → k < 16 → to_bits 6 k ≡ to_bits 2 0 ++ to_bits 4 k
unfolding to_bits
post_bits k h = ap₂ (λ (a b : ℕ). a ∷ b ∷ to_bits 4 k) (let e : k / 32 % 2 ≡ 0 = omega arith in e) (let e : k / 16 % 2 ≡ 0 = omega arith in e)

unit_bits : (done : Bool) → to_bits 2 (cond done 2 1) ≡ to_bits 2 (cond done 2 1) ++ []
unfolding to_bits
unit_bits true = refl
unit_bits false = refl

code_bits : (c : Call) → recordable c ≡ true → to_bits (length (call_bits c)) (code_of c) ≡ call_bits c
unfolding call_bits
code_bits (Posts k) e = ap (λ (w : ℕ). to_bits w k) (sym (width_post (Posts k) k refl)) ∙ post_bits k (ltb-true k 16 e)
code_bits (Units done) e = ap (λ (w : ℕ). to_bits w (cond done 2 1)) (sym (width_unit (Units done) done refl)) ∙ unit_bits done

module _ (s : List ℕ) (p : Place) (c : Call) where
  abbrev pub Appends : Result Place Refusal → List ℕ → Type 0
  Appends r new = (r ≡ append_of s p c) × (new ≡ appended_to s p c)

  -- the buffer by the answer
  by_answer : (r : Result Place Refusal) (new : List ℕ) → r ≡ append_of s p c → new ≡ appended_by r s p c → Appends r new
  unfolding appended_to
  by_answer r new e f = (e, f ∙ ap (λ (a : Result Place Refusal). appended_by a s p c) e)

  pub append_ill : (b : Bool) → b ≡ place_in s p → b ≡ false → Appends (Err IllFormed) s
  unfolding append_of
  append_ill b e f = by_answer (Err IllFormed) s (rw (← e, f)) refl

  pub append_no_stream : (b d : Bool) → b ≡ place_in s p → b ≡ true → d ≡ recordable c → d ≡ false → Appends (Err NoStream) s
  unfolding append_of
  append_no_stream b d e f g h = by_answer (Err NoStream) s (rw (← e, f, ← g, h)) refl

  -- as the field that was put
  append_is : place_in s p ≡ true → recordable c ≡ true → put_answer s p (call_bits c) ≡ append_of s p c
  unfolding append_of put_answer
  append_is f g = rw (f, g)

  buffer_is : put_buffer s p (call_bits c) ≡ appended_by (put_answer s p (call_bits c)) s p c
  unfolding put_answer put_buffer
  buffer_is = by_test (fits s p (call_bits c)) (λ y. rw y) (λ y. rw y)

  pub append_put : (b d : Bool) (w v : ℕ) (r : Result Place Refusal) (new : List ℕ) → b ≡ place_in s p → b ≡ true → d ≡ recordable c → d ≡ true → w ≡ length (call_bits c) → v ≡ code_of c
      → r ≡ put_answer s p (to_bits w v) → new ≡ put_buffer s p (to_bits w v) → Appends r new
  append_put b d w v r new e f g h ew ev er en =
      let field : to_bits w v ≡ call_bits c = ap₂ to_bits ew ev ∙ code_bits c (sym g ∙ h) in
      let a : r ≡ put_answer s p (call_bits c) = er ∙ ap (put_answer s p) field in
      by_answer r new (a ∙ append_is (sym e ∙ f) (sym g ∙ h)) (en ∙ ap (put_buffer s p) field ∙ buffer_is ∙ ap (λ (x : Result Place Refusal). appended_by x s p c) (sym a))

-- ---- end

-- behind end the recording's bytes are whole
abbrev pub ended_by : Result Place Refusal → Result ℕ Refusal
ended_by (Ok q) = Ok q.byte
ended_by (Err why) = Err why

-- end and its zero bits, to the end of a byte, as one field
end_at : (bit : ℕ) → bit < 8 → to_bits (8 * bytes_for (bit + 2) - bit) (3 * 2 ^ (8 * bytes_for (bit + 2) - bit - 2) % 2 ^ 64) ≡ to_bits 2 3 ++ zeros (8 * bytes_for (bit + 2) - (bit + 2))
unfolding to_bits
end_at zero g = refl
end_at (suc zero) g = refl
end_at (suc (suc zero)) g = refl
end_at (suc (suc (suc zero))) g = refl
end_at (suc (suc (suc (suc zero)))) g = refl
end_at (suc (suc (suc (suc (suc zero))))) g = refl
end_at (suc (suc (suc (suc (suc (suc zero)))))) g = refl
end_at (suc (suc (suc (suc (suc (suc (suc zero))))))) g = refl
end_at (suc (suc (suc (suc (suc (suc (suc (suc n)))))))) g = absurd (omega arith)

pub end_field : (p : Place) (w v : ℕ) → p.bit < 8 → w ≡ 8 * bytes_for (p.bit + 2) - p.bit → v ≡ 3 * 2 ^ (w - 2) % 2 ^ 64 → to_bits w v ≡ end_bits p
end_field p w v h e f = rw (f, e) (end_at p.bit h)

module _ (s : List ℕ) (p : Place) where
  abbrev pub Finishes : Result ℕ Refusal → List ℕ → Type 0
  Finishes r new = (r ≡ finish_of s p) × (new ≡ finished_to s p)

  by_end : (r : Result ℕ Refusal) (new : List ℕ) → r ≡ finish_of s p → new ≡ finished_by r s p → Finishes r new
  unfolding finished_to
  by_end r new e f = (e, f ∙ ap (λ (a : Result ℕ Refusal). finished_by a s p) e)

  pub finish_ill : (b : Bool) → b ≡ place_in s p → b ≡ false → Finishes (Err IllFormed) s
  unfolding finish_of
  finish_ill b e f = by_end (Err IllFormed) s (rw (← e, f)) refl

  -- the byte behind end and its zero bits
  end_byte : p.byte + (p.bit + length (end_bits p)) / 8 ≡ p.byte + bytes_for (p.bit + 2)
  end_byte =
      let l : length (end_bits p) ≡ 2 + (8 * bytes_for (p.bit + 2) - (p.bit + 2)) = length-append (to_bits 2 3) (zeros (8 * bytes_for (p.bit + 2) - (p.bit + 2))) ∙ ap₂ ◌+◌ (to_bits_length 2 3) (length-replicate {A = ℕ} (8 * bytes_for (p.bit + 2) - (p.bit + 2)) 0) in
      omega arith

  finish_is : place_in s p ≡ true → ended_by (put_answer s p (end_bits p)) ≡ finish_of s p
  unfolding finish_of put_answer place_after
  finish_is f = rw f (by_test (fits s p (end_bits p)) (λ y. rw y (ap Ok end_byte)) (λ y. rw y))

  end_buffer : put_buffer s p (end_bits p) ≡ finished_by (ended_by (put_answer s p (end_bits p))) s p
  unfolding put_answer put_buffer
  end_buffer = by_test (fits s p (end_bits p)) (λ y. rw y) (λ y. rw y)

  pub finish_put : (b : Bool) (bs : List ℕ) (r : Result Place Refusal) (a : Result ℕ Refusal) (new : List ℕ) → b ≡ place_in s p → b ≡ true → bs ≡ end_bits p → r ≡ put_answer s p bs → a ≡ ended_by r
      → new ≡ put_buffer s p bs → Finishes a new
  finish_put b bs r a new e f g er ea en =
      let x : a ≡ ended_by (put_answer s p (end_bits p)) = ea ∙ ap ended_by (er ∙ ap (put_answer s p) g) in
      by_end a new (x ∙ finish_is (sym e ∙ f)) (en ∙ ap (put_buffer s p) g ∙ end_buffer ∙ ap (λ (y : Result ℕ Refusal). finished_by y s p) (sym x))
