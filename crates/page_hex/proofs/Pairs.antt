-- Hex digits, two at a time, read into a buffer.
-- Assumes nothing.
use Prim.Native.Nat.{ℕ, zero, suc, ◌+◌, ◌*◌, ◌/◌, ◌≤◌, ◌<◌, min}
use native.Mathlib.Omega.{arith}
use native.Mathlib.Nat.{zero-add, min-eq_left, min-le_left, min-le_right}
use mathlib.Core.Path.{◌≡◌, refl, sym, ap, ap₂, ◌∙◌}
use mathlib.Core.List.{List, [], ◌∷◌}
use lib.ListN.{length, get_or, take, set}
use lib.Seq.{paste, paste-zero, length-paste, take-paste, take-length}
use Rattle.ascii.specs.Hex.{hex_of, unhexed}
use Rattle.page.proofs.Rooms.{copy_turn}
use Rattle.page_hex.specs.Unhexed.{fitting, unhexed_in}

-- two digits a byte
pub half : (w : List ℕ) → length (unhexed w) ≡ length w / 2
unfolding unhexed
half [] = refl
half (a ∷ []) = refl
half (a ∷ b ∷ w) = omega (arith, half w)

pub byte_at : (w : List ℕ) (n : ℕ) → n < length (unhexed w)
    → get_or (unhexed w) n 0 ≡ hex_of (get_or w (2 * n) 0) * 16 + hex_of (get_or w (2 * n + 1) 0)
unfolding unhexed
byte_at [] n h = absurd (omega (arith, h))
byte_at (a ∷ []) n h = absurd (omega (arith, h))
byte_at (a ∷ b ∷ w) zero h = refl
byte_at (a ∷ b ∷ w) (suc n) h =
    let even : 2 * suc n ≡ suc (suc (2 * n)) = omega arith in
    let odd : 2 * suc n + 1 ≡ suc (suc (2 * n + 1)) = omega arith in
    byte_at w n (omega (arith, h))
    ∙ sym
    (ap₂ (λ (x y : ℕ). hex_of x * 16 + hex_of y)
    (ap (λ (k : ℕ). get_or (a ∷ b ∷ w) k 0) even)
    (ap (λ (k : ℕ). get_or (a ∷ b ∷ w) k 0) odd))

-- the buffer so far
pub record Reading (digits buf₀ buf : List ℕ) (n : ℕ) : Type 0 where
  pub size : length buf ≡ length buf₀
  pub low : n ≤ length buf₀
  pub few : n ≤ length digits / 2
  pub read : buf ≡ paste buf₀ 0 (unhexed digits) n

pub reading_start : (digits buf : List ℕ) → Reading digits buf buf 0
reading_start digits buf = record { size = refl; low = omega arith; few = omega arith; read = paste-zero buf 0 (unhexed digits) }

module _ (digits buf₀ buf : List ℕ) (n : ℕ) (r : Reading digits buf₀ buf n) where
  -- a turn
  pub reading_turn : (v : ℕ) → n < length buf → n < length digits / 2
      → v ≡ hex_of (get_or digits (2 * n) 0) * 16 + hex_of (get_or digits (2 * n + 1) 0) → length (set buf n v) ≡ length buf₀
      → Reading digits buf₀ (set buf n v) (n + 1)
  reading_turn v h g e s =
      let there : n < length (unhexed digits) = omega (arith, half digits) in record {
        size = s;
        low = omega (arith, r.size);
        few = omega arith;
        read = ap₂ (λ (k b : ℕ). set buf k b) (sym (zero-add n)) (e ∙ sym (byte_at digits n there))
            ∙ copy_turn buf₀ buf (unhexed digits) 0 n r.read (omega (arith, r.size)) there;
      }

  -- the end: the buffer is full, or the digits are all read
  pub reading_end : (m : ℕ) → n ≡ m → m ≡ min (length digits / 2) (length buf₀) → (m ≡ fitting digits buf₀) × (buf ≡ unhexed_in digits buf₀)
  unfolding unhexed_in fitting
  reading_end m same h =
      let e : m ≡ fitting digits buf₀ = rw (half digits) h in
      (e, r.read ∙ ap (λ (k : ℕ). paste buf₀ 0 (unhexed digits) k) (same ∙ e))

-- ---- for the caller: what is in the first places

module _ (digits buf : List ℕ) where
  pub unhexed_size : length (unhexed_in digits buf) ≡ length buf
  unfolding unhexed_in fitting
  unhexed_size = length-paste
      buf
      0
      (unhexed digits)
      (min (length (unhexed digits)) (length buf))
      (omega (arith, min-le_right (length (unhexed digits)) (length buf)))
      (min-le_left (length (unhexed digits)) (length buf))

  pub fitting_in : fitting digits buf ≤ length buf
  unfolding fitting
  fitting_in = min-le_right (length (unhexed digits)) (length buf)

  all_fit : length digits ≤ 2 * length buf → fitting digits buf ≡ length (unhexed digits)
  unfolding fitting
  all_fit h = min-eq_left (omega (arith, half digits))

  pub all_there : length digits ≤ 2 * length buf → take (fitting digits buf) (unhexed_in digits buf) ≡ unhexed digits
  unfolding unhexed_in
  all_there h =
      let n : ℕ = length (unhexed digits) in
      rw (all_fit h)
      (ap (λ (k : ℕ). take k (paste buf 0 (unhexed digits) n)) (sym (zero-add n))
      ∙ take-paste buf 0 (unhexed digits) n (omega arith) (omega arith)
      ∙ take-length (unhexed digits))
