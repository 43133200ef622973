-- Bytes printed as hex digits on a page.
-- Assumes nothing.
use Prim.Native.Nat.{ℕ, ◌+◌, ◌*◌, ◌/◌, ◌%◌, ◌≤◌, ◌<◌}
use native.Mathlib.Omega.{arith}
use native.Mathlib.Numerals.{add-one}
use mathlib.Core.Path.{◌≡◌, refl, sym, ap, ap₂, ◌∙◌}
use mathlib.Core.List.{List, [], ◌∷◌, ◌++◌}
use lib.ListN.{length, get_or, take}
use lib.Seq.{take-suc, take_all, length-take-le}
use Rattle.line.specs.declared.Line.{Line}
use Rattle.line.specs.Line.{holding, put_of, puts}
use Rattle.ascii.specs.Hex.{hex_digit, hexed}
use Rattle.line.proofs.Puts.{holds}
use Rattle.page.specs.Pages.{appended, end_of, printed, printed_end}
use Rattle.page.proofs.Rooms.{room_for_lem, no_room}
use Rattle.page.proofs.Prints.{prints_none, ends_none, line_printed, line_end, printed_size, printed_nothing, end_nothing, printed_twice, end_twice}

-- two digits a byte
pub twice : (w : List ℕ) → length (hexed w) ≡ 2 * length w
unfolding hexed
twice [] = refl
twice (b ∷ w) = omega (arith, twice w)

-- the digits of the bytes so far are printed on the page, which has room for all
pub record Printing (out₀ bytes out : List ℕ) (at i end : ℕ) : Type 0 where
  pub low : i ≤ length bytes
  pub ends : end ≡ printed_end out₀ at (hexed (take i bytes))
  pub stands : out ≡ printed out₀ at (hexed (take i bytes))

pub print_start : (out bytes : List ℕ) (at : ℕ) → Printing out bytes out at 0 at
unfolding hexed
print_start out bytes at = record { low = omega arith; ends = sym (end_nothing out at); stands = sym (printed_nothing out at) }

-- a page without the room
pub print_none : (out bytes : List ℕ) (at : ℕ) → length out < at + 2 * length bytes
    → (at ≡ printed_end out at (hexed bytes)) × (out ≡ printed out at (hexed bytes))
print_none out bytes at h =
    let none = no_room out at (length (hexed bytes)) (omega (arith, twice bytes)) in (
      sym (ends_none out (hexed bytes) at none),
      sym (prints_none out (hexed bytes) at none),
    )

-- the line of one byte
pub pair_line : (b m r : Line) (n x y : ℕ) → n < 256 → b ≡ holding [] → x ≡ hex_digit (n / 16 % 16) → m ≡ put_of b x
    → y ≡ hex_digit (n % 16 % 16) → r ≡ put_of m y → r ≡ holding (hex_digit (n / 16) ∷ hex_digit (n % 16) ∷ [])
unfolding puts
pair_line b m r n x y h e f g k l =
    let high : n / 16 % 16 ≡ n / 16 = omega arith in
    let low : n % 16 % 16 ≡ n % 16 = omega arith in
    l
    ∙ rw (k, g, f, e, high, low) refl
    ∙ holds [] (hex_digit (n / 16) ∷ hex_digit (n % 16) ∷ []) (omega arith)

hexed_last : (w : List ℕ) (b : ℕ) → hexed (w ++ (b ∷ [])) ≡ hexed w ++ (hex_digit (b / 16) ∷ hex_digit (b % 16) ∷ [])
unfolding hexed
hexed_last [] b = refl
hexed_last (a ∷ w) b = ap (λ (v : List ℕ). hex_digit (a / 16) ∷ hex_digit (a % 16) ∷ v) (hexed_last w b)

hexed_next : (bytes : List ℕ) (i : ℕ) → i < length bytes
    → hexed (take i bytes) ++ (hex_digit (get_or bytes i 0 / 16) ∷ hex_digit (get_or bytes i 0 % 16) ∷ []) ≡ hexed (take (i + 1) bytes)
hexed_next bytes i h =
    sym (hexed_last (take i bytes) (get_or bytes i 0)) ∙ ap hexed (sym (take-suc bytes i 0 h) ∙ ap (λ (k : ℕ). take k bytes) (sym (add-one i)))

module _ (out₀ bytes out out' : List ℕ) (at i end end' : ℕ) (l : Line) where
  -- a turn
  pub print_turn : at + 2 * length bytes ≤ length out₀ → i < length bytes
      → l ≡ holding (hex_digit (get_or bytes i 0 / 16) ∷ hex_digit (get_or bytes i 0 % 16) ∷ [])
      → end' ≡ end_of out end l → out' ≡ appended out end l → Printing out₀ bytes out at i end → Printing out₀ bytes out' at (i + 1) end'
  print_turn room h e f g p =
      let w : List ℕ = hex_digit (get_or bytes i 0 / 16) ∷ hex_digit (get_or bytes i 0 % 16) ∷ [] in
      let v : List ℕ = hexed (take i bytes) in
      let fits = room_for_lem out₀ at (2 * length bytes) (omega arith) (omega arith) in
      let both : length v + length w ≤ 2 * length bytes = omega (arith, twice (take i bytes), length-take-le i bytes p.low) in record {
        low = omega arith;
        ends = f
            ∙ ap (λ (k : Line). end_of out end k) e
            ∙ line_end out w end (omega arith)
            ∙ ap₂ (λ (o : List ℕ) (k : ℕ). printed_end o k w) p.stands p.ends
            ∙ end_twice out₀ v w at (2 * length bytes) fits both
            ∙ ap (λ (u : List ℕ). printed_end out₀ at u) (hexed_next bytes i h);
        stands = g
            ∙ ap (λ (k : Line). appended out end k) e
            ∙ line_printed out w end (omega arith)
            ∙ ap₂ (λ (o : List ℕ) (k : ℕ). printed o k w) p.stands p.ends
            ∙ printed_twice out₀ v w at (2 * length bytes) fits both
            ∙ ap (λ (u : List ℕ). printed out₀ at u) (hexed_next bytes i h);
      }

module _ (out₀ bytes out : List ℕ) (at i end : ℕ) (p : Printing out₀ bytes out at i end) where
  pub print_size : length out ≡ length out₀
  print_size = ap length p.stands ∙ printed_size out₀ (hexed (take i bytes)) at

  -- the end
  pub print_end : length bytes ≤ i → (end ≡ printed_end out₀ at (hexed bytes)) × (out ≡ printed out₀ at (hexed bytes))
  print_end h =
      let all : take i bytes ≡ bytes = take_all i bytes h in (
        p.ends ∙ ap (λ (w : List ℕ). printed_end out₀ at (hexed w)) all,
        p.stands ∙ ap (λ (w : List ℕ). printed out₀ at (hexed w)) all,
      )
