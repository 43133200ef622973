-- The text of a line, and the bytes that stand in hex in it.
-- Assumes nothing.
use Prim.Native.Nat.{ℕ, ◌-◌, ◌*◌, ◌≤◌}
use native.Mathlib.Omega.{arith}
use mathlib.Core.Path.{◌≡◌, ap, ap₂, ◌∙◌}
use mathlib.Core.List.{List}
use lib.ListN.{length, take, drop, length-take}
use Rattle.ascii.specs.Hex.{unhexed}
use Rattle.page_hex.specs.Unhexed.{fitting, unhexed_in}
use Rattle.page_hex.proofs.Pairs.{unhexed_size, fitting_in, all_there}
use Rattle.console_parse.specs.declared.Order.{Order}
use Rattle.console_parse.specs.Lines.{longest, order_of}
use Rattle.console_parse.proofs.Orders.{text_short, text_in}

-- a text starts in its line, and is no longer than a line
module _ (line : List ℕ) (o : Order) (e : o ≡ order_of line) where
  pub text_there : o.text ≤ length line
  text_there = omega (arith, text_in line, ap (λ (x : Order). x.text) e)

  pub text_few : length (take (length line - o.text) (drop o.text line)) ≤ longest
  text_few =
      omega (
        arith,
        length-take (length line - o.text) (drop o.text line),
        text_short line,
        ap (λ (x : Order). x.text) e,
      )

-- the digits of a text, read into a buffer: all of them where it has room for their bytes
module _ (text buf bytes : List ℕ) (r : ℕ) (e : (r ≡ fitting text buf) × (bytes ≡ unhexed_in text buf)) where
  pub bytes_in : r ≤ length bytes
  bytes_in = omega (arith, e.0, ap length e.1, unhexed_size text buf, fitting_in text buf)

  pub bytes_all : length text ≤ 2 * length buf → take r bytes ≡ unhexed text
  bytes_all h = ap₂ (λ (k : ℕ) (w : List ℕ). take k w) e.0 e.1 ∙ all_there text buf h
