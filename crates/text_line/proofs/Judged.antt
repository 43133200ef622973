-- What a row that keeps the bytes of a line says.
-- Assumes nothing.
use Prim.Native.Nat.{ℕ, ◌-◌, ◌≤◌, ◌<◌}
use native.Mathlib.Omega.{arith}
use mathlib.Core.Path.{◌≡◌}
use mathlib.Core.Bool.{cond}
use mathlib.Core.List.{List}
use lib.ListN.{length, take}
use lib.Seq.{take-append_seam, take_all}
use lib.Dec.{ltb, leb, eqb}
use borrow.Author.Tests.{le-leb, lt-leb, lt-ltb}
use Rattle.laws.proofs.Sums.{by_test}
use Rattle.laws.specs.Bits.{zeros}
use Rattle.text_tidy.specs.Tidied.{row_of}
use Rattle.text_line.specs.declared.Fault.TheVariants.{LongLine}
use Rattle.std.specs.Prelude.{Err}
use Rattle.text_line.specs.Lines.{line_read, longest, judged}

module _ (version : ℕ) (v : List ℕ) where
  fits : longest version ≤ 191
  fits = by_test (eqb version 1) (λ e. rw e (omega arith)) (λ e. rw e (omega arith))

  pub judged_short : length v ≤ longest version → judged version (row_of v) ≡ line_read version v
  unfolding judged row_of
  judged_short h =
      let room : length v < 192 = omega (arith, fits) in
      rw (lt-ltb (length v) 192 room, le-leb (length v) (longest version) h, take_all 192 v (omega arith), take-append_seam v (zeros (192 - length v)))

  pub judged_long : longest version < length v → judged version (row_of v) ≡ Err LongLine
  unfolding judged row_of
  judged_long h =
      let more : (n : ℕ) → longest version < n → cond (leb n (longest version)) (line_read version (take n (row_of v).bytes)) (Err LongLine) ≡ Err LongLine = λ n g. rw (lt-leb n (longest version) g) in
      by_test (ltb (length v) 192) (λ e. rw e (more (length v) h)) (λ e. rw e (more 192 (omega (arith, fits))))
