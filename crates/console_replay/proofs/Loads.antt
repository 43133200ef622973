-- Bytes loaded into the front of a buffer, and what is held of it.
-- Assumes nothing.
use Prim.Native.Nat.{ℕ, ◌≤◌, min}
use native.Mathlib.Omega.{arith}
use mathlib.Core.Path.{◌≡◌, sym, ap, ◌∙◌}
use mathlib.Core.List.{List, ◌++◌}
use lib.ListN.{length, take, drop}
use lib.Seq.{take_all}
use Rattle.std.proofs.lemmas.List.{drop-replicate}
use lib.Dec.{leb}
use borrow.Author.Tests.{leb-true, leb-false}
use Rattle.laws.specs.Bits.{zeros}
use Rattle.laws.proofs.Sums.{by_test}
use Rattle.rules.specs.Recordings.{first_place}
use Rattle.console_names.specs.Rows.{most_bytes}
use Rattle.console_replay.specs.declared.Replay.{Replay}
use Rattle.console_replay.specs.ReplayCommands.{loaded_of}

-- the text in front, zeros behind it
pub loaded_is : (text front : List ℕ) → front ≡ text → ◌≡◌ {A = Replay} (record { bytes = front ++ drop (length text) (zeros most_bytes); len = length text; place = first_place }) (loaded_of text)
unfolding loaded_of
loaded_is text front e = rw (e, drop-replicate {X = ℕ} (length text) most_bytes 0)

-- as many bytes as there are, where more are asked for
pub take_there : (k m n : ℕ) (l : List ℕ) → m ≡ min k (length l) → n ≡ m → take n l ≡ take k l
take_there k m n l e f =
    by_test (leb k (length l))
    (λ y. let same : n ≡ k = omega (arith, leb-true k (length l) y) in ap (λ (i : ℕ). take i l) same)
    (λ y. let all : length l ≤ n = omega (arith, leb-false k (length l) y) in take_all n l all ∙ sym (take_all k l (omega (arith, leb-false k (length l) y))))
