-- The lines that `sheet_text` prints, put together.
-- Assumes nothing.
use Prim.Native.Nat.{ℕ, ◌+◌, ◌≤◌}
use native.Mathlib.Omega.{arith}
use mathlib.Core.Path.{◌≡◌, ap, ◌∙◌}
use mathlib.Core.List.{List, [], ◌∷◌, ◌++◌}
use lib.ListN.{length, length-append}
use lib.Dec.{eqb}
use Rattle.laws.proofs.Sums.{by_test}
use Rattle.line.specs.declared.Line.{Line}
use Rattle.ascii.specs.Decimal.{letters, decimal_of, spaced}
use Rattle.line.specs.Line.{holding, put_of, puts}
use Rattle.ascii.proofs.Digits.{digits_short}
use Rattle.line.proofs.Puts.{then, last, holds}
use Rattle.text_line.specs.declared.Fault.{Fault}
use Rattle.text_line.specs.declared.Fault.TheVariants.{NotTask, Task, NotCost, Cost, TwoStages, FiveStages, NotDeadline, Deadline, NotTuple, Cycle, Offset, FiveTuples, NotJitter, Jitter, LongLine, LateVersion, ManyStreams}
use Rattle.text_faults.specs.Notes.{fault_words, fault_line, plural, made_line}

-- what was put on a blank line is what it holds
held : (b r : Line) (w : List ℕ) → b ≡ holding [] → r ≡ puts b w → length w ≤ 128 → r ≡ holding w
held b r w e f h = f ∙ ap (λ (l : Line). puts l w) e ∙ holds [] w (omega arith)

words_short : (why : Fault) → length (fault_words why) ≤ 100
words_short NotTask = omega arith
words_short Task = omega arith
words_short NotCost = omega arith
words_short Cost = omega arith
words_short TwoStages = omega arith
words_short FiveStages = omega arith
words_short NotDeadline = omega arith
words_short Deadline = omega arith
words_short NotTuple = omega arith
words_short Cycle = omega arith
words_short Offset = omega arith
words_short FiveTuples = omega arith
words_short NotJitter = omega arith
words_short Jitter = omega arith
words_short LongLine = omega arith
words_short LateVersion = omega arith
words_short ManyStreams = omega arith

-- a number with its space, behind a word
one : (w : List ℕ) (n : ℕ) → length (w ++ spaced (decimal_of n)) ≤ length w + 21
one w n = omega (arith, length-append w (spaced (decimal_of n)), digits_short 20 n)

pub fault_is : (b m c f r : Line) (n : ℕ) (why : Fault) → b ≡ holding [] → m ≡ puts b (letters "line" ++ spaced (decimal_of n)) → c ≡ puts m (letters ": ")
    → f ≡ puts c (fault_words why) → r ≡ put_of f 10 → r ≡ holding (fault_line n why)
unfolding fault_line
fault_is b m c f r n why e g h i j =
    let A : List ℕ = letters "line" ++ spaced (decimal_of n) in
    let B : List ℕ = A ++ letters ": " in
    held b r (B ++ fault_words why ++ (10 ∷ [])) e
    (last b f r (B ++ fault_words why) 10 (then b c f B (fault_words why) (then b m c A (letters ": ") g h) i) j)
    (omega (
      arith,
      length-append (B ++ fault_words why) (10 ∷ []),
      length-append B (fault_words why),
      length-append A (letters ": "),
      one (letters "line") n,
      words_short why,
    ))

-- ---- the line for a sheet that was written

plural_short : (n : ℕ) → length (plural n) ≤ 1
plural_short n = by_test (eqb n 1) (λ e. rw e (omega arith)) (λ e. rw e (omega arith))

pub made_is : (b m s t o y z r : Line) (k n : ℕ) → b ≡ holding [] → m ≡ puts b (letters "set.bin:" ++ spaced (decimal_of k)) → s ≡ puts m (letters " stream")
    → t ≡ puts s (plural k) → o ≡ puts t (letters "," ++ spaced (decimal_of n)) → y ≡ puts o (letters " byte") → z ≡ puts y (plural n) → r ≡ put_of z 10
    → r ≡ holding (made_line k n)
unfolding made_line
made_is b m s t o y z r k n e f g h i j u v =
    let A : List ℕ = letters "set.bin:" ++ spaced (decimal_of k) in
    let B : List ℕ = A ++ letters " stream" in
    let C : List ℕ = B ++ plural k in
    let D : List ℕ = letters "," ++ spaced (decimal_of n) in
    let E : List ℕ = C ++ D in
    let F : List ℕ = E ++ letters " byte" in
    held b r (F ++ plural n ++ (10 ∷ [])) e
    (last b z r (F ++ plural n) 10
    (then b y z F (plural n) (then b o y E (letters " byte") (then b t o C D (then b s t B (plural k) (then b m s A (letters " stream") f g) h) i) j) u)
    v)
    (omega (
      arith,
      length-append (F ++ plural n) (10 ∷ []),
      length-append F (plural n),
      length-append E (letters " byte"),
      length-append C D,
      length-append B (plural k),
      length-append A (letters " stream"),
      one (letters "set.bin:") k,
      one (letters ",") n,
      plural_short k,
      plural_short n,
    ))
