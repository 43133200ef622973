-- No answer takes more bytes than a line has.
-- Assumes nothing.
use Prim.Native.Nat.{ℕ, suc, ◌+◌, ◌≤◌}
use native.Mathlib.Omega.{arith}
use mathlib.Core.List.{List, [], ◌∷◌, ◌++◌}
use lib.ListN.{length, length-append}
use lib.IntN.{ℤ, pos, negsuc}
use Rattle.rules.specs.declared.Tuple.{Tuple}
use Rattle.rules.specs.declared.Tuple.TheVariants.{Once, Every}
use Rattle.std.specs.Prelude.{Result, Ok, Err}
use Rattle.rules.specs.declared.Refusal.{Refusal}
use Rattle.rules.specs.Numbers.{Says, number, refused, refused_with_0, started, posted, none, runs, ran, passed, done, cut, idle, gives, tuples, accept, late, overload, read, fed, wrote, ended, recorded, opened, tested, tested_accept, tested_late}
use Rattle.ascii.specs.Decimal.{letters, decimal_of, signed_of, spaced}
use Rattle.ascii.proofs.Digits.{digits_short}
use Rattle.line.specs.Line.{line_room}
use Rattle.answer_words.specs.Words.{tuple_words, says, read_words, line_of, step_line}

-- a number with its space, behind a word
pub one : (w : List ℕ) (n : ℕ) → length (w ++ spaced (decimal_of n)) ≤ length w + 21
one w n = omega (arith, length-append w (spaced (decimal_of n)), digits_short 20 n)

pub two : (w : List ℕ) (a b : ℕ) → length (w ++ spaced (decimal_of a) ++ spaced (decimal_of b)) ≤ length w + 42
two w a b = omega (arith, one (w ++ spaced (decimal_of a)) b, one w a)

sign : (z : ℤ) → length (signed_of z) ≤ 21
sign (pos n) = omega (arith, digits_short 20 n)
sign (negsuc n) = omega (arith, digits_short 20 (suc n))

three : (w : List ℕ) (a b : ℕ) (z : ℤ) → length (w ++ spaced (decimal_of a) ++ spaced (decimal_of b) ++ spaced (signed_of z)) ≤ length w + 64
three w a b z =
    omega (arith, length-append (w ++ spaced (decimal_of a) ++ spaced (decimal_of b)) (spaced (signed_of z)), two w a b, sign z)

tuple_short : (t : Tuple) → length (tuple_words t) ≤ 47
tuple_short (Once a) = omega (arith, one (letters "once") a)
tuple_short (Every z a) = omega (arith, two (letters "every") z a)

pub says_short : (s : Says) → length (says s) ≤ 95
unfolding says
says_short (refused n) = omega (arith, one (letters "refused") n)
says_short (refused_with_0 n) = omega (arith, two (letters "refused") n 0)
says_short started = omega arith
says_short (posted k d) = omega (arith, two (letters "posted") k d)
says_short none = omega arith
says_short (runs t k) =
    omega (
      arith,
      length-append (letters "task" ++ spaced (decimal_of t)) (letters " stream" ++ spaced (decimal_of k)),
      one (letters "task") t,
      one (letters " stream") k,
    )
says_short (ran t k) = omega (arith, two (letters "ran") t k)
says_short (passed t k) = omega (arith, two (letters "passed") t k)
says_short (done t k z) = omega (arith, three (letters "done") t k z)
says_short (cut t k z) = omega (arith, three (letters "cut") t k z)
says_short idle = omega arith
says_short (gives n) = omega (arith, digits_short 20 n)
says_short (tuples a b) =
    omega (arith, length-append (tuple_words a) (spaced (tuple_words b)), tuple_short a, tuple_short b)
says_short accept = omega arith
says_short (late i w) = omega (arith, two (letters "late") i w)
says_short overload = omega arith
says_short read = omega arith
says_short fed = omega arith
says_short (wrote n) = omega (arith, one (letters "wrote") n)
says_short ended = omega arith
says_short (recorded n) = omega (arith, one (letters "recorded") n)
says_short opened = omega arith
says_short (tested k i) =
    omega (arith, length-append (letters "tested" ++ spaced (decimal_of k)) (letters " next" ++ spaced (decimal_of i)), one (letters "tested") k, one (letters " next") i)
says_short (tested_accept k) = omega (arith, length-append (letters "tested" ++ spaced (decimal_of k)) (letters " accept"), one (letters "tested") k)
says_short (tested_late k i w) =
    omega (
      arith,
      length-append (letters "tested" ++ spaced (decimal_of k)) (letters " late" ++ spaced (decimal_of i) ++ spaced (decimal_of w)),
      one (letters "tested") k,
      two (letters " late") i w,
    )

pub read_short : (a : Result (Unit {0}) Refusal) (n : ℕ) → length (read_words a n) ≤ 95
read_short (Ok tt) n = omega (arith, one (letters "set") n)
read_short (Err why) n = says_short (refused (number why))

-- a line has room for the words of an answer, with a clock before them too
pub line_short : (w : List ℕ) → length w ≤ 95 → length (line_of w) ≤ line_room
line_short w h = omega (arith, length-append w (10 ∷ []))

pub step_short : (clock : ℕ) (s : Says) → length (step_line clock s) ≤ line_room
unfolding step_line
step_short clock s =
    omega (
      arith,
      length-append (decimal_of clock ++ spaced (says s)) (10 ∷ []),
      length-append (decimal_of clock) (spaced (says s)),
      digits_short 20 clock,
      says_short s,
    )
