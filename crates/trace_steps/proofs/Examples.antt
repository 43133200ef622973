-- What the trace program prints, in whole and byte for byte, computed from the definitions: document 01's set B; spaces and newlines; a byte that
-- is no step; p without its digit; a sheet that is refused; steps behind verdict 8; and a message that passes on to its next stage.
-- Assumes nothing.
use Prim.Native.Nat.{ℕ}
use Prim.Native.String.{String}
use mathlib.Core.List.{List, [], ◌∷◌}
use mathlib.Core.Path.{refl}
use Rattle.rules.specs.declared.Set.{Set}
use Rattle.rules.specs.declared.Refusal.TheVariants.{BitsMissing, LongCycles}
use Rattle.rules.specs.declared.Verdict.TheVariants.{Accept, Refused}
use Rattle.rules.specs.Load.{last_length, greatest_deadline, stream_offset, greatest_offset}
use Rattle.rules.specs.Sheet.{set_of, sheet_of}
use Rattle.rules.proofs.Examples.{set_b, stream, each, computed}
use Rattle.rules.proofs.Staged.{boom}
use Rattle.rules.proofs.Cycles.{h_of}
use Rattle.rules.proofs.Judge.{judge_from, judge_by, judge, judge_right}
use Rattle.ascii.specs.Decimal.{letters, digits_of}
use Rattle.answer_words.specs.Words.{says, step_line}
use Rattle.trace_bytes.specs.Scripts.{script_of}
use Rattle.trace_steps.specs.Trace.{steps_printed, TraceOf}

-- to unfold `shown` is to unfold all that an output is computed by
unfoldable shown : ℕ
unfolding computed judge judge_by judge_from h_of last_length greatest_deadline greatest_offset stream_offset digits_of says step_line script_of steps_printed
shown = 0

-- set B's sheet; "Trace `p1up2p0uududud` prints, in whole"
abbrev sheet_b : List ℕ
sheet_b =
    0x11 ∷ 0x80 ∷ 0x00 ∷ 0x10 ∷ 0x00 ∷ 0x0A ∷ 0x00 ∷ 0x00 ∷ 0xA0 ∷ 0x00 ∷ 0x00 ∷ 0x00 ∷ 0x01 ∷ 0x00 ∷ 0x01 ∷ 0x40
    ∷ 0x00 ∷ 0x05 ∷ 0x00 ∷ 0x00 ∷ 0x02 ∷ 0x00 ∷ 0x04 ∷ 0x00 ∷ 0x04 ∷ 0x00 ∷ 0x00 ∷ 0x28 ∷ 0x00 ∷ 0x00 ∷ []

pub set_b_printed :
    TraceOf sheet_b (letters "p1up2p0uududud")
    (letters "accept\n0 posted 1 20\n0 ran 0 1\n1 posted 2 9\n1 posted 0 6\n1 ran 0 1\n2 ran 0 1\n3 done 0 1 16\n4 ran 0 0\n5 done 0 0 0\n6 ran 1 2\n7 done 1 2 1\n")
unfolding shown
set_b_printed = record { verdict = Accept; is_verdict = judge_right set_b; whole = refl }

-- W12's sheet: task 3, c 2, d 5
abbrev sheet12 : List ℕ
sheet12 = 0x10 ∷ 0x98 ∷ 0x00 ∷ 0x10 ∷ 0x00 ∷ 0x0A ∷ 0x00 ∷ 0x00 ∷ 0x50 ∷ 0x00 ∷ 0x00 ∷ []

abbrev set12 : Set
set12 = set_of 1 (stream 3 2 5 (each 10) ∷ [])

abbrev prints12 : String → String → Type 0
prints12 input out = TraceOf sheet12 (letters input) (letters out)

-- "Spaces and newlines between steps are skipped."
pub blanks_printed : prints12 "p0 u\nud\n" "accept\n0 posted 0 5\n0 ran 3 0\n1 cut 3 0 3\n2 refused 4\n"
unfolding shown
blanks_printed = record { verdict = Accept; is_verdict = judge_right set12; whole = refl }

-- request 6: a post that comes early is refused with 15, and leaves everything as it was
pub early_printed : prints12 "p0p0d" "accept\n0 posted 0 5\n0 refused 15\n0 done 3 0 4\n"
unfolding shown
early_printed = record { verdict = Accept; is_verdict = judge_right set12; whole = refl }

-- "Any other byte .. prints the line `refused 9`, with no clock, and stops": no step behind it
pub bad_byte_printed : prints12 "p0xu" "accept\n0 posted 0 5\nrefused 9\n"
unfolding shown
bad_byte_printed = record { verdict = Accept; is_verdict = judge_right set12; whole = refl }

-- "or p without its digit": before another byte, and at the end
pub no_digit_printed : prints12 "p u" "accept\nrefused 9\n"
unfolding shown
no_digit_printed = record { verdict = Accept; is_verdict = judge_right set12; whole = refl }

pub p_at_end_printed : prints12 "up" "accept\n0 idle\nrefused 9\n"
unfolding shown
p_at_end_printed = record { verdict = Accept; is_verdict = judge_right set12; whole = refl }

-- "a refused sheet prints only that line": here no bytes, as of a missing set.bin
pub refused_printed : TraceOf [] (letters "p0ux") (letters "refused 5\n")
unfolding shown
refused_printed = record { verdict = Refused BitsMissing; is_verdict = refl; whole = refl }

-- "after any verdict on a sheet that was read, 8 included, the steps follow": W10
abbrev set10 : Set
set10 = set_of 1 (stream 0 1 1 (each 999999) ∷ stream 1 1 1 (each 1000000) ∷ [])

pub eight_printed : TraceOf (sheet_of set10) (letters "p1d") (letters "refused 8\n0 posted 1 1\n0 done 1 1 0\n")
unfolding shown
eight_printed = record { verdict = Refused LongCycles; is_verdict = judge_right set10; whole = refl }

-- "The trace program prints passed with task and stream."
pub passed_printed :
    TraceOf (sheet_of boom) (letters "p1up0uduuud")
    (letters "accept\n0 posted 1 30\n0 ran 4 1\n1 posted 0 13\n1 ran 1 0\n2 passed 1 0\n3 cut 4 1 26\n4 ran 4 0\n5 ran 4 0\n6 done 4 0 6\n")
unfolding shown
passed_printed = record { verdict = Accept; is_verdict = judge_right boom; whole = refl }
