-- What the replay program prints, in whole and byte for byte, computed from the definitions: the recording of document 01's set B, with its end, cut
-- before it, and with a padding bit set; a sheet that is refused; and a message that passes on to its next stage.
-- Assumes nothing.
use Prim.Native.Nat.{ℕ}
use mathlib.Core.List.{[], ◌∷◌}
use mathlib.Core.Path.{refl}
use Rattle.rules.specs.declared.Refusal.TheVariants.{BitsMissing}
use Rattle.rules.specs.declared.Verdict.TheVariants.{Accept, Refused}
use Rattle.rules.specs.Load.{last_length, greatest_deadline, stream_offset, greatest_offset}
use Rattle.rules.specs.Sheet.{sheet_of}
use Rattle.rules.proofs.Examples.{set_b, computed}
use Rattle.rules.proofs.Staged.{boom}
use Rattle.rules.proofs.Cycles.{h_of}
use Rattle.rules.proofs.Judge.{judge_from, judge_by, judge, judge_right}
use Rattle.ascii.specs.Decimal.{letters, digits_of}
use Rattle.answer_words.specs.Words.{says, step_line}
use Rattle.replay_lines.specs.Replay.{replay_printed, ReplayOf}

-- to unfold `shown` is to unfold all that an output is computed by
unfoldable shown : ℕ
unfolding computed judge judge_by judge_from h_of last_length greatest_deadline greatest_offset stream_offset digits_of says step_line replay_printed
shown = 0

-- the recording of the trace `p1up2p0uududud`
pub set_b_replayed :
    ReplayOf (sheet_of set_b) (0x05 ∷ 0x08 ∷ 0x05 ∷ 0x99 ∷ 0xB0 ∷ [])
    (letters "accept\n0 posted 1 20\n0 ran 0 1\n1 posted 2 9\n1 posted 0 6\n1 ran 0 1\n2 ran 0 1\n3 done 0 1 16\n4 ran 0 0\n5 done 0 0 0\n6 ran 1 2\n7 done 1 2 1\nend\n")
unfolding shown
set_b_replayed = record { verdict = Accept; is_verdict = judge_right set_b; whole = refl }

-- its first byte is a post to stream 1 and a unit, and then it stops
pub cut_replayed : ReplayOf (sheet_of set_b) (0x05 ∷ []) (letters "accept\n0 posted 1 20\n0 ran 0 1\nrefused 13\n")
unfolding shown
cut_replayed = record { verdict = Accept; is_verdict = judge_right set_b; whole = refl }

-- a unit, end, and behind it a set bit; a further byte
pub padded_replayed : ReplayOf (sheet_of set_b) (0x71 ∷ []) (letters "accept\n0 idle\nrefused 14\n")
unfolding shown
padded_replayed = record { verdict = Accept; is_verdict = judge_right set_b; whole = refl }

pub lengthened_replayed : ReplayOf (sheet_of set_b) (0x70 ∷ 0x00 ∷ []) (letters "accept\n0 idle\nrefused 14\n")
unfolding shown
lengthened_replayed = record { verdict = Accept; is_verdict = judge_right set_b; whole = refl }

-- "a refused sheet prints only that line": here no bytes, as of a missing set.bin
pub refused_replayed : ReplayOf [] (0x05 ∷ 0xC0 ∷ []) (letters "refused 5\n")
unfolding shown
refused_replayed = record { verdict = Refused BitsMissing; is_verdict = refl; whole = refl }

-- the recording of the trace `p1up0uduuud`
pub passed_replayed :
    ReplayOf (sheet_of boom) (0x05 ∷ 0x01 ∷ 0x95 ∷ 0xB0 ∷ [])
    (letters "accept\n0 posted 1 30\n0 ran 4 1\n1 posted 0 13\n1 ran 1 0\n2 passed 1 0\n3 cut 4 1 26\n4 ran 4 0\n5 ran 4 0\n6 done 4 0 6\nend\n")
unfolding shown
passed_replayed = record { verdict = Accept; is_verdict = judge_right boom; whole = refl }
