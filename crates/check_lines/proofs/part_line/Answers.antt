use mathlib.Core.Path.{◌≡◌}
use Rattle.std.specs.Prelude.{Option, Some}
use Rattle.line.specs.declared.Line.{Line}
use Rattle.line.specs.Line.{holding}
use Rattle.load_parts.specs.declared.Part.{Part}
use Rattle.line.proofs.Puts.{then}
use Rattle.answer_words.proofs.Ends.{ended}
use Rattle.check_lines.specs.Told.{due_words, block_words, part_line}
use Rattle.check_lines.proofs.Shown.{due_words_lem, block_short}
use Rattle.check_lines.proofs.part_line.Goals as goal

line_of_part : (p : Option Part) (q r : Part) (l : Line) → p ≡ Some q → q ≡ r → l ≡ holding (part_line (Some r)) → l ≡ holding (part_line p)
line_of_part p q r l e f h = rw (e, f) h

pub returns-in-None : goal.returns-in-None
returns-in-None c = rw c.in-None.is c.blank.ensures

pub returns-in-Some-Due : goal.returns-in-Some-Due
returns-in-Some-Due c =
    let p = c.in-Some-Due in
    line_of_part _ _ _ _ p.is (rw p.is at p.field-0-is) (ended _ _ _ (due_words p.k p.c p.e) (due_words_lem p.k p.c p.e) c.blank-in-Some-Due.ensures (then _ _ _ _ _ (then _ _ _ _ _ c.one-front.ensures c.one.ensures) c.one-in-Some-Due.ensures) c.put.ensures)

pub returns-in-Some-Blocks : goal.returns-in-Some-Blocks
returns-in-Some-Blocks c =
    let p = c.in-Some-Blocks in
    line_of_part _ _ _ _ p.is (rw p.is at p.field-0-is) (ended _ _ _ (block_words p.t p.b) (block_short p.t p.b) c.blank-in-Some-Blocks.ensures (then _ _ _ _ _ c.one-front-in-Some-Blocks.ensures c.one-in-Some-Blocks.ensures) c.put-in-Some-Blocks.ensures)
