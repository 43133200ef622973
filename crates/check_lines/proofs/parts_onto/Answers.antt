use native.Mathlib.Omega.{arith}
use borrow.Author.Rules.{rules}
use Prim.Native.Nat.{ℕ, ◌<◌}
use mathlib.Core.Path.{◌≡◌}
use Rattle.page.proofs.Prints.{room_less}
use Rattle.load_parts.specs.Parts.{stream_part, task_part}
use Rattle.check_lines.specs.Told.{sixteen_room, parts_room}
use Rattle.check_lines.proofs.Shown.{lines_onto, room_behind, both_onto}
use Rattle.check_lines.proofs.parts_onto.Goals as goal

pub sixteen_onto-end-requires-clause-room : goal.sixteen_onto-end-requires-clause-room
sixteen_onto-end-requires-clause-room c = room_less c.args.out.now c.args.at sixteen_room parts_room c.requires (omega arith)

pub sixteen_onto-requires-clause-room : goal.sixteen_onto-requires-clause-room
sixteen_onto-requires-clause-room c =
    let first = c.sixteen_onto-end in
    let same : (k : ℕ) → k < 16 → first.ensures.0 k ≡ stream_part c.args.x c.args.i k = (λ k h. let p = first.ensures.1 k h in search (rules, p)) in
    room_behind c.args.x c.args.i c.args.out.now c.args.at first.result first.new.out c.requires
    (lines_onto first.ensures.0 (stream_part c.args.x c.args.i) _ _ _ _ same first.ensures.2)

pub returns : goal.returns
returns c =
    let first = c.sixteen_onto-end in
    let second = c.sixteen_onto in
    let same : (k : ℕ) → k < 16 → first.ensures.0 k ≡ stream_part c.args.x c.args.i k = (λ k h. let p = first.ensures.1 k h in search (rules, p)) in
    let alike : (k : ℕ) → k < 16 → second.ensures.0 k ≡ task_part c.args.x c.args.i k = (λ k h. let p = second.ensures.1 k h in search (rules, p)) in
    both_onto c.args.x c.args.i c.args.out.now c.args.at first.result first.new.out c.requires
    (lines_onto first.ensures.0 (stream_part c.args.x c.args.i) _ _ _ _ same first.ensures.2) second.result second.new.out
    (lines_onto second.ensures.0 (task_part c.args.x c.args.i) _ _ _ _ alike second.ensures.2)
