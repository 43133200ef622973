use Rattle.std.proofs.Common.{◌≡◌, ◌-◌, length, drop, take}
use lib.Seq.{take_all}
use lib.ListN.{length-drop}
use borrow.Author.Tests.{lt-leb}
use native.Mathlib.Omega.{arith}
use Rattle.text_line.proofs.Numbers.{starts_is, starts_past}
use Rattle.text_line.proofs.starts.Goals as goal

pub returns-then-at-line : goal.returns-then-at-line
returns-then-at-line c =
    let all : take (length c.args.line.now - c.args.at) (drop c.args.at c.args.line.now) ≡ drop c.args.at c.args.line.now = take_all _ _ (omega (arith, length-drop c.args.at c.args.line.now)) in
    starts_is _ _ _ _ c.if-at-line.true (rw all at c.starts_with.ensures.bound) (rw all at c.starts_with.ensures.value)

pub returns-else-at-line : goal.returns-else-at-line
returns-else-at-line c =
    rw (lt-leb c.args.at (length c.args.line.now) c.if-at-line.false) (starts_past c.args.w.now _ _ c.if-at-line.false)
