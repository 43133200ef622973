use Rattle.std.proofs.Common.{◌≡◌, ◌-◌, length, drop, take}
use lib.Seq.{take_all}
use lib.ListN.{length-drop}
use native.Mathlib.Omega.{arith}
use Rattle.text_line.specs.Lines.{number_at}
use Rattle.text_line.proofs.Numbers.{read_end, read_next, read_over}
use Rattle.text_line.proofs.number_at.Goals as goal

pub returns-then-from-n : goal.returns-then-from-n
returns-then-from-n c =
    let all : take (length c.args.line.now - c.args.at) (drop c.args.at c.args.line.now) ≡ drop c.args.at c.args.line.now = take_all _ _ (omega (arith, length-drop c.args.at c.args.line.now)) in
    read_over c.digits-digits.result.now c.loop-b.b-index c.loop-b.n c.loop-b.invariant.1 c.digit_of.result c.loop-b-test.true c.digit_of.ensures c.args.low _ _ _ (rw all at c.digits-digits.ensures) (omega arith) (omega arith)

pub loop-b-preserved : goal.loop-b-preserved
loop-b-preserved c =
    (omega arith, read_next _ _ _ c.loop-b.invariant.1 _ c.loop-b-test.true c.digit_of.ensures)

pub returns : goal.returns
unfolding number_at
returns c =
    let all : take (length c.args.line.now - c.args.at) (drop c.args.at c.args.line.now) ≡ drop c.args.at c.args.line.now = take_all _ _ (omega (arith, length-drop c.args.at c.args.line.now)) in
    rw (read_end c.digits-digits.result.now c.loop-b.b-index c.loop-b.n c.loop-b.invariant.1 (omega arith), rw all at c.digits-digits.ensures) at c.ended.ensures
