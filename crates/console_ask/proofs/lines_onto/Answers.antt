use Rattle.console_ask.proofs.Told.{print_start, turn, print_end}
use Rattle.console_ask.proofs.lines_onto.Goals as goal

pub loop-i-init : goal.loop-i-init
loop-i-init g c = λ line told room. print_start _ _ _ _

pub loop-i-preserved : goal.loop-i-preserved
loop-i-preserved g c = λ line told room.
    let x = c.index-places-i in
    let t = told _ _ _ c.tells.ensures in
    turn _ _ _ _ _ _ _ (c.loop-i.invariant line told room) x.result _ _ _ x.is room c.loop-i-test.true t (c.told_onto-end.ensures _ t)

pub returns : goal.returns
returns g c = λ line told room. print_end _ _ _ _ _ _ _ (c.loop-i.invariant line told room) c.loop-i-test.false
