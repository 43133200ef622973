use Rattle.std.proofs.Common.{◌≡◌, drop}
use Rattle.text_read.specs.Texts.{feed_of}
use Rattle.text_read.proofs.Draft.feed.Given as goal

abbrev pub invariant-loop-b : goal.invariant-loop-b
invariant-loop-b l = feed_of l.next (drop l.b-index l.piece) ≡ feed_of l.initial.next l.piece
