use Prim.Native.Nat.{ℕ}
use mathlib.Core.Path.{◌≡◌, ap, ap₂, ◌∙◌}
use mathlib.Core.List.{List, ◌++◌}
use lib.ListN.{drop, length, replicate, take}
use Rattle.rules.specs.declared.Stream.{Stream}
use Rattle.sheet_carried.proofs.Filled.{cleared_all}
use Rattle.rules.specs.Streams.{no_stream}
use Rattle.sheet_read.proofs.feeding.cleared.Goals as goal

pub returns : goal.returns
returns c =
    let x = c.args.x in
    let p = c.requires in
    let n : length (take x.count x.streams) ≡ x.count = p.1.used in
    ap (λ (ss : List Stream). record { count = 0; streams = ss; version = 1 })
    (ap (λ (ss : List Stream). ss ++ drop x.count x.streams) (c.fill.ensures.after (λ y e. e) ∙ ap₂ (λ (k : ℕ) (s : Stream). replicate k s) n c.no_stream.ensures)
    ∙ cleared_all no_stream 16 x.count x.streams c.requires.1 c.requires.0)
