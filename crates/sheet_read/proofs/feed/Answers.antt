use mathlib.Core.Path.{sym, ap, ◌∙◌}
use Rattle.std.specs.Prelude.{Ok}
use Rattle.rules.specs.Streams.{FourPlaces}
use Rattle.rules.specs.contracts.Stream.{the_row}
use Rattle.sheet_carried.specs.declared.Carried.{Carried}
use Rattle.sheet_carried.specs.Left.{Boxed}
use Rattle.laws.proofs.Arrays.{each_all}
use Rattle.sheet_read.proofs.Pieces.{feed_takes, feed_twelve, left_kept}
use Rattle.sheet_read.proofs.feed.Goals as goal

pub feed-requires : goal.feed-requires
feed-requires c =
    let set = c.well_formed.0.1.1.1.1.1.1.0 in
    let boxed : Boxed c.args.c = record {
      nine = c.well_formed.0.1.1.1.0.1.0.1;
      stages = c.well_formed.0.1.1.1.1.0.1.0.1;
      tuples = c.well_formed.0.1.1.1.1.1.0.1.0.1;
      placed = record {
        sixteen = set.1.1.1.0.1.0.1;
        four = each_all the_row.own_val c.args.c.set.streams _ set.1.1.1.0.1.1 FourPlaces (λ s u h. record { stages = h.1.1.1.0.1.0.1; tuples = h.1.1.1.1.1.1.0.1.0.1 });
      };
    } in
    left_kept c.args.c boxed (sym c.could_be_left.ensures ∙ c.if-could_be_left.true)

pub returns-then-could_be_left : goal.returns-then-could_be_left
returns-then-could_be_left c =
    ap (λ (y : Carried). record { answer = Ok tt; carried = y }) c.feed.ensures
    ∙ feed_takes _ _ (sym c.could_be_left.ensures ∙ c.if-could_be_left.true)

pub returns-else-could_be_left : goal.returns-else-could_be_left
returns-else-could_be_left c =
    feed_twelve _ _ (sym c.could_be_left.ensures ∙ c.if-could_be_left.false)
