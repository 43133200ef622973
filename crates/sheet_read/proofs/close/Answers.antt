use mathlib.Core.Path.{sym, ◌∙◌}
use Rattle.rules.specs.Streams.{FourPlaces}
use Rattle.rules.specs.contracts.Stream.{the_row}
use Rattle.sheet_carried.specs.Left.{Boxed}
use Rattle.laws.proofs.Arrays.{each_all}
use Rattle.sheet_read.proofs.Pieces.{close_takes, close_twelve, left_kept}
use Rattle.sheet_read.proofs.close.Goals as goal

pub close-requires : goal.close-requires
close-requires c =
    let set = c.well_formed.0.1.1.1.1.1.1.0 in
    let boxed : Boxed c.args.c = record {
      nine = c.well_formed.0.1.1.1.0.1.0.1;
      stages = c.well_formed.0.1.1.1.1.0.1.0.1;
      tuples = c.well_formed.0.1.1.1.1.1.0.1.0.1;
      placed = record {
        sixteen = set.1.1.1.0.1.0.1;
        four = each_all the_row.own_val c.args.c.set.streams _ set.1.1.1.0.1.1 FourPlaces (λ s u h. record { stages = h.1.1.1.0.1.0.1; tuples = h.1.1.1.1.1.1.0.1.0.1 });
      };
    } in
    left_kept c.args.c boxed (sym c.could_be_left.ensures ∙ c.if-could_be_left.true)

pub returns-then-could_be_left : goal.returns-then-could_be_left
returns-then-could_be_left c =
    c.close.ensures ∙ close_takes _ (sym c.could_be_left.ensures ∙ c.if-could_be_left.true)

pub returns-else-could_be_left : goal.returns-else-could_be_left
returns-else-could_be_left c =
    c.no_set.ensures ∙ close_twelve _ (sym c.could_be_left.ensures ∙ c.if-could_be_left.false)
