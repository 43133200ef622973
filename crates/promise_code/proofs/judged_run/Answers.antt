use mathlib.Core.Path.{◌∙◌, subst}
use Rattle.rules.specs.contracts.Stream.{the_row}
use Rattle.rules.specs.Streams.{Placed, FourPlaces}
use Rattle.rules.specs.Load.{VerdictOf}
use Rattle.promise_demand3.proofs.Alone.{never_missed_alone}
use Rattle.laws.proofs.Arrays.{each_all}
use Rattle.promise_code.proofs.judged_run.Goals as goal

pub returns : goal.returns
returns c =
    let placed : Placed c.args.x = record {
      sixteen = c.well_formed.0.1.1.1.0.1.0.1;
      four = each_all the_row.own_val c.args.x.streams _ c.well_formed.0.1.1.1.0.1.1 FourPlaces (λ s u h. record { stages = h.1.1.1.0.1.0.1; tuples = h.1.1.1.1.1.1.0.1.0.1 });
    } in
    let v = c.verdict-verdict.ensures in
    let end = c.run-end.ensures in
    record {
      verdict = v;
      state = end.state;
      missed = end.missed;
      in_time = λ e keeps. end.missed ∙ never_missed_alone c.args.x placed (subst (VerdictOf c.args.x) e v) _ keeps;
    }
