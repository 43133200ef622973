use Rattle.std.proofs.Common.{◌-◌, ◌+◌, Ok, ap, sym, ◌∙◌}
use Rattle.std.proofs.lemmas.Result.{err_from_is_err_and}
use native.Mathlib.Omega.{arith}
use Rattle.text_line.specs.Lines.{most_stages}
use Rattle.text_line.proofs.Ways.{stage_more, stage_none, stage_faulty}
use Rattle.text_line.proofs.stages.Goals as goal

pub returns-in_err-g : goal.returns-in_err-g
returns-in_err-g c =
    let p = err_from_is_err_and c.from_residual.result c.from_residual.ensures.1 in
    rw (p.1, p.2) (sym (stage_faulty _ (most_stages c.args.version - c.loop.counter) (most_stages c.args.version - (c.loop.counter + 1)) (omega arith) _ _ _ _ (sym c.pair_at.ensures ∙ c.in_err-g.was)) ∙ c.loop.invariant)

pub returns-in-None : goal.returns-in-None
returns-in-None c =
    c.stages_end.ensures ∙ sym (stage_none _ (most_stages c.args.version - c.loop.counter) (most_stages c.args.version - (c.loop.counter + 1)) (omega arith) _ _ _ (sym c.pair_at.ensures ∙ c.in_ok-g.was ∙ ap Ok c.in-None.is)) ∙ c.loop.invariant

pub loop-preserved : goal.loop-preserved
loop-preserved c =
    rw c.add_stage-next.ensures (sym (stage_more _ (most_stages c.args.version - c.loop.counter) (most_stages c.args.version - (c.loop.counter + 1)) (omega arith) _ _ _ _ _ (sym c.pair_at.ensures ∙ c.in_ok-g.was ∙ ap Ok c.in-Some.is)) ∙ c.loop.invariant)
