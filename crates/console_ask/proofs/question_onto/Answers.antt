use mathlib.Core.Path.{refl}
use Rattle.rules.specs.Numbers.{choose_says, count_says, jitter_says, verdict_says}
use Rattle.console_words.specs.Words.{valid_words, formed_words}
use Rattle.console_ask.proofs.Answers.{answered, line_answered, says_answered, valid_words_lem, formed_words_lem}
use Rattle.console_ask.proofs.question_onto.Goals as goal

pub returns-in-Write : goal.returns-in-Write
returns-in-Write c =
    let a = c.args in
    answered a.q a.n a.x a.s a.out.now a.at _ _ _ (rw c.in-Write.is refl) c.write_onto.ensures

pub returns-in-Valid : goal.returns-in-Valid
returns-in-Valid c =
    let a = c.args in
    line_answered a.q a.n a.x a.s a.out.now a.at _ _ (valid_words c.is_valid.result) _ (valid_words_lem c.is_valid.result) (rw (c.in-Valid.is, c.is_valid.ensures))
    c.valid_line.ensures c.append.ensures

pub returns-in-Limit : goal.returns-in-Limit
returns-in-Limit c =
    let a = c.args in
    says_answered a.q a.n a.x a.s a.out.now a.at _ _ (count_says c.event_limit.result) _ (rw (c.in-Limit.is, c.event_limit.ensures))
    c.count_line.ensures c.append-in-Limit.ensures

pub returns-in-Demand : goal.returns-in-Demand
returns-in-Demand c =
    let a = c.args in
    says_answered a.q a.n a.x a.s a.out.now a.at _ _ (count_says c.demand.result) _ (rw (c.in-Demand.is, c.demand.ensures))
    c.count_line-in-Demand.ensures c.append-in-Demand.ensures

pub returns-in-Jitter : goal.returns-in-Jitter
returns-in-Jitter c =
    let a = c.args in
    says_answered a.q a.n a.x a.s a.out.now a.at _ _ (jitter_says c.jittered.result) _ (rw (c.in-Jitter.is, c.jittered.ensures))
    c.jitter_line.ensures c.append-in-Jitter.ensures

pub returns-in-Verdict : goal.returns-in-Verdict
returns-in-Verdict c =
    let a = c.args in
    says_answered a.q a.n a.x a.s a.out.now a.at _ _ (verdict_says c.verdict.result) _
    (rw c.in-Verdict.is (record { given = c.verdict.result; is_verdict = c.verdict.ensures; line = refl }))
    c.verdict_line.ensures c.append-in-Verdict.ensures

pub returns-in-Choose : goal.returns-in-Choose
returns-in-Choose c =
    let a = c.args in
    says_answered a.q a.n a.x a.s a.out.now a.at _ _ (choose_says c.choose.result) _ (rw (c.in-Choose.is, c.choose.ensures))
    c.choose_line.ensures c.append-in-Choose.ensures

pub returns-in-State : goal.returns-in-State
returns-in-State c =
    let a = c.args in
    answered a.q a.n a.x a.s a.out.now a.at _ _ _ (rw c.in-State.is refl) c.state_onto.ensures

pub returns-in-Formed : goal.returns-in-Formed
returns-in-Formed c =
    let a = c.args in
    line_answered a.q a.n a.x a.s a.out.now a.at _ _ (formed_words c.well_formed-in-Formed.result) _ (formed_words_lem c.well_formed-in-Formed.result) (rw (c.in-Formed.is, c.well_formed-in-Formed.ensures))
    c.formed_line.ensures c.append-in-Formed.ensures
