use Rattle.console_obey.proofs.Obeys.{nothing_step, unknown_step, set_step, state_step, question_step, replayed_step, record_step, cable_step, check_step, by_command, put_step}
use Rattle.console_obey.proofs.command_step.Goals as goal

pub returns-in-Nothing : goal.returns-in-Nothing
returns-in-Nothing c =
    let a = c.args in
    nothing_step a.d a.n a.text.now a.out.now a.at a.k c.in-Nothing.is

pub returns-in-Unknown : goal.returns-in-Unknown
returns-in-Unknown c =
    let a = c.args in
    put_step a.d a.n a.text.now a.out.now a.at a.k _ _ _ _ _ c.in-Unknown.is
    (λ end p. unknown_step a.d a.n a.text.now a.out.now a.at end _ _ c.unknown_line.ensures p)
    c.put.ensures

pub returns-in-Set : goal.returns-in-Set
returns-in-Set c =
    let a = c.args in
    put_step a.d a.n a.text.now a.out.now a.at a.k _ _ _ _ _ c.in-Set.is
    (λ end p. set_step a.d a.n a.text.now a.out.now a.at end _ _ a.bytes.now _ c.requires.0 c.after-a.ensures p)
    c.put-in-Set.ensures

pub returns-in-State : goal.returns-in-State
returns-in-State c =
    let a = c.args in
    put_step a.d a.n a.text.now a.out.now a.at a.k _ _ _ _ _ c.in-State.is
    (λ end p. state_step a.d a.n a.text.now a.out.now a.at end _ _ _ c.after-a-in-State.ensures p)
    c.put-in-State.ensures

pub returns-in-Ask : goal.returns-in-Ask
returns-in-Ask c =
    let a = c.args in
    by_command a.d a.n a.text.now a.out.now a.at a.k _ _ _ c.in-Ask.is
    (question_step a.d a.n a.text.now a.out.now a.at _ _ _ c.requires.1 c.ask-end.ensures)

pub returns-in-Replay : goal.returns-in-Replay
returns-in-Replay c =
    let a = c.args in
    put_step a.d a.n a.text.now a.out.now a.at a.k _ _ _ _ _ c.in-Replay.is
    (λ end p. replayed_step a.d a.n a.text.now a.out.now a.at end _ _ a.bytes.now _ c.requires.0 c.after-r.ensures p)
    c.put-in-Replay.ensures

pub returns-in-Record : goal.returns-in-Record
returns-in-Record c =
    let a = c.args in
    by_command a.d a.n a.text.now a.out.now a.at a.k _ _ _ c.in-Record.is
    (record_step a.d a.n a.text.now a.out.now a.at _ _ c.requires.1 c.record_onto-end.ensures)

pub returns-in-Cable : goal.returns-in-Cable
returns-in-Cable c =
    let a = c.args in
    put_step a.d a.n a.text.now a.out.now a.at a.k _ _ _ _ _ c.in-Cable.is
    (λ end p. cable_step a.d a.n a.text.now a.out.now a.at end _ _ a.bytes.now _ c.requires.0 c.after-a-in-Cable.ensures p)
    c.put-in-Cable.ensures

pub returns-in-Check : goal.returns-in-Check
returns-in-Check c =
    let a = c.args in
    put_step a.d a.n a.text.now a.out.now a.at a.k _ _ _ _ _ c.in-Check.is
    (λ end p. check_step a.d a.n a.text.now a.out.now a.at end _ _ _ c.after-a-in-Check.ensures p)
    c.put-in-Check.ensures
