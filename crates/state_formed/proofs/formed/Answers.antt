use mathlib.Core.Path.{ap, ◌∙◌}
use mathlib.Core.List.{List}
use Rattle.std.specs.Result.{result_ok}
use Rattle.std.specs.List.{list_all}
use Rattle.rules.specs.declared.Message.{Message}
use Rattle.rules.specs.States.{message_unused}
use Rattle.state_formed.specs.InRange.{messages_pass}
use Rattle.state_parties.specs.Shares.{shared_of}
use Rattle.state_formed.proofs.Whole.{count_no, clock_no, messages_no, unused_no, waits_no, parties_no, all_yes}
use Rattle.state_formed.proofs.formed.Goals.{then-s-gt64-via-then-s-gt64, then-s-gt64-via-else-s-gt64+then-s-gt-LAST_CLOCK}
use Rattle.state_formed.proofs.formed.Goals.{then-not-messages_pass-via-then-not-messages_pass, then-not-messages_pass-via-else-not-messages_pass+then-not-places_unused}
use Rattle.state_formed.proofs.formed.Goals as goal

pub returns-then-s-gt64 : goal.returns-then-s-gt64
returns-then-s-gt64 c =
    elim c.then-s-gt64.branch [
      | then-s-gt64-via-then-s-gt64 w ↦ count_no _ w.if-s-gt64.true
      | then-s-gt64-via-else-s-gt64+then-s-gt-LAST_CLOCK w ↦ clock_no _ w.if-s-gt-LAST_CLOCK.true
    ]

pub returns-then-not-messages_pass : goal.returns-then-not-messages_pass
returns-then-not-messages_pass c =
    let front = c.split_at.ensures.front in
    let back = c.split_at.ensures.back in
    elim c.then-not-messages_pass.branch [
      | then-not-messages_pass-via-then-not-messages_pass w ↦
          messages_no _ (w.if-not-messages_pass.ensures ∙ ap (λ (l : List Message). messages_pass c.args.s.now.set c.args.s.now.clock l) front)
      | then-not-messages_pass-via-else-not-messages_pass+then-not-places_unused w ↦
          unused_no _ (w.if-not-places_unused.ensures ∙ ap (list_all message_unused) back)
    ]

pub returns-in_err-later : goal.returns-in_err-later
returns-in_err-later c =
    c.from_residual.ensures ∙ waits_no _ c.in_err-later.ensures

pub returns-in_err-held : goal.returns-in_err-held
returns-in_err-held c =
    let s = c.args.s.now in
    c.from_residual-in_err-held.ensures
    ∙ parties_no _ (c.in_err-held.ensures.value ∙ ap result_ok (c.share.ensures ∙ ap (λ (l : List Message). shared_of l s.owners s.set.count s.places) c.split_at.ensures.front))

pub returns : goal.returns
returns c =
    let s = c.args.s.now in
    let front = c.split_at.ensures.front in
    all_yes s c.if-s-gt64.false c.if-s-gt-LAST_CLOCK.false
    (c.if-not-messages_pass.ensures ∙ ap (λ (l : List Message). messages_pass s.set s.clock l) front)
    (c.if-not-places_unused.ensures ∙ ap (list_all message_unused) c.split_at.ensures.back)
    _ c.in_ok-later.ensures
    _ (c.in_ok-held.ensures.value ∙ ap result_ok (c.share.ensures ∙ ap (λ (l : List Message). shared_of l s.owners s.set.count s.places) front))
