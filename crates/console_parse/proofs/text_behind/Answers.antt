use Rattle.std.proofs.Common.{sym, ◌∙◌}
use borrow.Author.Tests.{eq-eqb, eqb-true}
use Rattle.console_parse.proofs.Nexts.{text_none, text_some, text_other, text_empty, not_true, not_false}
use Rattle.console_parse.proofs.text_behind.Goals.{then-first-eq32, else-first-eq32}
use Rattle.console_parse.proofs.text_behind.Goals as goal

pub returns-in-None : goal.returns-in-None
returns-in-None c = text_none _ _ c.in-None.ensures.cases

pub returns-then-not-is_empty : goal.returns-then-not-is_empty
returns-then-not-is_empty c =
    elim c.if-first-eq32.branch [
      | then-first-eq32 w ↦ text_some _ _ _ _ c.in-Some.ensures.cases.0 _ (eq-eqb _ 32 w.if-first-eq32.true) (sym w.is_empty.ensures ∙ not_true _ (sym w.value-is ∙ c.if-not-is_empty.true)) c.is_text.ensures
      | else-first-eq32 w ↦ absurd (w.if-first-eq32.false (eqb-true _ 32 (sym w.value-is ∙ c.if-not-is_empty.true)))
    ]

pub returns-else-not-is_empty : goal.returns-else-not-is_empty
returns-else-not-is_empty c =
    elim c.if-first-eq32.branch [
      | then-first-eq32 w ↦ c.if-not-is_empty.false ∙ text_empty _ _ _ _ c.in-Some.ensures.cases.0 (sym w.is_empty.ensures ∙ not_false _ (sym w.value-is ∙ c.if-not-is_empty.false))
      | else-first-eq32 w ↦ c.if-not-is_empty.false ∙ text_other _ _ _ _ c.in-Some.ensures.cases.0 (sym w.value-is ∙ c.if-not-is_empty.false)
    ]
