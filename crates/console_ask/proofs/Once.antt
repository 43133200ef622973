-- A question is answered in one way.
-- Assumes nothing.
use Prim.Native.Nat.{ℕ}
use mathlib.Core.Path.{◌≡◌, sym, ap, ◌∙◌}
use mathlib.Core.Bool.{Bool, true, false}
use mathlib.Core.List.{List}
use Rattle.rules.specs.declared.Set.{Set}
use Rattle.rules.specs.declared.State.{State}
use Rattle.rules.specs.declared.Verdict.{Verdict as Judgement}
use Rattle.rules.specs.Numbers.{verdict_says}
use Rattle.rules.proofs.Verdicts.{verdict_unique}
use Rattle.answer_words.specs.Words.{says, line_of}
use Rattle.page.specs.Pages.{room_for}
use Rattle.page.proofs.Pieces.{onto_once}
use Rattle.console_names.specs.declared.Question.{Question}
use Rattle.console_names.specs.declared.Question.TheVariants.{Write, Valid, Limit, Demand, Jitter, Verdict, Choose, State as Shown, Formed}
use Rattle.console_ask.specs.Questions.{Prints, AnsweredIf, Asks, answer_room}

-- a question prints one string of bytes
pub prints_once : (q : Question) (ns : List ℕ) (x : Set) (s : State) (v w : List ℕ) → Prints q ns x s v → Prints q ns x s w → v ≡ w
prints_once Write ns x s v w p q = p ∙ sym q
prints_once Valid ns x s v w p q = p ∙ sym q
prints_once Limit ns x s v w p q = p ∙ sym q
prints_once Demand ns x s v w p q = p ∙ sym q
prints_once Jitter ns x s v w p q = p ∙ sym q
prints_once Verdict ns x s v w p q =
    p.line
    ∙ ap (λ (j : Judgement). line_of (says (verdict_says j))) (verdict_unique x p.given q.given p.is_verdict q.is_verdict)
    ∙ sym q.line
prints_once Choose ns x s v w p q = p ∙ sym q
prints_once Shown ns x s v w p q = p ∙ sym q
prints_once Formed ns x s v w p q = p ∙ sym q

-- two results that are allowed for one input are the same
pub asks_once : (a : Question) (ns : List ℕ) (x : Set) (s : State) (out : List ℕ) (at e f : ℕ) (p q : List ℕ)
    → Asks a ns x s out at e p → Asks a ns x s out at f q → (e ≡ f) × (p ≡ q)
asks_once a ns x s out at e f p q = go (room_for out at answer_room)
  where
    go : (room : Bool) → AnsweredIf room a ns x s out at e p → AnsweredIf room a ns x s out at f q → (e ≡ f) × (p ≡ q)
    go true t u = onto_once out t.bytes u.bytes at e f p q (prints_once a ns x s t.bytes u.bytes t.prints u.prints) t.onto u.onto
    go false t u = (t.0 ∙ sym u.0, t.1 ∙ sym u.1)
