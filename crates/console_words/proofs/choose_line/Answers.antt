use Rattle.std.proofs.Common.{refl, rules}
use Rattle.rules.specs.Numbers.{choose_says}
use Rattle.answer_words.specs.Words.{says}
use Rattle.answer_words.proofs.Lengths.{says_short}
use Rattle.console_words.proofs.Lines.{told_is}
use Rattle.console_words.proofs.choose_line.Goals as goal

pub returns : goal.returns
unfolding says
returns c = told_is (λ a. says (choose_says a)) _ _ (says_short _) (λ why. refl) (λ x l p. search rules) c.told.ensures
