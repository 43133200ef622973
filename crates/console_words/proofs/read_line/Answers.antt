use Rattle.std.proofs.Common.{refl, rules}
use Rattle.answer_words.specs.Words.{read_words}
use Rattle.answer_words.proofs.Lengths.{read_short}
use Rattle.console_words.proofs.Lines.{told_is}
use Rattle.console_words.proofs.read_line.Goals as goal

pub returns : goal.returns
returns c = told_is (λ a. read_words a c.args.n) _ _ (read_short _ _) (λ why. refl) (λ x l p. search rules) c.told.ensures
