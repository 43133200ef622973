use Rattle.std.proofs.Common.{ap, length, ◌∙◌}
use Rattle.std.specs.Option.{unwrap_or}
use Rattle.console_parse.proofs.Words.{front_at}
use Rattle.console_parse.proofs.word_len.Goals as goal

pub returns : goal.returns
returns c =
    let l = c.args.rest.now in
    c.unwrap_or.ensures ∙ ap (λ o. unwrap_or o (length l)) c.first_space.ensures ∙ front_at l
