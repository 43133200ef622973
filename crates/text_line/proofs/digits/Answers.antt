use Rattle.std.proofs.Common.{ap, length, ◌∙◌}
use Rattle.std.specs.Option.{unwrap_or}
use Rattle.text_line.proofs.Numbers.{digits_end, digits_take}
use Rattle.text_line.proofs.digits.Goals as goal

pub returns : goal.returns
returns c =
    let l = c.args.rest.now in
    rw (c.unwrap_or.ensures ∙ ap (λ o. unwrap_or o (length l)) c.first_other.ensures ∙ digits_end l) (digits_take l)
