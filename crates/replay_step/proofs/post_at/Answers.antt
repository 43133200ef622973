use borrow.Author.Rules.{rules}
use mathlib.Core.Path.{◌≡◌, refl}
use Rattle.std.specs.Prelude.{Err}
use Rattle.rules.specs.declared.Refusal.TheVariants.{StopsEarly}
use Rattle.replay_step.proofs.Marks.{post_made, post_cut}
use Rattle.replay_step.proofs.post_at.Goals as goal

pub returns-in_err-k : goal.returns-in_err-k
returns-in_err-k c =
    let x : c.from_residual.result ≡ Err StopsEarly = search rules in
    rw x (post_cut _ _ _ c.take.ensures (λ v e. search rules))

pub returns : goal.returns
returns c =
    post_made _ _ _ c.take.ensures _ _ (search rules) refl
