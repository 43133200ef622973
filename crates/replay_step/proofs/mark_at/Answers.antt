use native.Mathlib.Omega.{arith}
use borrow.Author.Rules.{rules}
use mathlib.Core.Path.{◌≡◌, ap, ◌∙◌}
use Prim.Native.Nat.{ℕ, ◌+◌, ◌*◌}
use lib.ListN.{drop}
use Rattle.std.specs.Prelude.{Err}
use Rattle.laws.specs.Bits.{bits}
use Rattle.rules.specs.declared.Refusal.TheVariants.{StopsEarly}
use Rattle.rules.specs.Recordings.{kind_mark}
use Rattle.replay_step.proofs.Marks.{kind_made, kind_cut}
use Rattle.replay_step.proofs.mark_at.Goals as goal

pub returns-in_err-kind : goal.returns-in_err-kind
returns-in_err-kind c =
    let x : c.from_residual.result ≡ Err StopsEarly = search rules in
    rw x (kind_cut _ _ _ c.take.ensures (λ v e. search rules))

pub returns : goal.returns
returns c =
    let at : 8 * c.args.at.byte + (c.args.at.bit + 2) ≡ 8 * c.args.at.byte + c.args.at.bit + 2 = omega arith in
    kind_made _ _ _ c.take.ensures c.in_ok-kind.kind _ (search rules)
    (c.kind_at.ensures ∙ ap (λ (n : ℕ). kind_mark c.in_ok-kind.kind (drop n (bits c.args.recording.now))) at)
