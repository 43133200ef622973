-- A command of the check leaves one position and prints one line, and a line has room for it.
-- Assumes nothing.
use Prim.Native.Nat.{ℕ, ◌≤◌}
use native.Mathlib.Omega.{arith}
use mathlib.Core.List.{List}
use mathlib.Core.Path.{◌≡◌, ap, ap₂, sym, ◌∙◌}
use lib.ListN.{length}
use Rattle.rules.specs.declared.Set.{Set}
use Rattle.rules.specs.declared.Position.{Position}
use Rattle.rules.specs.declared.Verdict.{Verdict}
use Rattle.rules.specs.declared.Progress.{Progress}
use Rattle.rules.specs.declared.Refusal.{Refusal}
use Rattle.std.specs.Prelude.{Result}
use Rattle.rules.specs.Numbers.{open_says, go_says}
use Rattle.rules.proofs.Resumed.{open_unique, go_unique}
use Rattle.line.specs.declared.Line.{Line}
use Rattle.line.specs.Line.{line_room, holding}
use Rattle.answer_words.specs.Words.{says, line_of}
use Rattle.answer_words.proofs.Lengths.{says_short, line_short}
use Rattle.console_names.specs.Rows.{nth}
use Rattle.console_names.specs.declared.CheckCommand.{CheckCommand}
use Rattle.console_names.specs.declared.CheckCommand.TheVariants.{Open, Go, Resume}
use Rattle.console_check.specs.declared.CheckAfter.{CheckAfter}
use Rattle.console_check.specs.CheckCommands.{open_keeps, Opens, go_keeps, Goes, Checked, OnLine}

opens_once : (x : Set) (p q r : Position) (v w : List ℕ) → Opens x p q v → Opens x p r w → (q ≡ r) × (v ≡ w)
opens_once x p q r v w y z =
    let same : y.given ≡ z.given = open_unique x y.given z.given y.is_opening z.is_opening in (
      y.position ∙ ap (λ (g : Result Position Verdict). open_keeps g p) same ∙ sym z.position,
      y.line ∙ ap (λ (g : Result Position Verdict). line_of (says (open_says g))) same ∙ sym z.line,
    )

goes_once : (p : Position) (n : ℕ) (q r : Position) (v w : List ℕ) → Goes p n q v → Goes p n r w → (q ≡ r) × (v ≡ w)
goes_once p n q r v w y z =
    let same : y.given ≡ z.given = go_unique p n y.given z.given y.is_call z.is_call in (
      y.position ∙ ap (λ (g : Result Progress Refusal). go_keeps g p) same ∙ sym z.position,
      y.line ∙ ap (λ (g : Result Progress Refusal). line_of (says (go_says g))) same ∙ sym z.line,
    )

module _ (k : CheckCommand) (ns : List ℕ) (x : Set) (p : Position) where
  pub checked_once : (q r : Position) (v w : List ℕ) → Checked k ns x p q v → Checked k ns x p r w → (q ≡ r) × (v ≡ w)
  checked_once q r v w = go k
    where
      go : (c : CheckCommand) → Checked c ns x p q v → Checked c ns x p r w → (q ≡ r) × (v ≡ w)
      go Open y z = opens_once x p q r v w y z
      go Go y z = goes_once p (nth ns 0) q r v w y z
      go Resume y z = (y.0 ∙ sym z.0, y.1 ∙ sym z.1)

  pub after_once : (r s : CheckAfter) → OnLine (Checked k ns x p) r → OnLine (Checked k ns x p) s → r ≡ s
  after_once r s y z =
      let same = checked_once r.position s.position y.bytes z.bytes y.so z.so in
      ap₂ (λ (q : Position) (l : Line). record { position = q; line = l }) same.0 (y.line ∙ ap holding same.1 ∙ sym z.line)

  pub checked_short : (q : Position) (w : List ℕ) → Checked k ns x p q w → length w ≤ line_room
  checked_short q w = go k
    where
      go : (c : CheckCommand) → Checked c ns x p q w → length w ≤ line_room
      go Open y = omega (arith, ap length y.line, line_short (says (open_says y.given)) (says_short (open_says y.given)))
      go Go y = omega (arith, ap length y.line, line_short (says (go_says y.given)) (says_short (go_says y.given)))
      go Resume y = omega (arith, ap length y.1)
