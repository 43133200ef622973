-- `close` does what `read` of the joined bytes does, on the whole desk.
-- Assumes nothing.
use Prim.Native.Nat.{ℕ}
use mathlib.Core.Path.{◌≡◌, sym, ap, ◌∙◌}
use mathlib.Core.List.{List}
use Rattle.laws.specs.Lists.{All}
use Rattle.rules.specs.Sheet.{read_of}
use Rattle.rules.specs.Pieces.{Piece, joined}
use Rattle.sheet_carried.specs.declared.Carried.{Carried}
use Rattle.ascii.specs.Hex.{unhexed}
use Rattle.console_names.specs.declared.Command.TheVariants.{Set, Cable}
use Rattle.console_names.specs.declared.SetCommand.TheVariants.{Read}
use Rattle.console_names.specs.declared.CableCommand.TheVariants.{Close}
use Rattle.console_set.specs.SetCommands.{set_line}
use Rattle.console_cable.specs.CableCommands.{first_carried, closed_line, set_behind, carried_behind, fed_pieces, ClosesAs, ClosesJoined}
use Rattle.console_cable.proofs.Joined.{closes_joined}
use Rattle.console_obey.specs.declared.Desk.{Desk}
use Rattle.console_obey.specs.Obeyed.{Does}

-- these pieces were fed since the carried state was new; `hex` stands behind `read`, and is the joined bytes; `close` leaves e and prints v
module _ (ps : List (List ℕ)) (are : All Piece ps) (d : Desk) (fed : d.carried ≡ fed_pieces ps first_carried) (ns text hex : List ℕ) (same : unhexed hex ≡ joined ps) (e : Desk) (v : List ℕ) (closed : Does (Cable Close) ns text d e v) where
  joins : ClosesAs (joined ps) (fed_pieces ps first_carried)
  unfolding ClosesJoined
  joins = closes_joined ps are

  -- "does what it does with the set"
  pub close_is_read : (f : Desk) (w : List ℕ) → Does (Set Read) ns hex d f w → e.set ≡ f.set
  close_is_read f w read =
      ap (λ (g : Desk). g.set) closed.0
      ∙ ap (λ (c : Carried). set_behind c d.set) fed
      ∙ joins.set d.set
      ∙ ap (λ (s : List ℕ). (read_of s).set) (sym same)
      ∙ sym (ap (λ (g : Desk). g.set) read.0)

  -- "prints what `read` prints for the joined bytes"
  pub close_prints_read : (f : Desk) (w : List ℕ) → Does (Set Read) ns hex d f w → v ≡ w
  close_prints_read f w read = closed.1 ∙ ap closed_line fed ∙ joins.line ∙ ap (set_line Read) (sym same) ∙ sym read.1

  -- "the carried state is new again"
  pub close_is_new : e.carried ≡ first_carried
  close_is_new = ap (λ (g : Desk). g.carried) closed.0 ∙ ap carried_behind fed ∙ joins.carried
