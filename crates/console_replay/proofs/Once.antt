-- What `record` prints is one: two results that are allowed for one input are the same.
-- Assumes nothing.
use Prim.Native.Nat.{ℕ}
use mathlib.Core.Path.{◌≡◌, refl, sym, ◌∙◌}
use mathlib.Core.Bool.{Bool, true, false}
use mathlib.Core.List.{List}
use Rattle.page.specs.Pages.{room_for}
use Rattle.page.proofs.Pieces.{onto_once}
use Rattle.console_replay.specs.Records.{record_lines, record_room, RecordsIf, Records}

pub records_once : (trace : List ℕ) (len : ℕ) (out : List ℕ) (at e f : ℕ) (p q : List ℕ) → Records trace len out at e p → Records trace len out at f q → (e ≡ f) × (p ≡ q)
records_once trace len out at e f p q = go (room_for out at record_room)
  where
    go : (room : Bool) → RecordsIf room trace len out at e p → RecordsIf room trace len out at f q → (e ≡ f) × (p ≡ q)
    go true t u = onto_once out (record_lines trace len) (record_lines trace len) at e f p q refl t u
    go false t u = (t.0 ∙ sym u.0, t.1 ∙ sym u.1)
