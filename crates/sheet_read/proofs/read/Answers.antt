use mathlib.Core.Path.{sym, ap, subst, ◌∙◌}
use Rattle.laws.specs.Bits.{bits}
use Rattle.laws.proofs.Fields.{bits_bits}
use Rattle.sheet_carried.specs.declared.Carried.{Carried}
use Rattle.sheet_carried.specs.Reader.{close_of, run, start_of}
use Rattle.sheet_carried.specs.Kept.{Kept}
use Rattle.sheet_carried.proofs.Keeps.{kept_run, kept_start}
use Rattle.sheet_read.proofs.ByField.{by_field_lem}
use Rattle.sheet_read.proofs.read.Goals as goal

-- src/lib.rt:40:20
pub feed-requires : goal.feed-requires
feed-requires c =
    subst Kept (sym c.start.ensures) kept_start

-- src/lib.rt:40:5
pub close-requires : goal.close-requires
close-requires c =
    subst Kept (sym (c.feed.ensures ∙ ap (λ (s : Carried). run s (bits c.args.bytes.now)) c.start.ensures)) (kept_run start_of (bits c.args.bytes.now) kept_start (bits_bits c.args.bytes.now))

-- src/lib.rt:37:1
pub returns : goal.returns
returns c =
    c.close.ensures ∙ ap close_of (c.feed.ensures ∙ ap (λ (s : Carried). run s (bits c.args.bytes.now)) c.start.ensures) ∙ by_field_lem _
