use mathlib.Core.Path.{◌≡◌}
use native.Mathlib.Omega.{arith}
use borrow.Author.Rules.{rules}
use Rattle.std.specs.Prelude.{Err}
use Rattle.rules.specs.declared.Refusal.TheVariants.{ShortBuffer}
use Rattle.laws.proofs.Fields.{are_bytes_of}
use Rattle.record_call.proofs.Putting.{put_done, put_full}
use Rattle.record_call.proofs.put.Goals as goal

pub returns-in_err-map_err : goal.returns-in_err-map_err
returns-in_err-map_err c =
    let x : c.from_residual.result ≡ Err ShortBuffer = search rules in
    rw x (put_full c.args.buf.now c.put.new.buf c.args.at c.args.width c.args.v c.put.result c.requires.1 c.requires.2 c.put.ensures.0
    (are_bytes_of c.args.buf.now (λ i. search rules)) (are_bytes_of c.put.new.buf (λ i. search rules)) c.put.ensures.1 (λ e. search rules))

pub returns : goal.returns
returns c =
    put_done c.args.buf.now c.put.new.buf c.args.at c.args.width c.args.v c.put.result c.requires.1 c.requires.2 c.put.ensures.0
    (are_bytes_of c.args.buf.now (λ i. search rules)) (are_bytes_of c.put.new.buf (λ i. search rules)) c.put.ensures.1 (omega arith) _ c.after.ensures.byte c.after.ensures.bit (search rules)
