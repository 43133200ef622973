use native.Mathlib.Omega.{arith}
use Rattle.load_resume.proofs.Gone.{goes_on_lem, accepts, is_late, late_in, not_refused}
use Rattle.load_resume.proofs.go_until.Goals as goal

pub through-requires : goal.through-requires
through-requires c =
    let a = c.args in
    let r = c.requires in
    let l = late_in a.x a.from a.n a.end r.0 r.1 r.2 c.min-count.result c.in-Ok-Some.i c.in-Ok-Some.w c.min-count.ensures (rw c.in-Ok-Some.field-0-is at c.in-Ok-Some.ensures) in
    (l.0, omega (arith, l.1))

pub returns-in-Ok-Some : goal.returns-in-Ok-Some
returns-in-Ok-Some c =
    let a = c.args in
    let r = c.requires in
    is_late a.x a.from a.n a.end r.0 r.1 r.2 c.min-count.result c.in-Ok-Some.i c.in-Ok-Some.w c.through.result c.min-count.ensures (rw c.in-Ok-Some.field-0-is at c.in-Ok-Some.ensures) c.through.ensures

pub returns-in-Ok-None : goal.returns-in-Ok-None
returns-in-Ok-None c =
    let a = c.args in
    let r = c.requires in
    accepts a.x a.from a.n a.end r.0 r.1 r.2 c.min-count.result c.min-count.ensures (rw c.in-Ok-None.field-0-is at c.in-Ok-None.ensures) c.if-end-stop.true

pub returns-in_default : goal.returns-in_default
returns-in_default c =
    let a = c.args in
    let r = c.requires in
    goes_on_lem a.x a.from a.n a.end r.0 r.1 r.2 c.min-count.result c.min-count.ensures (rw c.in-Ok-None.field-0-is at c.in-Ok-None.ensures) c.if-end-stop.false

pub returns-in_default-2 : goal.returns-in_default-2
returns-in_default-2 c =
    let a = c.args in
    let r = c.requires in
    absurd (not_refused a.x a.from a.n a.end r.0 r.1 r.2 _ c.in_default.field-0 (rw c.in_default.is at c.test_lengths.ensures))
