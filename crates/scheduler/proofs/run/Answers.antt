use Rattle.std.proofs.Common.{rules, arith, ◌≡◌, ◌+◌, eqb, refl, sym, ◌∙◌, Err}
use Rattle.rules.specs.Steps.{message_at}
use Rattle.state_choosing.proofs.Looking.{looked_ok}
use Rattle.scheduler.specs.Serving.{departs}
use Rattle.scheduler.proofs.Serving.{moving_go, moved_up, leaves, stays, leaves_done, leaves_spent, unit_12, unit_3, unit_4, unit_idle, unit_serves, serving}
use Rattle.scheduler.proofs.run.Goals.{then-done-2, else-done-2}
use Rattle.scheduler.proofs.run.Goals as goal

pub returns-in_err-found : goal.returns-in_err-found
returns-in_err-found c =
    let f : c.from_residual.result ≡ Err c.in_err-found.field-0.0 = search rules in
    rw f (unit_12 c.args.s.now c.args.done _ c.in_err-found.ensures.told)

pub returns-then-s-ge-LAST_CLOCK : goal.returns-then-s-ge-LAST_CLOCK
returns-then-s-ge-LAST_CLOCK c =
    unit_3 c.args.s.now c.args.done _ c.in_ok-found.ensures.told c.if-s-ge-LAST_CLOCK.true

pub returns-then-done : goal.returns-then-done
returns-then-done c =
    unit_4 c.args.s.now c.args.done _ c.in_ok-found.ensures.told c.if-s-ge-LAST_CLOCK.false c.in_default.is c.if-done.true

pub returns-in_default : goal.returns-in_default
returns-in_default c =
    unit_idle c.args.s.now c.args.done _ c.in_ok-found.ensures.told c.if-s-ge-LAST_CLOCK.false c.in_default.is c.if-done.false

pub offset_bounds-s-it : goal.offset_bounds-s-it
offset_bounds-s-it c =
    let facts = serving c.args.s.now c.args.done _ c.in_ok-found.ensures.told c.if-s-ge-LAST_CLOCK.false _ c.in-Some.is (search rules) (search rules) in
    omega (arith, facts.place)

pub bounds-s-it : goal.bounds-s-it
bounds-s-it c =
    let facts = serving c.args.s.now c.args.done _ c.in_ok-found.ensures.told c.if-s-ge-LAST_CLOCK.false _ c.in-Some.is (search rules) (search rules) in
    facts.place

pub overflow_add-spent : goal.overflow_add-spent
overflow_add-spent c =
    let facts = serving c.args.s.now c.args.done _ c.in_ok-found.ensures.told c.if-s-ge-LAST_CLOCK.false _ c.in-Some.is (search rules) (search rules) in
    omega (arith, facts.used)

pub loop-k-init : goal.loop-k-init
loop-k-init c =
    let facts = serving c.args.s.now c.args.done _ c.in_ok-found.ensures.told c.if-s-ge-LAST_CLOCK.false _ c.in-Some.is (search rules) (search rules) in
    record { set = refl; clock = refl; waits = refl; owners = refl; places = refl; few = facts.few; here = facts.here; long = facts.long; moved = refl; rest = facts.rest }

pub loop-k-preserved : goal.loop-k-preserved
loop-k-preserved c =
    moving_go _ _ _ _ c.loop-k.invariant c.loop-k-test.true

pub stepped-requires : goal.stepped-requires
stepped-requires c =
    let facts = serving c.args.s.now c.args.done _ c.in_ok-found.ensures.told c.if-s-ge-LAST_CLOCK.false _ c.in-Some.is (search rules) (search rules) in
    (facts.used, facts.stage)

pub offset_bounds-s-it-else-leaves : goal.offset_bounds-s-it-else-leaves
offset_bounds-s-it-else-leaves c =
    let facts = serving c.args.s.now c.args.done _ c.in_ok-found.ensures.told c.if-s-ge-LAST_CLOCK.false _ c.in-Some.is (search rules) (search rules) in
    omega (arith, facts.place)

pub bounds-s-it-else-leaves : goal.bounds-s-it-else-leaves
bounds-s-it-else-leaves c =
    let facts = serving c.args.s.now c.args.done _ c.in_ok-found.ensures.told c.if-s-ge-LAST_CLOCK.false _ c.in-Some.is (search rules) (search rules) in
    facts.place

pub returns-after-loop-k : goal.returns-after-loop-k
returns-after-loop-k c =
    let s = c.args.s.now in
    let it = c.in-Some.it in
    let facts = serving s c.args.done _ c.in_ok-found.ensures.told c.if-s-ge-LAST_CLOCK.false _ c.in-Some.is (search rules) (search rules) in
    let later = (looked_ok s _ c.in_ok-found.ensures.told).2 in
    let whole = unit_serves s c.args.done _ c.in_ok-found.ensures.told c.if-s-ge-LAST_CLOCK.false _ c.in-Some.is in
    let e : c.if-done-2.leaves ≡ departs c.args.done (eqb ((message_at s it.place).used + 1) it.cost) it.last = elim c.if-done-2.branch [
      | then-done-2 w ↦ leaves_done _ _ _ _ w.if-done-2.true w.leaves-is
      | else-done-2 w ↦ leaves_spent _ _ _ _ w.if-done-2.false w.leaves-is
    ] in
    rw c.no_message.ensures (moved_up _ _ _ _ _ c.loop-k.invariant c.loop-k-test.false)
    ∙ leaves _ _ _ _ _ _ facts.task facts.cost facts.last _ c.served-outcome.ensures _ later (sym e ∙ c.if-leaves.true) ∙ whole

pub returns-else-leaves : goal.returns-else-leaves
returns-else-leaves c =
    let s = c.args.s.now in
    let it = c.in-Some.it in
    let facts = serving s c.args.done _ c.in_ok-found.ensures.told c.if-s-ge-LAST_CLOCK.false _ c.in-Some.is (search rules) (search rules) in
    let later = (looked_ok s _ c.in_ok-found.ensures.told).2 in
    let whole = unit_serves s c.args.done _ c.in_ok-found.ensures.told c.if-s-ge-LAST_CLOCK.false _ c.in-Some.is in
    let e : c.if-done-2.leaves ≡ departs c.args.done (eqb ((message_at s it.place).used + 1) it.cost) it.last = elim c.if-done-2.branch [
      | then-done-2 w ↦ leaves_done _ _ _ _ w.if-done-2.true w.leaves-is
      | else-done-2 w ↦ leaves_spent _ _ _ _ w.if-done-2.false w.leaves-is
    ] in
    rw c.stepped.ensures (stays _ _ _ _ _ _ facts.task facts.cost facts.last _ c.served-outcome.ensures _ later (sym e ∙ c.if-leaves.false)) ∙ whole

pub offset_bounds-s-k : goal.offset_bounds-s-k
offset_bounds-s-k c =
    omega (arith, c.loop-k-test.true, c.loop-k.invariant.few)

pub bounds-s-k : goal.bounds-s-k
bounds-s-k c =
    omega (arith, c.loop-k-test.true, c.loop-k.invariant.few)

pub offset_bounds-s-k-in-loop-k : goal.offset_bounds-s-k-in-loop-k
offset_bounds-s-k-in-loop-k c =
    omega (arith, c.loop-k-test.true, c.loop-k.invariant.few)

pub bounds-s-k-in-loop-k : goal.bounds-s-k-in-loop-k
bounds-s-k-in-loop-k c =
    omega (arith, c.loop-k-test.true, c.loop-k.invariant.few)

pub offset_bounds-s-end : goal.offset_bounds-s-end
offset_bounds-s-end c =
    omega (arith, c.loop-k.invariant.few)

pub bounds-s-end : goal.bounds-s-end
bounds-s-end c =
    omega (arith, c.loop-k.invariant.few)
