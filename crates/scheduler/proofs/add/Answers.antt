use Rattle.std.proofs.Common.{rules, arith, ◌≡◌, length, sym, ◌∙◌, Err, None}
use Rattle.rules.specs.declared.Refusal.TheVariants.{IllFormed}
use Rattle.state_formed.proofs.WellFormed.{blank}
use Rattle.scheduler.proofs.Ways.{post_12, post_1, post_15, post_2, post_place, post_fits, wait_fits, room_left, posted}
use Rattle.scheduler.proofs.add.Goals as goal

pub returns-in_err-tested : goal.returns-in_err-tested
returns-in_err-tested c =
    let e : c.inspect.result ≡ None = c.in_err-tested.ensures.ok_part in
    let f : c.from_residual.result ≡ Err IllFormed = search rules in
    rw f (post_12 c.args.s.now c.args.k (sym e ∙ c.inspect.ensures))

pub returns-then-s-k : goal.returns-then-s-k
returns-then-s-k c =
    post_1 c.args.s.now c.args.k _ (sym c.in_ok-tested.ensures.ok_part ∙ c.inspect.ensures) c.if-s-k.true

pub bounds-s-k : goal.bounds-s-k
bounds-s-k c =
    post_place c.args.s.now c.args.k _ (sym c.in_ok-tested.ensures.ok_part ∙ c.inspect.ensures) c.if-s-k.false

pub bounds-s-k-2 : goal.bounds-s-k-2
bounds-s-k-2 c =
    post_place c.args.s.now c.args.k _ (sym c.in_ok-tested.ensures.ok_part ∙ c.inspect.ensures) c.if-s-k.false

pub bounds-s-k-3 : goal.bounds-s-k-3
bounds-s-k-3 c =
    post_place c.args.s.now c.args.k _ (sym c.in_ok-tested.ensures.ok_part ∙ c.inspect.ensures) c.if-s-k.false

pub bounds-s-k-4 : goal.bounds-s-k-4
bounds-s-k-4 c =
    post_place c.args.s.now c.args.k _ (sym c.in_ok-tested.ensures.ok_part ∙ c.inspect.ensures) c.if-s-k.false

pub offset_bounds-s-k : goal.offset_bounds-s-k
offset_bounds-s-k c =
    omega (arith, post_place c.args.s.now c.args.k _ (sym c.in_ok-tested.ensures.ok_part ∙ c.inspect.ensures) c.if-s-k.false)

pub offset_bounds-s-k-2 : goal.offset_bounds-s-k-2
offset_bounds-s-k-2 c =
    omega (arith, post_place c.args.s.now c.args.k _ (sym c.in_ok-tested.ensures.ok_part ∙ c.inspect.ensures) c.if-s-k.false)

pub offset_bounds-s-k-3 : goal.offset_bounds-s-k-3
offset_bounds-s-k-3 c =
    omega (arith, post_place c.args.s.now c.args.k _ (sym c.in_ok-tested.ensures.ok_part ∙ c.inspect.ensures) c.if-s-k.false)

pub returns-then-is_shut : goal.returns-then-is_shut
returns-then-is_shut c =
    post_15 c.args.s.now c.args.k _ (sym c.in_ok-tested.ensures.ok_part ∙ c.inspect.ensures) c.if-s-k.false (search rules) (search rules) _ _ c.door_of-door.ensures _ c.is_shut.ensures c.if-is_shut.true

pub returns-then-not-has_place : goal.returns-then-not-has_place
returns-then-not-has_place c =
    post_2 c.args.s.now c.args.k _ (sym c.in_ok-tested.ensures.ok_part ∙ c.inspect.ensures) c.if-s-k.false (search rules) (search rules) _ _ c.door_of-door.ensures _ c.is_shut.ensures _ c.has_place.ensures c.if-is_shut.false c.if-not-has_place.true

pub overflow_add-deadline : goal.overflow_add-deadline
overflow_add-deadline c =
    let ss : length c.args.s.now.set.streams ≡ 16 = search rules in
    let ms : length c.args.s.now.messages ≡ 64 = search rules in
    let f = post_fits c.args.s.now c.args.k _ (sym c.in_ok-tested.ensures.ok_part ∙ c.inspect.ensures) c.if-s-k.false ss ms in
    omega (arith, f blank)

pub bounds-s-s : goal.bounds-s-s
bounds-s-s c =
    room_left c.args.s.now c.args.k _ (sym c.in_ok-tested.ensures.ok_part ∙ c.inspect.ensures) c.if-s-k.false (search rules) (search rules) _ _ c.door_of-door.ensures _ c.is_shut.ensures _ c.has_place.ensures c.if-not-has_place.false

pub offset_bounds-s-s : goal.offset_bounds-s-s
offset_bounds-s-s c =
    omega (arith, room_left c.args.s.now c.args.k _ (sym c.in_ok-tested.ensures.ok_part ∙ c.inspect.ensures) c.if-s-k.false (search rules) (search rules) _ _ c.door_of-door.ensures _ c.is_shut.ensures _ c.has_place.ensures c.if-not-has_place.false)

pub overflow_add-s : goal.overflow_add-s
overflow_add-s c =
    omega (arith, room_left c.args.s.now c.args.k _ (sym c.in_ok-tested.ensures.ok_part ∙ c.inspect.ensures) c.if-s-k.false (search rules) (search rules) _ _ c.door_of-door.ensures _ c.is_shut.ensures _ c.has_place.ensures c.if-not-has_place.false)

pub overflow_cast-s : goal.overflow_cast-s
overflow_cast-s c =
    omega (arith, wait_fits c.args.s.now c.args.k _ (sym c.in_ok-tested.ensures.ok_part ∙ c.inspect.ensures) c.if-s-k.false (search rules) (search rules) _ _ c.door_of-door.ensures _ c.is_shut.ensures c.if-is_shut.false, c.wait_after.ensures)

pub returns : goal.returns
returns c =
    posted c.args.s.now c.args.k _ (sym c.in_ok-tested.ensures.ok_part ∙ c.inspect.ensures) c.if-s-k.false (search rules) (search rules) _ _ c.door_of-door.ensures _ c.is_shut.ensures _ c.has_place.ensures c.if-is_shut.false c.if-not-has_place.false _ c.wait_after.ensures
