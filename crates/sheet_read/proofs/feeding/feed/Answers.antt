use Prim.Native.Nat.{ℕ, ◌+◌, ◌-◌, ◌*◌, ◌/◌, ◌%◌, ◌≤◌, ◌<◌}
use mathlib.Core.Bool.{true, ◌&&◌}
use mathlib.Core.List.{List}
use mathlib.Core.Path.{◌≡◌, refl, sym, ap, ◌∙◌}
use lib.ListN.{length, set}
use lib.Dec.{ltb}
use native.Mathlib.Omega.{arith}
use Rattle.laws.specs.Bits.{bits}
use Rattle.laws.specs.Lists.{within}
use Rattle.bits.specs.declared.Gathered.{Gathered}
use Rattle.bits.specs.Places.{gather_of}
use Rattle.rules.specs.declared.Place.{Place}
use Rattle.rules.specs.declared.Set.{Set}
use Rattle.rules.specs.declared.Stage.{Stage}
use Rattle.rules.specs.declared.TuplePlace.{TuplePlace}
use Rattle.sheet_carried.specs.declared.Point.{Point}
use Rattle.sheet_carried.specs.declared.SheetField.{SheetField}
use Rattle.sheet_carried.specs.declared.Carried.{Carried}
use Rattle.sheet_carried.specs.Table.{in_rule_of, refusal_of}
use Rattle.sheet_carried.specs.Reader.{joined_of, point_at, refused_of, rule_of, run, value_at}
use Rattle.sheet_carried.specs.Kept.{Kept}
use Rattle.sheet_carried.proofs.Rows.{refusal_row}
use Rattle.sheet_read.proofs.Turns.{Behind, Turn, ahead, ahead_kept, ahead_runs, both_lt, carried, end_le, fits, got_some, left_none, left_some, limit_le, refused_stays, rest, rule_stays, rule_tests, stage_room, stream_room_lem, tuple_room, turn_field, turn_limit, turn_padding, turn_part, turn_refused, turn_stage, turn_stages, turn_stream, turn_tuple, turn_version, turn_whole, turned, turns_end}
use Rattle.sheet_read.proofs.AtOnce.{goes_on_lem}
use Rattle.sheet_read.proofs.feeding.feed.Goals as goal

-- ---- what every way through the loop has before it

-- what the loop keeps
abbrev Held : Point → List ℕ → List Stage → List TuplePlace → Set → SheetField → List ℕ → ℕ → ℕ → Carried → Type 0
Held o vs gs ts x r t byte bit b =
    (bit < 8) × (8 * byte + bit ≤ 8 * length t) × Kept (carried o vs gs ts x) × (run (carried o vs gs ts x) (rest t (8 * byte + bit)) ≡ run b (bits t)) × (r ≡ rule_of o vs)

-- bits were gathered
record Came (o : Point) (vs : List ℕ) (gs : List Stage) (ts : List TuplePlace) (x : Set) (r : SheetField) (t : List ℕ) (byte bit : ℕ) (g : Gathered) (b : Carried) : Type 0 where
  turn : Turn o vs gs ts x t (8 * byte + bit) g
  inside : 8 * byte + bit ≤ 8 * length t
  bit_in : bit < 8
  before_end : byte < length t
  runs_on : run (carried o vs gs ts x) (rest t (8 * byte + bit)) ≡ run b (bits t)
  rule_is : r ≡ rule_of o vs

came : (o : Point) (vs : List ℕ) (gs : List Stage) (ts : List TuplePlace) (x : Set) (r : SheetField) (t : List ℕ) (byte bit : ℕ) (g : Gathered) (b : Carried) → Held o vs gs ts x r t byte bit b
    → ltb byte (length t) && ltb 0 o.left ≡ true → g ≡ gather_of t (8 * byte + bit) o.left → Came o vs gs ts x r t byte bit g b
came o vs gs ts x r t byte bit g b i e q =
    record {
      turn = turned o vs gs ts x t byte bit g i.2 e q;
      inside = i.1;
      bit_in = i.0;
      before_end = (both_lt byte (length t) 0 o.left e).0;
      runs_on = i.3;
      rule_is = i.4;
    }

module _ {o : Point} {vs : List ℕ} {gs : List Stage} {ts : List TuplePlace} {x : Set} {r : SheetField} {t : List ℕ} {byte bit : ℕ} {g : Gathered} {b : Carried} (a : Came o vs gs ts x r t byte bit g b) where
  ends : 8 * byte + bit + g.got ≤ 8 * length t
  ends = end_le a.turn a.inside

  -- the place behind the bits
  module _ (q : Place) (eb : q.byte ≡ byte + (bit + g.got) / 8) (ee : q.bit ≡ (bit + g.got) % 8) where
    less : 8 * length t - (8 * q.byte + q.bit) < 8 * length t - (8 * byte + bit)
    less = omega (arith, ends, got_some a.turn (omega (arith, a.before_end, a.bit_in)))

    again : (n : Point) (us : List ℕ) (hs : List Stage) (ps : List TuplePlace) (y : Set) (s : SheetField) → carried n us hs ps y ≡ ahead a.turn → s ≡ rule_of n us → Held n us hs ps y s t q.byte q.bit b
    again n us hs ps y s e h =
        (omega arith, omega (arith, ends), ahead_kept a.turn _ e, ahead_runs a.turn _ b (8 * q.byte + q.bit) e (omega arith) a.runs_on, h)

  -- the field is whole
  module _ (n : Point) (j : n ≡ joined_of o g) (h : o.left ≤ g.got) where
    behind : Behind n vs gs ts x (ahead a.turn)
    behind = turn_whole a.turn n j (left_none a.turn n j h)

    -- its value is in its rule
    in_rule : within r.least n.acc r.greatest ≡ true → in_rule_of n.row n.whole (value_at vs 8) n.acc ≡ true
    in_rule e = sym (rule_tests a.turn n j r a.rule_is) ∙ e

-- ---- the goals

pub joined-point-requires : goal.joined-point-requires
joined-point-requires c =
    let l = c.loop-at in
    let a = came l.point l.values l.stages l.places l.set l.rule c.args.piece.now l.at.byte l.at.bit c.gather-g.result c.args.s l.invariant c.loop-at-test.true c.gather-g.ensures in
    fits a.turn

pub loop-at-smaller-then-g-point : goal.loop-at-smaller-then-g-point
loop-at-smaller-then-g-point c =
    let l = c.loop-at in
    let a = came l.point l.values l.stages l.places l.set l.rule c.args.piece.now l.at.byte l.at.bit c.gather-g.result c.args.s l.invariant c.loop-at-test.true c.gather-g.ensures in
    less a c.after-at.result (omega (arith, ends a)) c.after-at.ensures.bit

pub loop-at-preserved-then-g-point : goal.loop-at-preserved-then-g-point
loop-at-preserved-then-g-point c =
    let l = c.loop-at in
    let a = came l.point l.values l.stages l.places l.set l.rule c.args.piece.now l.at.byte l.at.bit c.gather-g.result c.args.s l.invariant c.loop-at-test.true c.gather-g.ensures in
    let n = c.joined-point.result in
    again a c.after-at.result (omega (arith, ends a)) c.after-at.ensures.bit n _ _ _ _ _ (turn_part a.turn n c.joined-point.ensures (left_some a.turn n c.joined-point.ensures c.if-g-point.true)) (rule_stays a.turn n c.joined-point.ensures l.rule a.rule_is)

pub joined-point-requires-else-g-point : goal.joined-point-requires-else-g-point
joined-point-requires-else-g-point c =
    let l = c.loop-at in
    let a = came l.point l.values l.stages l.places l.set l.rule c.args.piece.now l.at.byte l.at.bit c.gather-g.result c.args.s l.invariant c.loop-at-test.true c.gather-g.ensures in
    fits a.turn

pub overflow_cast-v : goal.overflow_cast-v
overflow_cast-v c =
    let l = c.loop-at in
    let a = came l.point l.values l.stages l.places l.set l.rule c.args.piece.now l.at.byte l.at.bit c.gather-g.result c.args.s l.invariant c.loop-at-test.true c.gather-g.ensures in
    let n = c.joined-point-else-g-point.result in
    let w = behind a n c.joined-point-else-g-point.ensures c.if-g-point.false in
    omega (arith, w.small)

pub returns-then-not-in_rule : goal.returns-then-not-in_rule
returns-then-not-in_rule c =
    let l = c.loop-at in
    let a = came l.point l.values l.stages l.places l.set l.rule c.args.piece.now l.at.byte l.at.bit c.gather-g.result c.args.s l.invariant c.loop-at-test.true c.gather-g.ensures in
    let n = c.joined-point-else-g-point.result in
    let w = behind a n c.joined-point-else-g-point.ensures c.if-g-point.false in
    let s = sym (c.in_rule.ensures ∙ rule_tests a.turn n c.joined-point-else-g-point.ensures l.rule a.rule_is) ∙ c.if-not-in_rule.true in
    c.refused.ensures ∙ ap refused_of c.refusal.ensures
    ∙ refused_stays (refusal_of n.row) _ c.args.piece.now (8 * c.after-at.result.byte + c.after-at.result.bit) (refusal_row n.row).0
    (ahead_runs a.turn _ _ (8 * c.after-at.result.byte + c.after-at.result.bit) (turn_refused w s) (omega arith) a.runs_on)

pub loop-at-init : goal.loop-at-init
loop-at-init c =
    (omega arith, omega arith, c.requires, refl, c.rule-rule.ensures)

pub offset_bounds-places-n : goal.offset_bounds-places-n
offset_bounds-places-n c =
    let l = c.loop-at in
    let a = came l.point l.values l.stages l.places l.set l.rule c.args.piece.now l.at.byte l.at.bit c.gather-g.result c.args.s l.invariant c.loop-at-test.true c.gather-g.ensures in
    let n = c.joined-point-else-g-point.result in
    let w = behind a n c.joined-point-else-g-point.ensures c.if-g-point.false in
    let i = in_rule a n c.joined-point-else-g-point.ensures c.if-g-point.false (sym c.in_rule.ensures ∙ c.if-not-in_rule.false) in
    omega (arith, tuple_room w i c.if-f-eq-OFFSET.true)

pub bounds-places-n : goal.bounds-places-n
bounds-places-n c =
    let l = c.loop-at in
    let a = came l.point l.values l.stages l.places l.set l.rule c.args.piece.now l.at.byte l.at.bit c.gather-g.result c.args.s l.invariant c.loop-at-test.true c.gather-g.ensures in
    let n = c.joined-point-else-g-point.result in
    let w = behind a n c.joined-point-else-g-point.ensures c.if-g-point.false in
    let i = in_rule a n c.joined-point-else-g-point.ensures c.if-g-point.false (sym c.in_rule.ensures ∙ c.if-not-in_rule.false) in
    tuple_room w i c.if-f-eq-OFFSET.true

pub overflow_add-n-else-n-values : goal.overflow_add-n-else-n-values
overflow_add-n-else-n-values c =
    let l = c.loop-at in
    let a = came l.point l.values l.stages l.places l.set l.rule c.args.piece.now l.at.byte l.at.bit c.gather-g.result c.args.s l.invariant c.loop-at-test.true c.gather-g.ensures in
    let n = c.joined-point-else-g-point.result in
    let w = behind a n c.joined-point-else-g-point.ensures c.if-g-point.false in
    let i = in_rule a n c.joined-point-else-g-point.ensures c.if-g-point.false (sym c.in_rule.ensures ∙ c.if-not-in_rule.false) in
    omega (arith, tuple_room w i c.if-f-eq-OFFSET.true)

pub bounds-set-k : goal.bounds-set-k
bounds-set-k c =
    let l = c.loop-at in
    let a = came l.point l.values l.stages l.places l.set l.rule c.args.piece.now l.at.byte l.at.bit c.gather-g.result c.args.s l.invariant c.loop-at-test.true c.gather-g.ensures in
    let n = c.joined-point-else-g-point.result in
    let w = behind a n c.joined-point-else-g-point.ensures c.if-g-point.false in
    let i = in_rule a n c.joined-point-else-g-point.ensures c.if-g-point.false (sym c.in_rule.ensures ∙ c.if-not-in_rule.false) in
    stream_room_lem w i c.if-f-eq-OFFSET.true

pub offset_bounds-stages-n : goal.offset_bounds-stages-n
offset_bounds-stages-n c =
    let l = c.loop-at in
    let a = came l.point l.values l.stages l.places l.set l.rule c.args.piece.now l.at.byte l.at.bit c.gather-g.result c.args.s l.invariant c.loop-at-test.true c.gather-g.ensures in
    let n = c.joined-point-else-g-point.result in
    let w = behind a n c.joined-point-else-g-point.ensures c.if-g-point.false in
    let i = in_rule a n c.joined-point-else-g-point.ensures c.if-g-point.false (sym c.in_rule.ensures ∙ c.if-not-in_rule.false) in
    omega (arith, stage_room w i c.if-f-eq-COST.true)

pub bounds-stages-n : goal.bounds-stages-n
bounds-stages-n c =
    let l = c.loop-at in
    let a = came l.point l.values l.stages l.places l.set l.rule c.args.piece.now l.at.byte l.at.bit c.gather-g.result c.args.s l.invariant c.loop-at-test.true c.gather-g.ensures in
    let n = c.joined-point-else-g-point.result in
    let w = behind a n c.joined-point-else-g-point.ensures c.if-g-point.false in
    let i = in_rule a n c.joined-point-else-g-point.ensures c.if-g-point.false (sym c.in_rule.ensures ∙ c.if-not-in_rule.false) in
    stage_room w i c.if-f-eq-COST.true

pub overflow_add-f : goal.overflow_add-f
overflow_add-f c =
    let l = c.loop-at in
    let a = came l.point l.values l.stages l.places l.set l.rule c.args.piece.now l.at.byte l.at.bit c.gather-g.result c.args.s l.invariant c.loop-at-test.true c.gather-g.ensures in
    let n = c.joined-point-else-g-point.result in
    let w = behind a n c.joined-point-else-g-point.ensures c.if-g-point.false in
    omega (arith, w.row)

pub before_last-t-requires : goal.before_last-t-requires
before_last-t-requires c =
    let l = c.loop-at in
    let a = came l.point l.values l.stages l.places l.set l.rule c.args.piece.now l.at.byte l.at.bit c.gather-g.result c.args.s l.invariant c.loop-at-test.true c.gather-g.ensures in
    let n = c.joined-point-else-g-point.result in
    let w = behind a n c.joined-point-else-g-point.ensures c.if-g-point.false in
    let i = in_rule a n c.joined-point-else-g-point.ensures c.if-g-point.false (sym c.in_rule.ensures ∙ c.if-not-in_rule.false) in
    (limit_le w i c.if-f-eq-TUPLES.true, omega arith, omega (arith, ends a))

pub loop-at-smaller-then-n-values : goal.loop-at-smaller-then-n-values
loop-at-smaller-then-n-values c =
    let l = c.loop-at in
    let a = came l.point l.values l.stages l.places l.set l.rule c.args.piece.now l.at.byte l.at.bit c.gather-g.result c.args.s l.invariant c.loop-at-test.true c.gather-g.ensures in
    less a c.after-at.result (omega (arith, ends a)) c.after-at.ensures.bit

pub loop-at-smaller-else-n-values : goal.loop-at-smaller-else-n-values
loop-at-smaller-else-n-values c =
    let l = c.loop-at in
    let a = came l.point l.values l.stages l.places l.set l.rule c.args.piece.now l.at.byte l.at.bit c.gather-g.result c.args.s l.invariant c.loop-at-test.true c.gather-g.ensures in
    less a c.after-at.result (omega (arith, ends a)) c.after-at.ensures.bit

pub loop-at-smaller-then-n-values-2 : goal.loop-at-smaller-then-n-values-2
loop-at-smaller-then-n-values-2 c =
    let l = c.loop-at in
    let a = came l.point l.values l.stages l.places l.set l.rule c.args.piece.now l.at.byte l.at.bit c.gather-g.result c.args.s l.invariant c.loop-at-test.true c.gather-g.ensures in
    less a c.after-at.result (omega (arith, ends a)) c.after-at.ensures.bit

pub loop-at-smaller-else-n-values-2 : goal.loop-at-smaller-else-n-values-2
loop-at-smaller-else-n-values-2 c =
    let l = c.loop-at in
    let a = came l.point l.values l.stages l.places l.set l.rule c.args.piece.now l.at.byte l.at.bit c.gather-g.result c.args.s l.invariant c.loop-at-test.true c.gather-g.ensures in
    less a c.after-at.result (omega (arith, ends a)) c.after-at.ensures.bit

pub loop-at-smaller-then-f-eq-VERSION : goal.loop-at-smaller-then-f-eq-VERSION
loop-at-smaller-then-f-eq-VERSION c =
    let l = c.loop-at in
    let a = came l.point l.values l.stages l.places l.set l.rule c.args.piece.now l.at.byte l.at.bit c.gather-g.result c.args.s l.invariant c.loop-at-test.true c.gather-g.ensures in
    less a c.after-at.result (omega (arith, ends a)) c.after-at.ensures.bit

pub loop-at-smaller-then-f-lt-PADDING : goal.loop-at-smaller-then-f-lt-PADDING
loop-at-smaller-then-f-lt-PADDING c =
    let l = c.loop-at in
    let a = came l.point l.values l.stages l.places l.set l.rule c.args.piece.now l.at.byte l.at.bit c.gather-g.result c.args.s l.invariant c.loop-at-test.true c.gather-g.ensures in
    less a c.after-at.result (omega (arith, ends a)) c.after-at.ensures.bit

pub loop-at-smaller : goal.loop-at-smaller
loop-at-smaller c =
    let l = c.loop-at in
    let a = came l.point l.values l.stages l.places l.set l.rule c.args.piece.now l.at.byte l.at.bit c.gather-g.result c.args.s l.invariant c.loop-at-test.true c.gather-g.ensures in
    less a c.after-at.result (omega (arith, ends a)) c.after-at.ensures.bit

pub loop-at-smaller-then-f-eq-TUPLES : goal.loop-at-smaller-then-f-eq-TUPLES
loop-at-smaller-then-f-eq-TUPLES c =
    let l = c.loop-at in
    let a = came l.point l.values l.stages l.places l.set l.rule c.args.piece.now l.at.byte l.at.bit c.gather-g.result c.args.s l.invariant c.loop-at-test.true c.gather-g.ensures in
    let o = c.before_last-t.ensures in
    omega (arith, o.later, o.ends, less a c.after-at.result (omega (arith, ends a)) c.after-at.ensures.bit)

pub loop-at-preserved-then-n-values : goal.loop-at-preserved-then-n-values
loop-at-preserved-then-n-values c =
    let l = c.loop-at in
    let a = came l.point l.values l.stages l.places l.set l.rule c.args.piece.now l.at.byte l.at.bit c.gather-g.result c.args.s l.invariant c.loop-at-test.true c.gather-g.ensures in
    let n = c.joined-point-else-g-point.result in
    let w = behind a n c.joined-point-else-g-point.ensures c.if-g-point.false in
    let i = in_rule a n c.joined-point-else-g-point.ensures c.if-g-point.false (sym c.in_rule.ensures ∙ c.if-not-in_rule.false) in
    again a c.after-at.result (omega (arith, ends a)) c.after-at.ensures.bit c.begun-point.result _ _ _ _ _ (turn_tuple w i c.if-f-eq-OFFSET.true c.tuple_of.result c.tuple_of.ensures (omega (arith, c.if-n-values.true)) c.begun-point.result c.begun-point.ensures) c.rule-rule-then-n-values.ensures

pub loop-at-preserved-else-n-values : goal.loop-at-preserved-else-n-values
loop-at-preserved-else-n-values c =
    let l = c.loop-at in
    let a = came l.point l.values l.stages l.places l.set l.rule c.args.piece.now l.at.byte l.at.bit c.gather-g.result c.args.s l.invariant c.loop-at-test.true c.gather-g.ensures in
    let n = c.joined-point-else-g-point.result in
    let w = behind a n c.joined-point-else-g-point.ensures c.if-g-point.false in
    let i = in_rule a n c.joined-point-else-g-point.ensures c.if-g-point.false (sym c.in_rule.ensures ∙ c.if-not-in_rule.false) in
    again a c.after-at.result (omega (arith, ends a)) c.after-at.ensures.bit c.begun-point-else-n-values.result _ _ _ _ _ (turn_stream w i c.if-f-eq-OFFSET.true c.tuple_of.result c.tuple_of.ensures (omega (arith, c.if-n-values.false)) c.stream_in.result c.begun-point-else-n-values.result c.front-values.result c.no_stages-blank.result c.no_tuples-none.result c.stream_in.ensures
    (c.begun-point-else-n-values.ensures ∙ ap (λ (k : ℕ). point_at k 0) (c.opened-next.ensures)) c.front-values.ensures c.no_stages-blank.ensures c.no_tuples-none.ensures) c.rule-rule-else-n-values.ensures

pub loop-at-preserved-then-n-values-2 : goal.loop-at-preserved-then-n-values-2
loop-at-preserved-then-n-values-2 c =
    let l = c.loop-at in
    let a = came l.point l.values l.stages l.places l.set l.rule c.args.piece.now l.at.byte l.at.bit c.gather-g.result c.args.s l.invariant c.loop-at-test.true c.gather-g.ensures in
    let n = c.joined-point-else-g-point.result in
    let w = behind a n c.joined-point-else-g-point.ensures c.if-g-point.false in
    let i = in_rule a n c.joined-point-else-g-point.ensures c.if-g-point.false (sym c.in_rule.ensures ∙ c.if-not-in_rule.false) in
    again a c.after-at.result (omega (arith, ends a)) c.after-at.ensures.bit c.begun-point-then-n-values-2.result _ _ _ _ _ (turn_stage w i c.if-f-eq-COST.true c.stage_in.result c.stage_in.ensures (omega (arith, c.if-n-values-2.true)) c.begun-point-then-n-values-2.result c.begun-point-then-n-values-2.ensures) c.rule-rule-then-n-values-2.ensures

pub loop-at-preserved-else-n-values-2 : goal.loop-at-preserved-else-n-values-2
loop-at-preserved-else-n-values-2 c =
    let l = c.loop-at in
    let a = came l.point l.values l.stages l.places l.set l.rule c.args.piece.now l.at.byte l.at.bit c.gather-g.result c.args.s l.invariant c.loop-at-test.true c.gather-g.ensures in
    let n = c.joined-point-else-g-point.result in
    let w = behind a n c.joined-point-else-g-point.ensures c.if-g-point.false in
    let i = in_rule a n c.joined-point-else-g-point.ensures c.if-g-point.false (sym c.in_rule.ensures ∙ c.if-not-in_rule.false) in
    again a c.after-at.result (omega (arith, ends a)) c.after-at.ensures.bit c.begun-point-else-n-values-2.result _ _ _ _ _ (turn_stages w i c.if-f-eq-COST.true c.stage_in.result c.stage_in.ensures (omega (arith, c.if-n-values-2.false)) c.begun-point-else-n-values-2.result (c.begun-point-else-n-values-2.ensures ∙ ap (λ (k : ℕ). point_at k 0) c.behind.ensures)) c.rule-rule-else-n-values-2.ensures

pub loop-at-preserved-then-f-eq-VERSION : goal.loop-at-preserved-then-f-eq-VERSION
loop-at-preserved-then-f-eq-VERSION c =
    let l = c.loop-at in
    let a = came l.point l.values l.stages l.places l.set l.rule c.args.piece.now l.at.byte l.at.bit c.gather-g.result c.args.s l.invariant c.loop-at-test.true c.gather-g.ensures in
    let n = c.joined-point-else-g-point.result in
    let w = behind a n c.joined-point-else-g-point.ensures c.if-g-point.false in
    let i = in_rule a n c.joined-point-else-g-point.ensures c.if-g-point.false (sym c.in_rule.ensures ∙ c.if-not-in_rule.false) in
    again a c.after-at.result (omega (arith, ends a)) c.after-at.ensures.bit c.begun-point-then-f-eq-VERSION.result _ _ _ _ _ (turn_version w i c.if-f-eq-VERSION.true c.begun-point-then-f-eq-VERSION.result c.begun-point-then-f-eq-VERSION.ensures) c.rule-rule-then-f-eq-VERSION.ensures

pub loop-at-preserved-then-f-eq-TUPLES : goal.loop-at-preserved-then-f-eq-TUPLES
loop-at-preserved-then-f-eq-TUPLES c =
    let l = c.loop-at in
    let a = came l.point l.values l.stages l.places l.set l.rule c.args.piece.now l.at.byte l.at.bit c.gather-g.result c.args.s l.invariant c.loop-at-test.true c.gather-g.ensures in
    let n = c.joined-point-else-g-point.result in
    let w = behind a n c.joined-point-else-g-point.ensures c.if-g-point.false in
    let i = in_rule a n c.joined-point-else-g-point.ensures c.if-g-point.false (sym c.in_rule.ensures ∙ c.if-not-in_rule.false) in
    let o = c.before_last-t.ensures in
    let e = turn_limit w i c.if-f-eq-TUPLES.true in
    let t = goes_on_lem (set l.values 6 n.acc) c.args.piece.now (8 * c.after-at.result.byte + c.after-at.result.bit) c.before_last-t.result l.stages l.set c.begun-point-then-f-eq-TUPLES.result o c.begun-point-then-f-eq-TUPLES.ensures (ahead_kept a.turn _ e) in
    (o.bit, o.ends, t.kept, t.runs ∙ ahead_runs a.turn _ c.args.s (8 * c.after-at.result.byte + c.after-at.result.bit) e (omega arith) a.runs_on, c.rule-rule-then-f-eq-TUPLES.ensures)

pub loop-at-preserved-then-f-lt-PADDING : goal.loop-at-preserved-then-f-lt-PADDING
loop-at-preserved-then-f-lt-PADDING c =
    let l = c.loop-at in
    let a = came l.point l.values l.stages l.places l.set l.rule c.args.piece.now l.at.byte l.at.bit c.gather-g.result c.args.s l.invariant c.loop-at-test.true c.gather-g.ensures in
    let n = c.joined-point-else-g-point.result in
    let w = behind a n c.joined-point-else-g-point.ensures c.if-g-point.false in
    let i = in_rule a n c.joined-point-else-g-point.ensures c.if-g-point.false (sym c.in_rule.ensures ∙ c.if-not-in_rule.false) in
    again a c.after-at.result (omega (arith, ends a)) c.after-at.ensures.bit c.begun-point-then-f-lt-PADDING.result _ _ _ _ _ (turn_field w i c.if-f-eq-OFFSET.false c.if-f-eq-COST.false c.if-f-eq-VERSION.false c.begun-point-then-f-lt-PADDING.result (c.begun-point-then-f-lt-PADDING.ensures ∙ ap (λ (k : ℕ). point_at k n.whole) c.following.ensures)) c.rule-rule-then-f-lt-PADDING.ensures

pub loop-at-preserved : goal.loop-at-preserved
loop-at-preserved c =
    let l = c.loop-at in
    let a = came l.point l.values l.stages l.places l.set l.rule c.args.piece.now l.at.byte l.at.bit c.gather-g.result c.args.s l.invariant c.loop-at-test.true c.gather-g.ensures in
    let n = c.joined-point-else-g-point.result in
    let w = behind a n c.joined-point-else-g-point.ensures c.if-g-point.false in
    let i = in_rule a n c.joined-point-else-g-point.ensures c.if-g-point.false (sym c.in_rule.ensures ∙ c.if-not-in_rule.false) in
    again a c.after-at.result (omega (arith, ends a)) c.after-at.ensures.bit c.begun-point-else-f-lt-PADDING.result _ _ _ _ _ (turn_padding w i c.if-f-lt-PADDING.false c.begun-point-else-f-lt-PADDING.result c.begun-point-else-f-lt-PADDING.ensures) c.rule-rule-else-f-lt-PADDING.ensures

pub returns : goal.returns
returns c = turns_end _ _ _ _ _ _ _ c.loop-at.at.byte c.loop-at.at.bit c.loop-at-test.false c.loop-at.invariant.3
