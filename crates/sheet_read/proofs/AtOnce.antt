-- A tuple that comes at once is its cycle and then its offset: two turns of feeding.
-- Assumes nothing.
use Prim.Native.Nat.{ℕ, ◌+◌, ◌*◌, ◌≤◌, ◌<◌}
use mathlib.Core.List.{List}
use mathlib.Core.Path.{◌≡◌, refl, sym, ap, ap₂, ◌∙◌, subst}
use mathlib.Core.Bool.{true, ◌&&◌}
use native.Mathlib.Omega.{arith}
use lib.ListN.{length, set, length-set}
use lib.Seq.{get_or-set_other, get_or-set_same, set_comm, set-get_or, set-set}
use Rattle.laws.proofs.Sums.{and_parts}
use Rattle.bits.specs.declared.Gathered.{Gathered}
use Rattle.std.specs.Prelude.{Some}
use Rattle.bits.specs.Places.{two_of}
use Rattle.bits.proofs.Answers.{two_first, two_second}
use Rattle.rules.specs.declared.Set.{Set}
use Rattle.rules.specs.declared.Stage.{Stage}
use Rattle.rules.specs.declared.TuplePlace.{TuplePlace}
use Rattle.rules.specs.Sheet.{tuple_of}
use Rattle.sheet_carried.specs.declared.Point.{Point}
use Rattle.sheet_carried.specs.declared.Carried.{Carried}
use Rattle.sheet_carried.specs.Table.{in_rule_of, row_of}
use Rattle.sheet_carried.specs.Reader.{begun, joined_of, no_tuples, point_at, run, tupled, value_at}
use Rattle.sheet_carried.specs.Kept.{Kept}
use Rattle.sheet_read.specs.declared.Came.{Came}
use Rattle.sheet_read.specs.AtOnce.{AtOnce, end_of, tupled_by, untupled}
use Rattle.sheet_read.proofs.Turns.{Behind, Turn, ahead, ahead_kept, ahead_on, carried, rest, turn_cycle, turn_tuple, turn_whole}

-- the values behind some tuples: the cycle and the offset that are kept
abbrev pub kept_by : List ℕ → ℕ → ℕ → List ℕ
kept_by vs cycle low = set (set vs 7 cycle) 8 low

-- none has come yet
pub kept_first : (vs : List ℕ) → kept_by vs (value_at vs 7) (value_at vs 8) ≡ vs
kept_first vs = ap (λ (l : List ℕ). set l 8 (value_at vs 8)) (set-get_or vs 7 0) ∙ set-get_or vs 8 0

-- one more: the cycle's place is emptied
kept_next : (vs : List ℕ) (cycle low c o : ℕ) → tupled (set (kept_by vs cycle low) 7 c) o ≡ kept_by vs 0 o
kept_next vs cycle low c o =
    ap (λ (l : List ℕ). set l 8 o)
    (set-set (kept_by vs cycle low) 7 c 0 ∙ set_comm (set vs 7 cycle) 8 7 low 0 (λ e. omega arith) ∙ ap (λ (l : List ℕ). set l 8 low) (set-set vs 7 cycle 0))
    ∙ set-set (set vs 7 0) 8 low o

-- a field that comes at once
whole_field : (f n w v : ℕ) → record { row = f; whole = n; acc = v; left = 0 } ≡ joined_of (record { row = f; whole = n; acc = 0; left = w }) (record { value = v; got = w })
unfolding joined_of
whole_field f n w v = ap₂ (λ (a l : ℕ). record { row = f; whole = n; acc = a; left = l }) (omega arith) (omega arith)

module _ (vs s : List ℕ) (byte bit cycle low n : ℕ) (gs : List Stage) (ts : List TuplePlace) (x : Set) (first second : ℕ) (e : Some (first, second) ≡ two_of s byte bit 20 17)
    (r : in_rule_of 7 n low first && in_rule_of 8 n low second ≡ true) (k : Kept (begun 7 n (kept_by vs cycle low) gs ts x)) where
  abbrev p : ℕ
  p = 8 * byte + bit

  abbrev ws : List ℕ
  ws = kept_by vs cycle low

  nine : length vs ≡ 9
  nine = sym (length-set (set vs 7 cycle) 8 low ∙ length-set vs 7 cycle) ∙ k.at.nine

  rules : (in_rule_of 7 n low first ≡ true) × (in_rule_of 8 n low second ≡ true)
  rules = and_parts (in_rule_of 7 n low first) (in_rule_of 8 n low second) r

  -- the cycle
  abbrev cycled : Gathered
  cycled = record { value = first; got = 20 }

  first_turn : Turn (point_at 7 n) ws gs ts x s p cycled
  unfolding row_of
  first_turn = record { kept = k; some = omega arith; gathered = two_first s byte bit 20 17 first second e }

  abbrev first_point : Point
  first_point = record { row = 7; whole = n; acc = first; left = 0 }

  first_behind : Behind first_point ws gs ts x (ahead first_turn)
  unfolding row_of
  first_behind = turn_whole first_turn first_point (whole_field 7 n 20 first) refl

  low_is : value_at ws 8 ≡ low
  low_is = get_or-set_same (set vs 7 cycle) 8 low 0 (omega (arith, nine, length-set vs 7 cycle))

  abbrev middle : Carried
  middle = begun 8 n (set ws 7 first) gs ts x

  middle_is : middle ≡ ahead first_turn
  middle_is = turn_cycle first_behind (ap (λ (l : ℕ). in_rule_of 7 n l first) low_is ∙ rules.0) refl (point_at 8 n) refl

  -- the offset
  abbrev offset : Gathered
  offset = record { value = second; got = 17 }

  second_turn : Turn (point_at 8 n) (set ws 7 first) gs ts x s (p + 20) offset
  unfolding row_of
  second_turn = record { kept = ahead_kept first_turn middle middle_is; some = omega arith; gathered = two_second s byte bit 20 17 first second e }

  abbrev second_point : Point
  second_point = record { row = 8; whole = n; acc = second; left = 0 }

  second_behind : Behind second_point (set ws 7 first) gs ts x (ahead second_turn)
  unfolding row_of
  second_behind = turn_whole second_turn second_point (whole_field 8 n 17 second) refl

  cycle_is : value_at (set ws 7 first) 7 ≡ first
  cycle_is = get_or-set_same ws 7 first 0 (omega (arith, k.at.nine))

  last_is : value_at (set ws 7 first) 6 ≡ value_at vs 6
  last_is =
      get_or-set_other ws 7 6 first 0 (λ q. omega arith) ∙ get_or-set_other (set vs 7 cycle) 8 6 low 0 (λ q. omega arith)
      ∙ get_or-set_other vs 7 6 cycle 0 (λ q. omega arith)

  module _ (one : TuplePlace) (on : one ≡ tuple_of first second) (l : n < value_at vs 6) where
    abbrev after : Carried
    after = begun 7 (n + 1) (kept_by vs 0 second) gs (set ts n one) x

    after_is : after ≡ ahead second_turn
    after_is =
        ap (λ (v : List ℕ). begun 7 (n + 1) v gs (set ts n one) x) (sym (kept_next vs cycle low first second))
        ∙ turn_tuple second_behind
        (ap (λ (y : ℕ). in_rule_of 8 n y second) (get_or-set_other ws 7 8 first 0 (λ q. omega arith) ∙ low_is) ∙ rules.1)
        refl one (on ∙ ap (λ (y : ℕ). tuple_of y second) (sym cycle_is)) (omega (arith, last_is)) (point_at 7 (n + 1)) refl

    pub tuple_kept : Kept after
    tuple_kept = ahead_kept second_turn after after_is

    pub tuple_runs : (q : ℕ) → q ≡ p + 37 → run after (rest s q) ≡ run (begun 7 n ws gs ts x) (rest s p)
    tuple_runs q j = ahead_on second_turn after q after_is (omega arith) ∙ ahead_on first_turn middle (p + 20) middle_is refl

-- ---- from the start of a stream's tuples on

-- the values that the loop starts from
pub record From (vs : List ℕ) (last cycle low : ℕ) : Type 0 where
  pub last_is : value_at vs 6 ≡ last
  pub cycle_was : value_at vs 7 ≡ cycle
  pub low_was : value_at vs 8 ≡ low

-- the state d at the place q is what c at the place p comes to
pub record Comes (s : List ℕ) (p : ℕ) (c : Carried) (q : ℕ) (d : Carried) : Type 0 where
  pub kept : Kept d
  pub runs : run d (rest s q) ≡ run c (rest s p)

pub comes_first : (vs s : List ℕ) (p last cycle low : ℕ) (gs : List Stage) (ts : List TuplePlace) (x : Set) → From vs last cycle low → ts ≡ no_tuples → Kept (untupled vs gs x)
    → Comes s p (untupled vs gs x) p (begun 7 0 (kept_by vs cycle low) gs ts x)
comes_first vs s p last cycle low gs ts x f h k =
    let e : begun 7 0 (kept_by vs cycle low) gs ts x ≡ untupled vs gs x =
    ap₂ (λ (l : List ℕ) (us : List TuplePlace). begun 7 0 l gs us x) (ap₂ (kept_by vs) (sym f.cycle_was) (sym f.low_was) ∙ kept_first vs) h in
    record { kept = subst Kept (sym e) k; runs = ap (λ (c : Carried). run c (rest s p)) e }

pub comes_next : (vs s : List ℕ) (p byte bit cycle low n : ℕ) (c : Carried) (gs : List Stage) (ts : List TuplePlace) (x : Set) (first second : ℕ) (one : TuplePlace) (q : ℕ)
    → Comes s p c (8 * byte + bit) (begun 7 n (kept_by vs cycle low) gs ts x) → Some (first, second) ≡ two_of s byte bit 20 17
    → in_rule_of 7 n low first && in_rule_of 8 n low second ≡ true → one ≡ tuple_of first second → n < value_at vs 6 → q ≡ 8 * byte + bit + 37
    → Comes s p c q (begun 7 (n + 1) (kept_by vs 0 second) gs (set ts n one) x)
comes_next vs s p byte bit cycle low n c gs ts x first second one q i e r on l j =
    record {
      kept = tuple_kept vs s byte bit cycle low n gs ts x first second e r i.kept one on l;
      runs = tuple_runs vs s byte bit cycle low n gs ts x first second e r i.kept one on l q j ∙ i.runs;
    }

-- behind them the reader goes on
pub goes_on_lem : (vs s : List ℕ) (p : ℕ) (t : Came) (gs : List Stage) (x : Set) (new : Point) → AtOnce vs s p t → new ≡ point_at 7 t.whole → Kept (untupled vs gs x)
    → Comes s p (untupled vs gs x) (end_of t) (carried new (kept_by vs t.cycle t.low) gs t.places x)
goes_on_lem vs s p t gs x new o e k =
    let q : carried new (kept_by vs t.cycle t.low) gs t.places x ≡ tupled_by t vs gs x = ap (λ (y : Point). carried y (kept_by vs t.cycle t.low) gs t.places x) e in
    record { kept = subst Kept (sym q) (o.kept gs x k); runs = ap (λ (c : Carried). run c (rest s (end_of t))) q ∙ o.same gs x k }

-- what has come, as the contract has it
pub came_at_once : (vs s : List ℕ) (p : ℕ) (r : Came) → r.at.bit < 8 → p ≤ end_of r → end_of r ≤ 8 * length s
    → ((gs : List Stage) (x : Set) → Kept (untupled vs gs x) → Comes s p (untupled vs gs x) (end_of r) (tupled_by r vs gs x)) → AtOnce vs s p r
came_at_once vs s p r b l e h = record { bit = b; later = l; ends = e; kept = λ gs x k. (h gs x k).kept; same = λ gs x k. (h gs x k).runs }
