-- A law for each way that a turn of feeding goes.
-- Assumes nothing.
use Prim.Native.Nat.{ℕ, zero, suc, ◌+◌, ◌-◌, ◌*◌, ◌%◌, ◌^◌, ◌≤◌, ◌<◌, min}
use mathlib.Core.List.{List, [], ◌∷◌, append-nil}
use mathlib.Core.Path.{◌≡◌, refl, sym, ap, ap₂, ◌∙◌, subst}
use mathlib.Core.Bool.{Bool, true, false, cond, ◌&&◌}
use mathlib.Core.Logic.{◌⊎◌, inl, inr, ⊎_elim}
use native.Mathlib.Omega.{arith}
use lib.ListN.{length, take, drop, set, length-drop, take-append-drop}
use lib.Seq.{drop-drop, get_or-set_other, get_or-set_same, length-take-le, set_out}
use lib.Arith.{digits_lt}
use lib.Pow.{pow-add, pow_mono, shl_exact, shl_lt}
use lib.Dec.{ltb}
use borrow.Author.Tests.{le-ltb, lt-ltb, ltb-false, ltb-true, ne_eqb}
use Rattle.laws.proofs.Sums.{and_parts}
use Rattle.laws.specs.Lists.{within}
use Rattle.laws.specs.Bits.{bits, onto, value}
use Rattle.laws.proofs.Fields.{AreBits, IsBit, all_drop, all_take, bits_bits, bits_length, onto_value, value_lt}
use Rattle.bits.specs.declared.Gathered.{Gathered}
use Rattle.bits.specs.Places.{field_at, gather_of, got_of}
use Rattle.rules.specs.declared.Set.{Set}
use Rattle.rules.specs.declared.Stage.{Stage}
use Rattle.rules.specs.declared.Stream.{Stream}
use Rattle.rules.specs.declared.TuplePlace.{TuplePlace}
use Rattle.rules.specs.Streams.{empty_set}
use Rattle.rules.specs.Sheet.{tuple_of}
use Rattle.sheet_carried.specs.declared.SheetField.{SheetField}
use Rattle.sheet_carried.specs.declared.Point.{Point}
use Rattle.sheet_carried.specs.declared.Carried.{Carried}
use Rattle.sheet_carried.specs.Table.{behind_of, following_of, greatest_of, in_rule_of, opened_of, refusal_of, row_of, width_of}
use Rattle.sheet_carried.specs.Reader.{begun, behind_cost, behind_offset, behind_version, front_of, goes_on, joined_of, last_stage, next_field, next_of, next_stage, next_stream, next_tuple, no_stages, no_tuples, no_values, point_at, reading, refused_of, rule_of, run, stage_in, stream_in, tupled, value_at, with_stream, with_version}
use Rattle.sheet_carried.specs.Kept.{Kept, KeptAt, most_whole, tuples_whole}
use Rattle.sheet_carried.proofs.Rows.{behind_padding, row_some, rule_high, same_order, width_le, width_none}
use Rattle.sheet_carried.proofs.Keeps.{kept_run}
use Rattle.sheet_carried.proofs.Chunks.{run_append, run_part, run_stopped, run_whole}

-- ---- bits behind those that have come

shl_is : (a n : ℕ) → a < 1048576 → n ≤ 20 → a * 2 ^ n % 2 ^ 64 ≡ a * 2 ^ n
shl_is a n h k = shl_exact 20 n 64 h (omega arith)

pub sum_fits : (a n v : ℕ) → a < 1048576 → n ≤ 20 → v < 1048576 → a * 2 ^ n % 2 ^ 64 + v < 18446744073709551616
sum_fits a n v h k w = omega (arith, shl_is a n h k, shl_lt {a = a} 20 n h, pow_mono {i = 20 + n} {j = 40} (omega arith))

pub join_is : (o : Point) (g : Gathered) → o.acc < 1048576 → g.got ≤ 20
    → record { row = o.row; whole = o.whole; acc = o.acc * 2 ^ g.got % 2 ^ 64 + g.value; left = o.left - g.got } ≡ joined_of o g
unfolding joined_of
join_is o g h k = ap (λ (n : ℕ). record { row = o.row; whole = o.whole; acc = n + g.value; left = o.left - g.got }) (shl_is o.acc g.got h k)

-- ---- the end of the turns

-- the bits that the bytes t have from the place p on
abbrev pub rest : List ℕ → ℕ → List ℕ
rest t p = drop p (bits t)

rest_length : (t : List ℕ) (p : ℕ) → length (rest t p) ≡ 8 * length t - p
rest_length t p = length-drop p (bits t) ∙ ap (λ (n : ℕ). n - p) (bits_length t)

abbrev pub carried : Point → List ℕ → List Stage → List TuplePlace → Set → Carried
carried o vs gs ts x = record { point = o; values = vs; stages = gs; places = ts; set = x }

drop_past : {A : Type 0} (n : ℕ) (l : List A) → length l ≤ n → drop n l ≡ []
drop_past zero [] h = refl
drop_past zero (x ∷ l) h = absurd (omega arith)
drop_past (suc n) [] h = refl
drop_past (suc n) (x ∷ l) h = drop_past n l (omega arith)

-- nothing is left of the bytes
turn_end : (c b : Carried) (t : List ℕ) (p : ℕ) → 8 * length t ≤ p → run c (rest t p) ≡ run b (bits t) → c ≡ run b (bits t)
unfolding run
turn_end c b t p h i = ap (run c) (sym (drop_past p (bits t) (omega (arith, bits_length t)))) ∙ i

-- nothing is read any more
turn_stopped : (o : Point) (vs : List ℕ) (gs : List Stage) (ts : List TuplePlace) (x : Set) (b : Carried) (t : List ℕ) (p : ℕ) → o.left ≡ 0 → run (carried o vs gs ts x) (rest t p) ≡ run b (bits t)
    → carried o vs gs ts x ≡ run b (bits t)
turn_stopped o vs gs ts x b t p z i =
    let e : carried o vs gs ts x ≡ reading o.row o.whole vs gs ts x o.acc 0 = ap (reading o.row o.whole vs gs ts x o.acc) z in
    e ∙ sym (run_stopped o.row o.whole vs gs ts x o.acc (rest t p)) ∙ ap (λ (c : Carried). run c (rest t p)) (sym e) ∙ i

-- the loop's two tests
pub both_lt : (a b c d : ℕ) → ltb a b && ltb c d ≡ true → (a < b) × (c < d)
both_lt a b c d e =
    let u = and_parts (ltb a b) (ltb c d) e in (ltb-true a b u.0, ltb-true c d u.1)

one_not : (p q : Bool) → p && q ≡ false → (p ≡ false) ⊎ (q ≡ false)
one_not true q e = inr e
one_not false q e = inl refl

-- one of the two ends the turns
pub turns_end : (o : Point) (vs : List ℕ) (gs : List Stage) (ts : List TuplePlace) (x : Set) (b : Carried) (t : List ℕ) (byte bit : ℕ) → ltb byte (length t) && ltb 0 o.left ≡ false
    → run (carried o vs gs ts x) (rest t (8 * byte + bit)) ≡ run b (bits t) → carried o vs gs ts x ≡ run b (bits t)
turns_end o vs gs ts x b t byte bit e i =
    ⊎_elim (λ (h : ltb byte (length t) ≡ false). turn_end (carried o vs gs ts x) b t (8 * byte + bit) (omega (arith, ltb-false byte (length t) h)) i)
    (λ (h : ltb 0 o.left ≡ false). turn_stopped o vs gs ts x b t (8 * byte + bit) (omega (arith, ltb-false 0 o.left h)) i)
    (one_not (ltb byte (length t)) (ltb 0 o.left) e)

-- ---- a turn: some bits are gathered at the place p of the bytes t, behind the state's own

pub record Turn (o : Point) (vs : List ℕ) (gs : List Stage) (ts : List TuplePlace) (x : Set) (t : List ℕ) (p : ℕ) (g : Gathered) : Type 0 where
  pub kept : Kept (carried o vs gs ts x)
  pub some : 0 < o.left
  pub gathered : g ≡ gather_of t p o.left

pub turned : (o : Point) (vs : List ℕ) (gs : List Stage) (ts : List TuplePlace) (x : Set) (t : List ℕ) (byte bit : ℕ) (g : Gathered) → Kept (carried o vs gs ts x) → ltb byte (length t) && ltb 0 o.left ≡ true
    → g ≡ gather_of t (8 * byte + bit) o.left → Turn o vs gs ts x t (8 * byte + bit) g
turned o vs gs ts x t byte bit g k e q = record { kept = k; some = (both_lt byte (length t) 0 o.left e).1; gathered = q }

-- behind a whole field, n, comes the state c
pub record Behind (n : Point) (vs : List ℕ) (gs : List Stage) (ts : List TuplePlace) (x : Set) (c : Carried) : Type 0 where
  pub at : KeptAt n.row n.whole vs gs ts x
  pub row : n.row < 17
  pub small : n.acc < 1048576
  pub next : next_of n.row n.whole vs gs ts x n.acc ≡ c

module _ {o : Point} {vs : List ℕ} {gs : List Stage} {ts : List TuplePlace} {x : Set} {t : List ℕ} {p : ℕ} {g : Gathered} (w : Turn o vs gs ts x t p g) where
  left_le : o.left ≤ 20
  left_le = omega (arith, w.kept.left, width_le o.row)

  acc_lt : o.acc < 1048576
  acc_lt = omega (arith, w.kept.came, pow_mono {i = width_of o.row - o.left} {j = 20} (omega (arith, width_le o.row)))

  -- how many bits were gathered, and which
  got_is : g.got ≡ min o.left (8 * length t - p)
  unfolding gather_of
  got_is = ap (λ (y : Gathered). y.got) w.gathered ∙ (let q : got_of (length t) p o.left ≡ min o.left (8 * length t - p) = omega (arith, left_le) in q)

  abbrev came : List ℕ
  came = take g.got (rest t p)

  came_length : length came ≡ g.got
  came_length = length-take-le g.got (rest t p) (omega (arith, got_is, rest_length t p))

  came_bits : AreBits came
  came_bits = all_take IsBit g.got (rest t p) (all_drop IsBit p (bits t) (bits_bits t))

  value_is : g.value ≡ value came
  unfolding gather_of field_at
  value_is = ap (λ (y : Gathered). y.value) w.gathered ∙ ap (λ (n : ℕ). value (take n (rest t p))) (sym (ap (λ (y : Gathered). y.got) w.gathered))

  value_small : g.value < 1048576
  value_small = omega (arith, value_is, value_lt came came_bits, ap (λ (n : ℕ). 2 ^ n) came_length, pow_mono {i = g.got} {j = 20} (omega (arith, got_is, left_le)))

  pub got_few : g.got ≤ 20
  got_few = omega (arith, got_is, left_le)

  pub got_some : p < 8 * length t → 0 < g.got
  got_some h = omega (arith, got_is, w.some)

  pub end_le : p ≤ 8 * length t → p + g.got ≤ 8 * length t
  end_le h = omega (arith, got_is)

  pub fits : (g.got ≤ o.left) × (g.got ≤ 20) × (o.acc < 1048576) × (g.value < 1048576)
  fits = (omega (arith, got_is), got_few, acc_lt, value_small)

  -- the state behind them
  abbrev pub ahead : Carried
  ahead = run (carried o vs gs ts x) came

  pub ahead_kept : (c : Carried) → c ≡ ahead → Kept c
  ahead_kept c h = subst Kept (sym h) (kept_run (carried o vs gs ts x) came w.kept came_bits)

  pub ahead_on : (c : Carried) (q : ℕ) → c ≡ ahead → q ≡ p + g.got → run c (rest t q) ≡ run (carried o vs gs ts x) (rest t p)
  ahead_on c q h j =
      ap₂ (λ (y : Carried) (m : ℕ). run y (rest t m)) h j ∙ ap (run ahead) (sym (drop-drop g.got p (bits t)))
      ∙ sym (run_append (carried o vs gs ts x) came (drop g.got (rest t p))) ∙ ap (run (carried o vs gs ts x)) (take-append-drop g.got (rest t p))

  pub ahead_runs : (c b : Carried) (q : ℕ) → c ≡ ahead → q ≡ p + g.got → run (carried o vs gs ts x) (rest t p) ≡ run b (bits t) → run c (rest t q) ≡ run b (bits t)
  ahead_runs c b q h j i = ahead_on c q h j ∙ i

  module _ (n : Point) (jn : n ≡ joined_of o g) where
    -- the number that they make with those that had come
    point_is : n ≡ record { row = o.row; whole = o.whole; acc = onto o.acc came; left = o.left - g.got }
    unfolding joined_of
    point_is =
        jn
        ∙ ap (λ (v : ℕ). record { row = o.row; whole = o.whole; acc = v; left = o.left - g.got })
        (ap₂ (λ (m v : ℕ). o.acc * 2 ^ m + v) (sym came_length) value_is ∙ sym (onto_value o.acc came))

    left_is : n.left ≡ o.left - g.got
    left_is = ap (λ (y : Point). y.left) point_is

    pub left_some : g.got < o.left → n.left ≡ 0 → ⊥
    left_some h z = omega (arith, left_is)

    pub left_none : o.left ≤ g.got → n.left ≡ 0
    left_none h = omega (arith, left_is)

    -- they change no rule, and a value is tested by the one that is kept
    module _ (r : SheetField) (e : r ≡ rule_of o vs) where
      pub rule_stays : r ≡ rule_of n vs
      unfolding joined_of rule_of
      rule_stays = e ∙ ap (λ (y : Point). rule_of y vs) (sym jn)

      pub rule_tests : within r.least n.acc r.greatest ≡ in_rule_of n.row n.whole (value_at vs 8) n.acc
      unfolding in_rule_of rule_of
      rule_tests = ap (λ (y : SheetField). within y.least n.acc y.greatest) rule_stays

    -- the field is not whole yet
    pub turn_part : (n.left ≡ 0 → ⊥) → carried n vs gs ts x ≡ ahead
    turn_part h =
        ap (λ (y : Point). carried y vs gs ts x) point_is
        ∙ ap (λ (j : ℕ). reading o.row o.whole vs gs ts x (onto o.acc came) (o.left - j)) (sym came_length)
        ∙ sym (run_part o.row o.whole vs gs ts x o.acc o.left came (omega (arith, came_length, left_is, h)))

    module _ (z : n.left ≡ 0) where
      whole_length : length came ≡ o.left
      whole_length = omega (arith, came_length, left_is, got_is)

      -- its value fits its width
      acc_small : n.acc < 1048576
      acc_small =
          omega (
            arith,
            ap (λ (y : Point). y.acc) point_is,
            onto_value o.acc came,
            ap (λ (j : ℕ). o.acc * 2 ^ j) whole_length,
            digits_lt {q = o.acc} {m = 2 ^ (width_of o.row - o.left)} w.kept.came (value_lt came came_bits),
            ap (λ (j : ℕ). 2 ^ (width_of o.row - o.left) * 2 ^ j) whole_length,
            pow-add 2 (width_of o.row - o.left) o.left,
            ap (λ (j : ℕ). 2 ^ j) (let q : width_of o.row - o.left + o.left ≡ width_of o.row = omega (arith, w.kept.left) in q),
            pow_mono {i = width_of o.row} {j = 20} (width_le o.row),
          )

      next_is : next_of n.row n.whole vs gs ts x n.acc ≡ ahead
      unfolding run
      next_is =
          ap (λ (y : Point). next_of y.row y.whole vs gs ts x y.acc) point_is
          ∙ sym (run_whole o.row o.whole vs gs ts x o.acc o.left came [] whole_length w.some) ∙ ap (run (carried o vs gs ts x)) (append-nil came)

      pub turn_whole : Behind n vs gs ts x ahead
      turn_whole =
          record {
            at = subst (λ (y : Point). KeptAt y.row y.whole vs gs ts x) (sym point_is) w.kept.at;
            row = omega (arith, ap (λ (y : Point). y.row) point_is, row_some o.row (omega (arith, w.some, w.kept.left)));
            small = acc_small;
            next = next_is;
          }

-- ---- behind a whole field: a way for each

module _ {n : Point} {vs : List ℕ} {gs : List Stage} {ts : List TuplePlace} {x : Set} {c : Carried} (b : Behind n vs gs ts x c) where
  abbrev f : ℕ
  f = n.row

  abbrev v : ℕ
  v = n.acc

  -- the value is out of rule
  pub turn_refused : in_rule_of f n.whole (value_at vs 8) v ≡ false → refused_of (refusal_of f) ≡ c
  unfolding next_of
  turn_refused r = sym (simp r) ∙ b.next

  module _ (r : in_rule_of f n.whole (value_at vs 8) v ≡ true) where
    on_is : goes_on f n.whole vs gs ts x v ≡ c
    unfolding next_of
    on_is = sym (simp r) ∙ b.next

    -- any field but an offset, a cost and the version
    other_is : (f ≡ 8 → ⊥) → (f ≡ 5 → ⊥) → (f ≡ 0 → ⊥) → next_field f n.whole vs gs ts x v ≡ c
    unfolding goes_on
    other_is h i j = sym (simp (ne_eqb f 8 h, ne_eqb f 5 i, ne_eqb f 0 j)) ∙ on_is

    pub turn_field : (f ≡ 8 → ⊥) → (f ≡ 5 → ⊥) → (f ≡ 0 → ⊥) → (new : Point) → new ≡ point_at (following_of x.version f v) n.whole → carried new (set vs f v) gs ts x ≡ c
    unfolding next_field
    turn_field h i j new e = ap (λ (y : Point). carried y (set vs f v) gs ts x) e ∙ other_is h i j

    -- a limit of tuples and a cycle, whose next row is the same in both versions
    named : (g : ℕ) → (g ≡ 8 → ⊥) → (g ≡ 5 → ⊥) → (g ≡ 0 → ⊥) → g + 1 ≡ following_of x.version g v → f ≡ g → (new : Point) → new ≡ point_at (g + 1) n.whole → carried new (set vs g v) gs ts x ≡ c
    named g a d e k h new i =
        ap (λ (j : ℕ). carried new (set vs j v) gs ts x) (sym h)
        ∙ turn_field (λ q. a (sym h ∙ q)) (λ q. d (sym h ∙ q)) (λ q. e (sym h ∙ q)) new
        (i ∙ ap (λ (j : ℕ). point_at j n.whole) (k ∙ ap (λ (j : ℕ). following_of x.version j v) (sym h)))

    pub turn_cycle : f ≡ 7 → (new : Point) → new ≡ point_at 8 n.whole → carried new (set vs 7 v) gs ts x ≡ c
    unfolding following_of
    turn_cycle = named 7 (λ e. omega arith) (λ e. omega arith) (λ e. omega arith) (sym (same_order 7 refl refl x.version))

    -- before the first cycle of a stream no tuple has come
    module _ (h : f ≡ 6) where
      at_limit : KeptAt 6 n.whole vs gs ts x
      at_limit = subst (λ (i : ℕ). KeptAt i n.whole vs gs ts x) h b.at

      none_whole : n.whole ≡ 0
      unfolding most_whole
      none_whole = omega (arith, at_limit.most)

      none_placed : ts ≡ no_tuples
      unfolding tuples_whole
      none_placed = at_limit.tuples.unused

      pub turn_limit : begun 7 0 (set vs 6 v) gs no_tuples x ≡ c
      unfolding following_of
      turn_limit =
          ap₂ (λ (m : ℕ) (us : List TuplePlace). begun 7 m (set vs 6 v) gs us x) (sym none_whole) (sym none_placed)
          ∙ named 6 (λ e. omega arith) (λ e. omega arith) (λ e. omega arith) (sym (same_order 6 refl refl x.version)) h (point_at 7 n.whole) refl

      pub limit_le : value_at (set vs 6 v) 6 ≤ 3
      unfolding greatest_of row_of
      limit_le =
          omega (
            arith,
            get_or-set_same vs 6 v 0 (omega (arith, b.at.nine)),
            rule_high f n.whole (value_at vs 8) v r,
            ap (λ (i : ℕ). greatest_of i n.whole) h,
          )

    -- padding has no value to keep
    pub turn_padding : 9 ≤ f → (new : Point) → new ≡ point_at (f + 1) n.whole → carried new vs gs ts x ≡ c
    unfolding following_of
    turn_padding h new i =
        ap (λ (l : List ℕ). carried new l gs ts x) (sym (set_out vs f v (omega (arith, b.at.nine))))
        ∙ turn_field (λ e. omega arith) (λ e. omega arith) (λ e. omega arith) new
        (i ∙ ap (λ (j : ℕ). point_at j n.whole) (sym (behind_padding x.version f h) ∙ sym (simp (ne_eqb f 1 (λ e. omega arith)))))

    -- the version goes into the set
    pub turn_version : f ≡ 0 → (new : Point) → new ≡ point_at 1 n.whole → carried new vs gs ts (with_version x v) ≡ c
    unfolding goes_on behind_version
    turn_version h new i =
        ap (λ (y : Point). carried y vs gs ts (with_version x v)) i ∙ ap (λ (j : ℕ). goes_on j n.whole vs gs ts x v) (sym h) ∙ on_is

    module _ (h : f ≡ 5) where
      at_cost_lem : KeptAt 5 n.whole vs gs ts x
      at_cost_lem = subst (λ (i : ℕ). KeptAt i n.whole vs gs ts x) h b.at

      pub stage_room : n.whole < 4
      unfolding most_whole
      stage_room = omega (arith, at_cost_lem.most, at_cost_lem.deep)

      cost_is : behind_cost n.whole vs gs ts x v ≡ c
      unfolding goes_on
      cost_is = ap (λ (j : ℕ). goes_on j n.whole vs gs ts x v) (sym h) ∙ on_is

      -- the task's place is emptied before the stages less one are read
      less_is : value_at (set vs 4 0) 3 ≡ value_at vs 3
      less_is = get_or-set_other vs 4 3 0 0 (λ e. omega arith)

      module _ (one : Stage) (on : one ≡ stage_in (value_at vs 4) v) where
        -- another stage comes
        pub turn_stage : n.whole < value_at (set vs 4 0) 3 → (new : Point) → new ≡ point_at 4 (n.whole + 1) → carried new (set vs 4 0) (set gs n.whole one) ts x ≡ c
        unfolding next_stage
        turn_stage l new i =
            ap₂ (λ (y : Point) (q : Stage). carried y (set vs 4 0) (set gs n.whole q) ts x) i on
            ∙ ap (λ (t : Bool). cond t (next_stage n.whole vs gs ts x v) (last_stage n.whole vs gs ts x v)) (sym (lt-ltb n.whole (value_at vs 3) (omega (arith, less_is)))) ∙ cost_is

        -- the stages are whole
        pub turn_stages : value_at (set vs 4 0) 3 ≤ n.whole → (new : Point) → new ≡ point_at (behind_of x.version 5) 0 → carried new (set vs 4 0) (set gs n.whole one) ts x ≡ c
        unfolding last_stage
        turn_stages l new i =
            ap₂ (λ (y : Point) (q : Stage). carried y (set vs 4 0) (set gs n.whole q) ts x) i on
            ∙ ap (λ (t : Bool). cond t (next_stage n.whole vs gs ts x v) (last_stage n.whole vs gs ts x v)) (sym (le-ltb n.whole (value_at vs 3) (omega (arith, less_is)))) ∙ cost_is

    module _ (h : f ≡ 8) where
      at_offset_lem : KeptAt 8 n.whole vs gs ts x
      at_offset_lem = subst (λ (i : ℕ). KeptAt i n.whole vs gs ts x) h b.at

      pub tuple_room : n.whole < 4
      unfolding most_whole
      tuple_room = omega (arith, at_offset_lem.most, at_offset_lem.four)

      pub stream_room_lem : x.count < 16
      stream_room_lem = omega (arith, at_offset_lem.room (omega arith) (omega arith), at_offset_lem.sixteen)

      offset_is : behind_offset n.whole vs gs ts x v ≡ c
      unfolding goes_on
      offset_is = ap (λ (j : ℕ). goes_on j n.whole vs gs ts x v) (sym h) ∙ on_is

      module _ (one : TuplePlace) (on : one ≡ tuple_of (value_at vs 7) v) where
        -- another tuple comes
        pub turn_tuple : n.whole < value_at vs 6 → (new : Point) → new ≡ point_at 7 (n.whole + 1) → carried new (tupled vs v) gs (set ts n.whole one) x ≡ c
        unfolding next_tuple
        turn_tuple l new i =
            ap (λ (y : Point). carried y (tupled vs v) gs (set ts n.whole one) x) i
            ∙ ap (λ (q : TuplePlace). begun 7 (n.whole + 1) (tupled vs v) gs (set ts n.whole q) x) on
            ∙ ap (λ (t : Bool). cond t (next_tuple n.whole vs gs ts x v) (next_stream n.whole vs gs ts x v)) (sym (lt-ltb n.whole (value_at vs 6) l)) ∙ offset_is

        -- the stream is whole
        pub turn_stream : value_at vs 6 ≤ n.whole → (s : Stream) (new : Point) (ws : List ℕ) (hs : List Stage) (us : List TuplePlace) → s ≡ stream_in vs gs (n.whole + 1) (set ts n.whole one)
            → new ≡ point_at (opened_of x.version (x.count + 1) (value_at vs 1)) 0 → ws ≡ front_of vs → hs ≡ no_stages → us ≡ no_tuples → carried new ws hs us (with_stream x s) ≡ c
        unfolding next_stream
        turn_stream l s new ws hs us i j k o m =
            ap₂ (λ (y : Point) (u : List ℕ). carried y u hs us (with_stream x s)) j k
            ∙ ap₂ (λ (u : List Stage) (w : List TuplePlace). carried (point_at (opened_of x.version (x.count + 1) (value_at vs 1)) 0) (front_of vs) u w (with_stream x s)) o m
            ∙ ap (λ (q : Stream). carried (point_at (opened_of x.version (x.count + 1) (value_at vs 1)) 0) (front_of vs) no_stages no_tuples (with_stream x q))
            (i ∙ ap (λ (q : TuplePlace). stream_in vs gs (n.whole + 1) (set ts n.whole q)) on)
            ∙ ap (λ (t : Bool). cond t (next_tuple n.whole vs gs ts x v) (next_stream n.whole vs gs ts x v)) (sym (le-ltb n.whole (value_at vs 6) l)) ∙ offset_is

-- a refused sheet reads no further
pub refused_stays : (f : ℕ) (b : Carried) (t : List ℕ) (p : ℕ) → 17 ≤ f → run (refused_of f) (rest t p) ≡ run b (bits t) → refused_of f ≡ run b (bits t)
unfolding refused_of
refused_stays f b t p h i = turn_stopped (point_at f 0) no_values no_stages no_tuples empty_set b t p (let q : width_of f ≡ 0 = omega (arith, width_none f h) in q) i
