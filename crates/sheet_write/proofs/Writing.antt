-- The fields of a set go into a buffer one behind the other, and the buffer then holds the set's sheet.
-- Assumes nothing.
use Prim.Native.Nat.{ℕ, zero, suc, ◌+◌, ◌-◌, ◌*◌, ◌/◌, ◌≤◌, ◌<◌}
use mathlib.Core.List.{List, [], ◌∷◌, ◌++◌, append_assoc, append-nil}
use mathlib.Core.Path.{◌≡◌, refl, sym, ap, ap₂, ◌∙◌}
use mathlib.Core.Bool.{Bool, true, false}
use native.Mathlib.Omega.{arith}
use native.Mathlib.Numerals.{add-one}
use lib.ListN.{length, get_or, take, drop, replicate, length-append, length-replicate, length-take, replicate-append-replicate}
use lib.Seq.{drop-append-le, paste, take-suc, length-take-le, take-length}
use lib.Dec.{eqb}
use borrow.Author.Tests.{eq-eqb, le-leb, lt-leb, ne_eqb}
use Rattle.laws.specs.Lists.{flat}
use Rattle.laws.specs.Bits.{bits, bytes_for, to_bits, zeros}
use Rattle.laws.proofs.Sums.{all_at, all_map}
use Rattle.laws.proofs.Fields.{AreBytes, bits_append, to_bits_length, to_bits_zero}
use Rattle.laws.proofs.Packing.{drop_bits, front, front_bytes, pack_length, pad_of, paste_front, paste_more}
use Rattle.bits.specs.Places.{behind, put_bits, put_by, put_of}
use Rattle.bits.specs.declared.NotPut.{NotPut}
use Rattle.rules.specs.declared.Tuple.{Tuple}
use Rattle.rules.specs.declared.Tuple.TheVariants.{Once, Every}
use Rattle.rules.specs.declared.TuplePlace.{TuplePlace}
use Rattle.rules.specs.declared.Stage.{Stage}
use Rattle.rules.specs.declared.Stream.{Stream}
use Rattle.rules.specs.declared.Set.{Set}
use Rattle.rules.specs.declared.Refusal.TheVariants.{OutOfRule, ShortBuffer}
use Rattle.std.specs.Prelude.{Result, Ok, Err}
use Rattle.rules.specs.declared.Refusal.{Refusal}
use Rattle.rules.specs.Streams.{no_stream, offset, stages_of, streams_of, tuples_of, valid}
use Rattle.rules.specs.Sheet.{buffer_by, buffer_of, head_bits, place_bits, sheet_bits, sheet_of, stage_bits, stream_bits, tuple_bits, write_of}
use Rattle.rules.specs.Valid.{ValidSet, ValidStage, ValidStream}
use Rattle.rules.proofs.Valid.{valid_set}
use Rattle.sheet_write.specs.Writer.{TaskFits, Written, WrittenSet, cycle_of}
use Rattle.sheet_write.proofs.Back.{head_by, sheet_bits_lem}
use Rattle.sheet_write.proofs.Rounds.{besides, besides_most, head_length, sheet_length, stages_length, stream_most, stream_parts, tuples_length}

-- ---- one field

pub put_is : (s : List ℕ) (at w v p : ℕ) → p ≡ at → w ≤ 64 → at + w ≤ 8 * length s → put_bits s p w v ≡ paste (bits s) at (to_bits w v) w
unfolding put_bits put_of
put_is s at w v p e h k =
    ap (λ (q : ℕ). put_bits s q w v) e
    ∙ ap (λ (r : Result (Unit {0}) NotPut). put_by r (bits s) at w v) (let d : put_of (length s) at w ≡ Ok tt = simp (le-leb w 64 h, le-leb w (behind (length s) at) (omega arith)) in d)

-- a field behind the fields f
paste_next : (d f g : List ℕ) (at n w q : ℕ) → at ≤ length d → length f ≡ n → length g ≡ w → q ≡ at + n → paste (paste d at f n) q g w ≡ paste d at (f ++ g) (n + w)
paste_next d f g at n w q h ef eg e = ap (λ (j : ℕ). paste (paste d at f n) j g w) e ∙ paste_more d f g at n w h ef eg

-- the number of places of what is pasted
paste_size : (d f : List ℕ) (at n : ℕ) → length f ≡ n → paste d at f n ≡ paste d at f (length f)
paste_size d f at n e = ap (paste d at f) (sym e)

-- ---- pairs of fields: a stage's task and cost, a tuple's cycle and offset

flat_snoc : {A : Type 0} (f : A → List ℕ) (l : List A) (a : A) → flat f (l ++ (a ∷ [])) ≡ flat f l ++ f a
unfolding flat
flat_snoc f [] a = append-nil (f a)
flat_snoc f (x ∷ l) a = ap (λ (y : List ℕ). f x ++ y) (flat_snoc f l a) ∙ sym (append_assoc (f x) (flat f l) (f a))

flat_more : {A : Type 0} (f : A → List ℕ) (l : List A) (k : ℕ) (z : A) → k < length l → flat f (take (k + 1) l) ≡ flat f (take k l) ++ f (get_or l k z)
flat_more {A} f l k z h =
    ap (λ (j : List A). flat f j) (ap (λ (n : ℕ). take n l) (add-one k) ∙ take-suc l k z h) ∙ flat_snoc f (take k l) (get_or l k z)

-- one pair of n bits behind k of them, the first field i bits wide and the second j
module _ {A : Type 0} (f : A → List ℕ) (first second : A → ℕ) (i j n : ℕ) (sum : n ≡ i + j) (is : (a : A) → f a ≡ to_bits i (first a) ++ to_bits j (second a)) (size : (l : List A) → length (flat f l) ≡ n * length l) where
  pub some_pairs : (l : List A) (k : ℕ) → k ≤ length l → length (flat f (take k l)) ≡ n * k
  some_pairs l k h = size (take k l) ∙ ap (λ (m : ℕ). n * m) (length-take-le k l h)

  pub pair_more : (d : List ℕ) (l : List A) (k at : ℕ) (z : A) → k < length l → at ≤ length d
      → paste (paste (paste d at (flat f (take k l)) (n * k)) (at + n * k) (to_bits i (first (get_or l k z))) i) (at + n * k + i) (to_bits j (second (get_or l k z))) j
      ≡ paste d at (flat f (take (k + 1) l)) (n * (k + 1))
  pair_more d l k at z h hd =
      let p : A = get_or l k z in
      let g : List ℕ = flat f (take k l) in
      let a : List ℕ = to_bits i (first p) in
      let b : List ℕ = to_bits j (second p) in
      let e : length g ≡ n * k = some_pairs l k (omega arith) in
      ap (λ (m : List ℕ). paste m (at + n * k + i) b j) (paste_next d g a at (n * k) i (at + n * k) hd e (to_bits_length i (first p)) refl)
      ∙ paste_next d (g ++ a) b at (n * k + i) j (at + n * k + i) hd (omega (arith, length-append g a, to_bits_length i (first p), e)) (to_bits_length j (second p)) (omega arith)
      ∙ ap₂ (λ (m : List ℕ) (c : ℕ). paste d at m c)
      (append_assoc g a b ∙ ap (λ (m : List ℕ). g ++ m) (sym (is p)) ∙ sym (flat_more f l k z h))
      (let q : n * k + i + j ≡ n * (k + 1) = omega (arith, sum) in q)

-- a stage, and the stages of a stream
pub stage_more : (d : List ℕ) (gs : List Stage) (k at : ℕ) (z : Stage) → k < length gs → at ≤ length d
    → paste (paste (paste d at (flat stage_bits (take k gs)) (20 * k)) (at + 20 * k) (to_bits 4 (get_or gs k z).task) 4) (at + 20 * k + 4) (to_bits 16 (get_or gs k z).cost) 16
    ≡ paste d at (flat stage_bits (take (k + 1) gs)) (20 * (k + 1))
stage_more d gs k at z h hd = pair_more stage_bits (λ g. g.task) (λ g. g.cost) 4 16 20 refl (λ g. refl) stages_length d gs k at z h hd

pub stages_all : (d : List ℕ) (gs : List Stage) (k at : ℕ) → k ≡ length gs → paste d at (flat stage_bits (take k gs)) (20 * k) ≡ paste d at (flat stage_bits gs) (length (flat stage_bits gs))
stages_all d gs k at e =
    ap₂ (λ (l : List Stage) (n : ℕ). paste d at (flat stage_bits l) n) (ap (λ (n : ℕ). take n gs) e ∙ take-length gs) (ap (λ (n : ℕ). 20 * n) e ∙ sym (stages_length gs))

pub stages_room : (s : Stream) → s.depth ≤ 4 → length s.stages ≡ 4 → length (flat stage_bits (stages_of s)) ≡ 20 * s.depth
stages_room s h e = some_pairs stage_bits (λ g. g.task) (λ g. g.cost) 4 16 20 refl (λ g. refl) stages_length s.stages s.depth (omega arith)

pub task_fits : (s : Stream) → Written s → (k : ℕ) (z : Stage) → k < length (stages_of s) → (get_or (stages_of s) k z).task ≤ 15
task_fits s w k z h = all_at TaskFits (stages_of s) k z h w.tasks

-- a tuple, and the tuples of a stream
place_bits_lem : (p : TuplePlace) → place_bits p ≡ to_bits 20 (cycle_of p.tuple) ++ to_bits 17 (offset p.tuple)
place_bits_lem p = by_tuple_lem p.tuple
  where
    by_tuple_lem : (t : Tuple) → tuple_bits t ≡ to_bits 20 (cycle_of t) ++ to_bits 17 (offset t)
    by_tuple_lem (Once a) = refl
    by_tuple_lem (Every z a) = refl

pub tuple_more : (d : List ℕ) (ts : List TuplePlace) (k at : ℕ) (z : TuplePlace) → k < length ts → at ≤ length d
    → paste (paste (paste d at (flat place_bits (take k ts)) (37 * k)) (at + 37 * k) (to_bits 20 (cycle_of (get_or ts k z).tuple)) 20) (at + 37 * k + 20) (to_bits 17 (offset (get_or ts k z).tuple)) 17
    ≡ paste d at (flat place_bits (take (k + 1) ts)) (37 * (k + 1))
tuple_more d ts k at z h hd = pair_more place_bits (λ p. cycle_of p.tuple) (λ p. offset p.tuple) 20 17 37 refl place_bits_lem tuples_length d ts k at z h hd

pub tuples_all : (d : List ℕ) (ts : List TuplePlace) (k at : ℕ) → k ≡ length ts → paste d at (flat place_bits (take k ts)) (37 * k) ≡ paste d at (flat place_bits ts) (length (flat place_bits ts))
tuples_all d ts k at e =
    ap₂ (λ (l : List TuplePlace) (n : ℕ). paste d at (flat place_bits l) n) (ap (λ (n : ℕ). take n ts) e ∙ take-length ts) (ap (λ (n : ℕ). 37 * n) e ∙ sym (tuples_length ts))

pub tuples_room : (s : Stream) → s.count ≤ 4 → length s.tuples ≡ 4 → length (flat place_bits (tuples_of s)) ≡ 37 * s.count
tuples_room s h e = some_pairs place_bits (λ p. cycle_of p.tuple) (λ p. offset p.tuple) 20 17 37 refl place_bits_lem tuples_length s.tuples s.count (omega arith)

-- ---- a stream

-- how many bits the head has, by its version
module _ (version : ℕ) (s : Stream) (h : s.depth ≤ 4) (e : length s.stages ≡ 4) where
  pub head_size : length (head_bits version s) ≡ besides (eqb version 1) + 20 * s.depth
  head_size = omega (arith, head_length version s, length-take-le s.depth s.stages (omega arith))

  pub head_first : version ≡ 1 → 18 + 20 * s.depth ≡ length (head_bits version s)
  head_first q = omega (arith, head_size, ap (λ (n : ℕ). besides (eqb n 1)) q)

  pub head_other : (version ≡ 1 → ⊥) → 20 + 20 * s.depth ≡ length (head_bits version s)
  head_other q = omega (arith, head_size, ap besides (ne_eqb version 1 q))

pub head_most : (version : ℕ) (s : Stream) → s.depth ≤ 4 → length (head_bits version s) ≤ 100
head_most version s h = omega (arith, head_length version s, besides_most (eqb version 1), length-take s.depth s.stages)

-- the fields of a head, one behind the other
first_paste : (d : List ℕ) (gs : List Stage) (n deadline at : ℕ) → at ≤ length d → length (flat stage_bits gs) ≡ n
    → paste (paste d at (flat stage_bits gs) (length (flat stage_bits gs))) (at + n) (to_bits 18 deadline) 18 ≡ paste d at (flat stage_bits gs ++ to_bits 18 deadline) (length (flat stage_bits gs ++ to_bits 18 deadline))
first_paste d gs n deadline at h e =
    let g : List ℕ = flat stage_bits gs in
    let t : List ℕ = to_bits 18 deadline in
    paste_next d g t at (length g) 18 (at + n) h refl (to_bits_length 18 deadline) (omega arith)
    ∙ ap (paste d at (g ++ t)) (let q : length g + 18 ≡ length (g ++ t) = omega (arith, length-append g t, to_bits_length 18 deadline) in q)

other_paste : (d : List ℕ) (gs : List Stage) (n deadline at : ℕ) → at ≤ length d
    → paste (paste (paste d at (to_bits 18 deadline) 18) (at + 18) (to_bits 2 n) 2) (at + 20) (flat stage_bits gs) (length (flat stage_bits gs))
    ≡ paste d at (to_bits 18 deadline ++ (to_bits 2 n ++ flat stage_bits gs)) (length (to_bits 18 deadline ++ (to_bits 2 n ++ flat stage_bits gs)))
other_paste d gs n deadline at h =
    let g : List ℕ = flat stage_bits gs in
    let t : List ℕ = to_bits 18 deadline in
    let m : List ℕ = to_bits 2 n in
    let lt : length t ≡ 18 = to_bits_length 18 deadline in
    let lm : length m ≡ 2 = to_bits_length 2 n in
    ap (λ (l : List ℕ). paste l (at + 20) g (length g)) (paste_next d t m at 18 2 (at + 18) h lt lm refl)
    ∙ paste_next d (t ++ m) g at 20 (length g) (at + 20) h (omega (arith, length-append t m)) refl refl
    ∙ ap₂ (λ (l : List ℕ) (k : ℕ). paste d at l k) (append_assoc t m g)
    (let q : 20 + length g ≡ length (t ++ (m ++ g)) = omega (arith, length-append t (m ++ g), length-append m g) in q)

module _ (d : List ℕ) (version : ℕ) (s : Stream) (at : ℕ) (h : at ≤ length d) where
  pub head_first_paste : (w : Written s) → length s.stages ≡ 4 → version ≡ 1
      → paste (paste d at (flat stage_bits (stages_of s)) (length (flat stage_bits (stages_of s)))) (at + 20 * s.depth) (to_bits 18 s.deadline) 18
      ≡ paste d at (head_bits version s) (length (head_bits version s))
  unfolding head_bits
  head_first_paste w e q =
      first_paste d (stages_of s) (20 * s.depth) s.deadline at h (stages_room s w.shallow e)
      ∙ ap (λ (b : Bool). paste d at (head_by b (stages_of s) s.depth s.deadline) (length (head_by b (stages_of s) s.depth s.deadline))) (sym (eq-eqb version 1 q))

  pub head_other_paste : (version ≡ 1 → ⊥)
      → paste (paste (paste d at (to_bits 18 s.deadline) 18) (at + 18) (to_bits 2 (s.depth - 1)) 2) (at + 20) (flat stage_bits (stages_of s)) (length (flat stage_bits (stages_of s)))
      ≡ paste d at (head_bits version s) (length (head_bits version s))
  unfolding head_bits
  head_other_paste q =
      other_paste d (stages_of s) (s.depth - 1) s.deadline at h
      ∙ ap (λ (b : Bool). paste d at (head_by b (stages_of s) s.depth s.deadline) (length (head_by b (stages_of s) s.depth s.deadline))) (sym (ne_eqb version 1 q))

  pub stream_paste : (end : ℕ) → end ≡ at + length (head_bits version s)
      → paste (paste (paste d at (head_bits version s) (length (head_bits version s))) end (to_bits 2 (s.count - 1)) 2) (end + 2) (flat place_bits (tuples_of s)) (length (flat place_bits (tuples_of s)))
      ≡ paste d at (stream_bits version s) (length (stream_bits version s))
  unfolding stream_bits
  stream_paste end q =
      let f : List ℕ = head_bits version s in
      let n : List ℕ = to_bits 2 (s.count - 1) in
      let ts : List ℕ = flat place_bits (tuples_of s) in
      let ln : length n ≡ 2 = to_bits_length 2 (s.count - 1) in
      ap (λ (l : List ℕ). paste l (end + 2) ts (length ts)) (paste_next d f n at (length f) 2 end h refl ln q)
      ∙ paste_next d (f ++ n) ts at (length f + 2) (length ts) (end + 2) h (omega (arith, length-append f n)) refl (omega arith)
      ∙ ap₂ (λ (l : List ℕ) (m : ℕ). paste d at l m) (append_assoc f n ts)
      (let u : length f + 2 + length ts ≡ length (stream_bits version s) = omega (arith, stream_parts version s) in u)

pub stream_bits_length : (version : ℕ) (s : Stream) (head : ℕ) → s.count ≤ 4 → length s.tuples ≡ 4 → head ≡ length (head_bits version s) → head + 2 + 37 * s.count ≡ length (stream_bits version s)
stream_bits_length version s head h e q = omega (arith, stream_parts version s, tuples_room s h e)

-- ---- the streams of a set

-- the fields of the first k streams
abbrev pub up_to : Set → ℕ → List ℕ
up_to x k = flat (stream_bits x.version) (take k (streams_of x))

module _ (x : Set) (w : WrittenSet x) where
  pub count_is : length (streams_of x) ≡ x.count
  count_is = length-take-le x.count x.streams (omega (arith, w.few, w.sixteen))

  module _ (k : ℕ) (z : Stream) (h : k < x.count) where
    pub stream_written : Written (get_or (streams_of x) k z)
    stream_written = all_at Written (streams_of x) k z (omega (arith, count_is)) w.streams

    up_to_more : up_to x (k + 1) ≡ up_to x k ++ stream_bits x.version (get_or (streams_of x) k z)
    up_to_more = flat_more (stream_bits x.version) (streams_of x) k z (omega (arith, count_is))

    pub up_to_length : length (up_to x (k + 1)) ≡ length (up_to x k) + length (stream_bits x.version (get_or (streams_of x) k z))
    up_to_length = ap length up_to_more ∙ length-append (up_to x k) (stream_bits x.version (get_or (streams_of x) k z))

    stream_next : (d : List ℕ) → 9 ≤ length d
        → paste (paste d 9 (up_to x k) (length (up_to x k))) (9 + length (up_to x k)) (stream_bits x.version (get_or (streams_of x) k z)) (length (stream_bits x.version (get_or (streams_of x) k z)))
        ≡ paste d 9 (up_to x (k + 1)) (length (up_to x (k + 1)))
    stream_next d hd =
        let s : Stream = get_or (streams_of x) k z in
        paste_next d (up_to x k) (stream_bits x.version s) 9 (length (up_to x k)) (length (stream_bits x.version s)) (9 + length (up_to x k)) hd refl refl refl
        ∙ ap₂ (λ (l : List ℕ) (m : ℕ). paste d 9 l m) (sym up_to_more) (sym up_to_length)

    pub stream_step : (d b b' : List ℕ) (at : ℕ) → 9 ≤ length d → b ≡ paste d 9 (up_to x k) (length (up_to x k)) → at ≡ 9 + length (up_to x k)
        → b' ≡ paste b at (stream_bits x.version (get_or (streams_of x) k z)) (length (stream_bits x.version (get_or (streams_of x) k z))) → b' ≡ paste d 9 (up_to x (k + 1)) (length (up_to x (k + 1)))
    stream_step d b b' at hd e f g =
        let s : Stream = get_or (streams_of x) k z in
        g ∙ ap₂ (λ (l : List ℕ) (p : ℕ). paste l p (stream_bits x.version s) (length (stream_bits x.version s))) e f ∙ stream_next d hd

  pub up_to_most : (k : ℕ) → k ≤ x.count → length (up_to x k) ≤ 250 * k
  unfolding flat
  up_to_most zero h = omega arith
  up_to_most (suc k) h =
      omega (
        arith,
        up_to_most k (omega arith),
        up_to_length k no_stream (omega arith),
        ap (λ (n : ℕ). length (up_to x n)) (add-one k),
        stream_most x.version (get_or (streams_of x) k no_stream) (stream_written k no_stream (omega arith)).shallow (stream_written k no_stream (omega arith)).few,
      )

  flat_rest : {A : Type 0} (f : A → List ℕ) (k : ℕ) (l : List A) → length (flat f (take k l)) ≤ length (flat f l)
  unfolding flat
  flat_rest f zero l = omega arith
  flat_rest f (suc k) [] = omega arith
  flat_rest f (suc k) (a ∷ l) = omega (arith, length-append (f a) (flat f (take k l)), length-append (f a) (flat f l), flat_rest f k l)

  pub up_to_le : (k : ℕ) → length (up_to x k) ≤ length (flat (stream_bits x.version) (streams_of x))
  up_to_le k = flat_rest (stream_bits x.version) k (streams_of x)

  pub up_to_all : up_to x x.count ≡ flat (stream_bits x.version) (streams_of x)
  up_to_all = ap (λ (n : ℕ). flat (stream_bits x.version) (take n (streams_of x))) (sym count_is) ∙ ap (λ (l : List Stream). flat (stream_bits x.version) l) (take-length (streams_of x))

  module _ (k : ℕ) (z : Stream) (end r : ℕ) (h : k < x.count) (e : end ≡ 9 + length (up_to x k)) (q : r ≡ length (stream_bits x.version (get_or (streams_of x) k z))) where
    -- the end behind one stream more
    pub end_next : end + r ≡ 9 + length (up_to x (k + 1))
    end_next = omega (arith, up_to_length k z h, e, q)

    pub end_fits : end + r ≤ 4009
    end_fits = omega (arith, end_next, up_to_most (k + 1) (omega arith), w.few)

    pub end_room : end + length (stream_bits x.version (get_or (streams_of x) k z)) ≤ 9 + length (flat (stream_bits x.version) (streams_of x))
    end_room = omega (arith, end_next, up_to_le (k + 1), q)

  pub stream_room_lem : (k : ℕ) (z : Stream) (end m n : ℕ) → k < x.count → end ≡ 9 + length (up_to x k) → 9 + length (flat (stream_bits x.version) (streams_of x)) ≤ 8 * m → n ≡ m
      → end + length (stream_bits x.version (get_or (streams_of x) k z)) ≤ 8 * n
  stream_room_lem k z end m n h e r q = omega (arith, end_room k z end (length (stream_bits x.version (get_or (streams_of x) k z))) h e refl)

  pub end_is : (k end : ℕ) → k ≡ x.count → end ≡ 9 + length (up_to x k) → end ≡ length (sheet_bits x)
  end_is k end e h = omega (arith, h, sheet_length x, ap (λ (n : ℕ). length (up_to x n)) e, ap length up_to_all)

  pub sheet_most : length (sheet_bits x) ≤ 4009
  sheet_most = omega (arith, sheet_length x, ap length up_to_all, up_to_most x.count (omega arith), w.few)

  pub streams_all : (d b : List ℕ) (k : ℕ) → k ≡ x.count → b ≡ paste d 9 (up_to x k) (length (up_to x k)) → b ≡ paste d 9 (flat (stream_bits x.version) (streams_of x)) (length (flat (stream_bits x.version) (streams_of x)))
  streams_all d b k e h = h ∙ ap (λ (l : List ℕ). paste d 9 l (length l)) (ap (up_to x) e ∙ up_to_all)

-- ---- the whole sheet

stream_fits : (s : Stream) → ValidStream s → Written s
stream_fits s v =
    record {
      tasks = all_map ValidStage TaskFits (stages_of s) (λ g k. k.task) v.stages;
      deep = v.depth.low;
      shallow = v.depth.high;
      some = v.count.low;
      few = v.count.high;
    }

pub written_set : (x : Set) → valid x ≡ true → length x.streams ≡ 16 → WrittenSet x
written_set x v e = let k : ValidSet x = valid_set x v in record { few = k.count; sixteen = e; streams = all_map ValidStream Written (streams_of x) stream_fits k.streams }

-- the three writes of a sheet, in a buffer's bits
abbrev writes : Set → List ℕ → List ℕ
writes x d =
    paste (paste (paste d 0 (to_bits 4 x.version) 4) 4 (to_bits 5 x.count) 5) 9 (flat (stream_bits x.version) (streams_of x)) (length (flat (stream_bits x.version) (streams_of x)))

-- bytes that are zero
zero_bits : (n : ℕ) → bits (replicate n 0) ≡ zeros (8 * n)
unfolding bits
zero_bits zero = refl
zero_bits (suc n) =
    ap₂ (λ (a b : List ℕ). a ++ b) (to_bits_zero 8) (zero_bits n) ∙ replicate-append-replicate 8 (8 * n) 0 ∙ ap zeros (let e : 8 + 8 * n ≡ 8 * suc n = omega arith in e)

drop_zeros : (k m : ℕ) → k ≤ m → drop k (zeros m) ≡ zeros (m - k)
drop_zeros zero m h = ap zeros (let e : m ≡ m - 0 = omega arith in e)
drop_zeros (suc k) zero h = absurd (omega arith)
drop_zeros (suc k) (suc m) h = drop_zeros k m (omega arith) ∙ ap zeros (let e : m - k ≡ suc m - suc k = omega arith in e)

module _ (x : Set) (old new : List ℕ) (end n : ℕ) (v : valid x ≡ true) (ee : end ≡ length (sheet_bits x)) (en : n ≡ (end + 7) / 8) where
  n_is : n ≡ length (sheet_of x)
  unfolding sheet_of
  n_is = en ∙ ap bytes_for ee ∙ sym (pack_length (sheet_bits x))

  pub short : length old < n → (Err ShortBuffer ≡ write_of x (length old)) × (old ≡ buffer_of x old)
  unfolding write_of buffer_of
  short h =
      let e : Err ShortBuffer ≡ write_of x (length old) = simp (v, lt-leb (length (sheet_of x)) (length old) (omega (arith, n_is))) in
      (e, ap (λ (r : Result ℕ Refusal). buffer_by r x old) e)

  -- the bits behind the fields: zeros up to the end of the byte, and the others as they were
  behind_is : n ≤ length old → drop end (bits (replicate n 0 ++ drop n old)) ≡ zeros (8 * n - end) ++ drop (8 * n) (bits old)
  behind_is h =
      ap (drop end) (bits_append (replicate n 0) (drop n old) ∙ ap (λ (l : List ℕ). l ++ bits (drop n old)) (zero_bits n))
      ∙ drop-append-le end (zeros (8 * n)) (bits (drop n old)) (omega (arith, en, length-replicate {A = ℕ} (8 * n) 0))
      ∙ ap₂ (λ (a b : List ℕ). a ++ b) (drop_zeros end (8 * n) (omega (arith, en))) (sym (drop_bits n old))

  padded : n ≤ length old → front (sheet_bits x) (bits (replicate n 0 ++ drop n old)) ≡ front (sheet_bits x ++ zeros (pad_of (length (sheet_bits x)))) (bits old)
  padded h =
      let f : List ℕ = sheet_bits x in
      let p : ℕ = pad_of (length f) in
      ap (λ (k : ℕ). f ++ drop k (bits (replicate n 0 ++ drop n old))) (sym ee) ∙ ap (λ (l : List ℕ). f ++ l) (behind_is h)
      ∙ sym (append_assoc f (zeros (8 * n - end)) (drop (8 * n) (bits old)))
      ∙ ap₂ (λ (j k : ℕ). (f ++ zeros j) ++ drop k (bits old)) (let q : 8 * n - end ≡ p = omega (arith, ee, en) in q)
      (let q : 8 * n ≡ length (f ++ zeros p) = omega (arith, ee, en, length-append f (zeros p), length-replicate {A = ℕ} p 0) in q)

  front_is : n ≤ length old → bits new ≡ writes x (bits (replicate n 0 ++ drop n old)) → bits new ≡ front (sheet_bits x ++ zeros (pad_of (length (sheet_bits x)))) (bits old)
  unfolding sheet_bits
  front_is h e =
      let d : List ℕ = bits (replicate n 0 ++ drop n old) in
      let a : List ℕ = to_bits 4 x.version in
      let c : List ℕ = to_bits 5 x.count in
      let ss : List ℕ = flat (stream_bits x.version) (streams_of x) in
      let la : length a ≡ 4 = to_bits_length 4 x.version in
      let lc : length c ≡ 5 = to_bits_length 5 x.count in
      e
      ∙ ap (λ (l : List ℕ). paste l 9 ss (length ss)) (paste_next d a c 0 4 5 4 (omega arith) la lc refl)
      ∙ paste_next d (a ++ c) ss 0 9 (length ss) 9 (omega arith) (omega (arith, length-append a c)) refl refl
      ∙ paste_front d ((a ++ c) ++ ss) (9 + length ss) (omega (arith, length-append (a ++ c) ss, length-append a c))
      ∙ ap (λ (l : List ℕ). front l d) (append_assoc a c ss) ∙ padded h

  pub wrote : n ≤ length old → AreBytes old → AreBytes new → bits new ≡ writes x (bits (replicate n 0 ++ drop n old))
      → (Ok n ≡ write_of x (length old)) × (new ≡ buffer_of x old)
  unfolding write_of buffer_of sheet_of
  wrote h ho hn e =
      let r : Ok n ≡ write_of x (length old) = simp (v, le-leb (length (sheet_of x)) (length old) (omega (arith, n_is))) (ap Ok n_is) in (
        r,
        front_bytes (sheet_bits x) old new (sheet_bits_lem x) ho hn (front_is h e)
            ∙ ap (λ (j : ℕ). sheet_of x ++ drop j old) (sym (pack_length (sheet_bits x)) ∙ sym n_is) ∙ ap (λ (y : Result ℕ Refusal). buffer_by y x old) r,
      )

pub invalid : (x : Set) (old : List ℕ) → valid x ≡ false → (Err OutOfRule ≡ write_of x (length old)) × (old ≡ buffer_of x old)
unfolding write_of buffer_of
invalid x old v =
    let e : Err OutOfRule ≡ write_of x (length old) = simp v in
    (e, ap (λ (r : Result ℕ Refusal). buffer_by r x old) e)
