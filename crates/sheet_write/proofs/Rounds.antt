-- A set and its sheet determine each other, how long a sheet is, and when each refusal is given.
-- Assumes nothing.
use Prim.Native.Nat.{ℕ, ◌+◌, ◌-◌, ◌*◌, ◌≤◌, ◌<◌}
use mathlib.Core.List.{List, [], ◌∷◌, ◌++◌, append_assoc}
use mathlib.Core.Path.{◌≡◌, refl, sym, ap, ◌∙◌, subst}
use mathlib.Core.Bool.{Bool, true, false, cond, ◌&&◌, false≢true}
use native.Mathlib.Omega.{arith}
use native.Mathlib.Nat.{mul-le-mul_left}
use lib.ListN.{length, take, drop, length-append, length-take}
use lib.Dec.{eqb, leb, ltb}
use borrow.Author.Tests.{eqb-true, leb-false, leb-true, lt-leb, le-leb, ltb-true}
use Rattle.std.specs.List.{list_all, list_any}
use Rattle.laws.specs.Lists.{All, flat, within}
use Rattle.laws.specs.Bits.{bits, bytes_for, to_bits, value, zeros}
use Rattle.laws.proofs.Sums.{all_each, all_map, all_zip, and_parts, by_test}
use Rattle.laws.proofs.Fields.{AreBits, AreBytes, IsBit, all_drop, all_replicate, bits_bits, taken_split, to_bits_length}
use Rattle.laws.proofs.Packing.{pack_length, pack_unique}
use Rattle.rules.specs.declared.Tuple.{Tuple}
use Rattle.rules.specs.declared.Tuple.TheVariants.{Once, Every}
use Rattle.rules.specs.declared.TuplePlace.{TuplePlace}
use Rattle.rules.specs.declared.Stage.{Stage}
use Rattle.rules.specs.declared.Stream.{Stream}
use Rattle.rules.specs.declared.Set.{Set}
use Rattle.rules.specs.declared.Refusal.TheVariants.{BitsMissing, BadVersion, OutOfRule, Leftover, ShortBuffer}
use Rattle.rules.specs.declared.ReadResult.{ReadResult}
use Rattle.std.specs.Prelude.{Result, Ok, Err}
use Rattle.rules.specs.declared.Refusal.{Refusal}
use Rattle.rules.specs.Streams.{FourPlaces, Placed, empty_set, no_stream, stages_of, streams_of, tuples_of, valid}
use Rattle.rules.specs.Sheet.{head_bits, is_zero, no_set, place_bits, read_bits, read_end, read_of, set_of, sheet_bits, sheet_of, stage_bits, stream_bits, tuple_bits, write_of}
use Rattle.rules.specs.Numbers.{number, read_says, refused, write_says, wrote}
use Rattle.rules.specs.Valid.{ValidSet, ValidStream}
use Rattle.rules.proofs.Valid.{streams_few, valid_set}
use Rattle.sheet_carried.proofs.Filled.{cond_elim}
use Rattle.sheet_write.specs.Answers.{Begins, ReadPlaced, ReadRefusals, SheetTells, SixExactly, TenExactly, WriteElevenExactly, WriteSevenExactly, WroteExactly, reading_says}
use Rattle.sheet_write.specs.Long.{FirstAtMost, FullSheet, FullStream, SheetAtMost, longest_first, longest_sheet}
use Rattle.sheet_carried.proofs.Whole.{Staged, set_holds, set_staged, whole_set}
use Rattle.sheet_write.proofs.Back.{fields_read, head_by, read_back, sheet_bits_lem, version_next}
use Rattle.sheet_write.proofs.Accepted.{count_ends, field_ends}

-- ---- what is accepted

-- a string of bits that is accepted as x: the fields of x, which is valid, and fewer than eight zero bits
pub record Accepted (bs : List ℕ) (x : Set) : Type 0 where
  pub ok : valid x ≡ true
  pub placed : Placed x
  pub pads : ℕ
  pub few : pads < 8
  pub same : bs ≡ sheet_bits x ++ zeros pads

never : {A : Type 0} → ◌≡◌ {A = ℕ} 0 1 → A
never e = absurd (omega arith)

-- what holds of every answer to a string of bits
record Why (bs : List ℕ) (no : ℕ) : Type 0 where
  pub one : list_any (eqb no) (5 ∷ 6 ∷ 7 ∷ 10 ∷ []) ≡ true
  pub six : no ≡ 6 → (4 ≤ length bs) × ((value (take 4 bs) ≡ 1 → ⊥) × (value (take 4 bs) ≡ 2 → ⊥))
  pub ten : no ≡ 10 → Begins bs

abbrev Answered : List ℕ → Result (Unit {0}) Refusal → Set → Type 0
Answered bs (Ok tt) x = Accepted bs x
Answered bs (Err why) x = (x ≡ empty_set) × Why bs (number why)

abbrev Tells : List ℕ → ReadResult → Type 0
Tells bs r = Answered bs r.answer r.set

missing : (bs : List ℕ) → Tells bs (no_set BitsMissing)
missing bs = (refl, record { one = refl; six = λ e. absurd (omega arith); ten = λ e. absurd (omega arith) })

wrong : (bs : List ℕ) → Tells bs (no_set OutOfRule)
wrong bs = (refl, record { one = refl; six = λ e. absurd (omega arith); ten = λ e. absurd (omega arith) })

zeros_of : (bs : List ℕ) → list_all is_zero bs ≡ true → bs ≡ zeros (length bs)
zeros_of [] e = refl
zeros_of (b ∷ bs) e =
    let u = and_parts (is_zero b) (list_all is_zero bs) e in
    ap (λ (x : ℕ). x ∷ bs) (eqb-true b 0 u.0) ∙ ap (λ (l : List ℕ). 0 ∷ l) (zeros_of bs u.1)

end_tells : (bs : List ℕ) (x : Set) (rest : List ℕ) → valid x ≡ true → Placed x → bs ≡ sheet_bits x ++ rest → Tells bs (read_end x.version (streams_of x) rest)
unfolding read_end
end_tells bs x rest v p e =
    cond_elim (Tells bs) (ltb (length rest) 8 && list_all is_zero rest) (record { answer = Ok tt; set = set_of x.version (streams_of x) }) (no_set Leftover)
    (λ t. let u = and_parts (ltb (length rest) 8) (list_all is_zero rest) t in
    subst (Accepted bs) (sym (whole_set x (set_holds x (valid_set x v) p)))
    (record { ok = v; placed = p; pads = length rest; few = ltb-true (length rest) 8 u.0; same = e ∙ ap (λ (l : List ℕ). sheet_bits x ++ l) (zeros_of rest u.1) }))
    (λ t. (refl, record { one = refl; six = λ q. absurd (omega arith); ten = λ q. record { set = x; ok = v; placed = p; rest = rest; same = e; bad = t } }))

-- a version other than 1 and 2
other_version : (v : ℕ) → within 1 v 2 ≡ false → (v ≡ 1 → ⊥) × (v ≡ 2 → ⊥)
other_version v e =
    (λ q. false≢true (sym e ∙ ap (λ (n : ℕ). within 1 n 2) q), λ q. false≢true (sym e ∙ ap (λ (n : ℕ). within 1 n 2) q))

no_version : (v : ℕ) → (v ≡ 1 → ⊥) → (v ≡ 2 → ⊥) → within 1 v 2 ≡ false
no_version v f g =
    by_test (within 1 v 2)
    (λ e. let u = and_parts (leb 1 v) (leb v 2) e in absurd (omega (arith, f, g, leb-true 1 v u.0, leb-true v 2 u.1))) (λ e. e)

-- the fields of a set behind its version
fields_are : (x : Set) (rest : List ℕ) → sheet_bits x ++ rest ≡ to_bits 4 x.version ++ (to_bits 5 x.count ++ (flat (stream_bits x.version) (streams_of x) ++ rest))
unfolding sheet_bits
fields_are x rest = simp append_assoc

reading_tells : (bs : List ℕ) → AreBits bs → Tells bs (read_bits bs)
unfolding read_bits
reading_tells bs b =
    let v : ℕ = value (take 4 bs) in
    field_ends (Tells bs) (missing bs) (wrong bs) 4 bs version_next
    (λ w. cond_elim (Tells bs) (within 1 v 2) _ (no_set BadVersion)
    (λ e. count_ends (Tells bs) (missing bs) (wrong bs) v (drop 4 bs) (all_drop IsBit 4 bs b) e
    (λ x rest k p q s.
    subst (λ (n : ℕ). Tells bs (read_end n (streams_of x) rest)) q
    (end_tells bs x rest k p
    (sym
    (fields_are x rest
    ∙ ap (λ (n : ℕ). to_bits 4 n ++ (to_bits 5 x.count ++ (flat (stream_bits n) (streams_of x) ++ rest))) q
    ∙ ap (λ (l : List ℕ). to_bits 4 v ++ l) s ∙ taken_split 4 bs b w)))))
    (λ e. (refl, record { one = refl; six = λ q. (w, other_version v e); ten = λ q. absurd (omega arith) })))

-- ---- a set and its sheet determine each other

-- "what is accepted is valid"
pub accepted : (s : List ℕ) (x : Set) → read_of s ≡ record { answer = Ok tt; set = x } → Accepted (bits s) x
unfolding read_of
accepted s x e = subst (Tells (bits s)) e (reading_tells (bits s) (bits_bits s))

-- "writing what was read gives the same bytes for every accepted string"
pub write_back : (s : List ℕ) (x : Set) → AreBytes s → read_of s ≡ record { answer = Ok tt; set = x } → sheet_of x ≡ s
unfolding sheet_of
write_back s x h e =
    let a : Accepted (bits s) x = accepted s x e in
    pack_unique (sheet_bits x) s a.pads (sheet_bits_lem x) h a.few a.same

pub record SheetOf (s : List ℕ) (x : Set) : Type 0 where
  pub ok : valid x ≡ true
  pub placed : Placed x
  pub sheet : sheet_of x ≡ s

-- a string of bytes reads as a set exactly when it is the sheet of that set and the set is valid
pub read_exactly : (s : List ℕ) (x : Set) → AreBytes s → read_of s ≡ record { answer = Ok tt; set = x } → SheetOf s x
read_exactly s x h e = record { ok = (accepted s x e).ok; placed = (accepted s x e).placed; sheet = write_back s x h e }

pub sheet_exactly : (s : List ℕ) (x : Set) → SheetOf s x → read_of s ≡ record { answer = Ok tt; set = x }
sheet_exactly s x k = ap read_of (sym k.sheet) ∙ read_back x k.ok k.placed

pub sheet_tells : SheetTells
unfolding SheetTells
sheet_tells x y v w p q e =
    ap (λ (r : ReadResult). r.set) (sym (read_back x v p) ∙ ap read_of e ∙ read_back y w q)

-- ---- how long a sheet is

place_length : (p : TuplePlace) → length (place_bits p) ≡ 37
place_length p = by_tuple_lem p.tuple
  where
    by_tuple_lem : (t : Tuple) → length (tuple_bits t) ≡ 37
    by_tuple_lem (Once a) = omega (arith, length-append (to_bits 20 0) (to_bits 17 a), to_bits_length 20 0, to_bits_length 17 a)
    by_tuple_lem (Every z a) = omega (arith, length-append (to_bits 20 z) (to_bits 17 a), to_bits_length 20 z, to_bits_length 17 a)

-- lists of one length each, one behind the other
pub flat_length : {A : Type 0} (f : A → List ℕ) (n : ℕ) (l : List A) → All (λ a. length (f a) ≡ n) l → length (flat f l) ≡ n * length l
unfolding flat
flat_length f n [] h = omega arith
flat_length f n (a ∷ l) h = omega (arith, length-append (f a) (flat f l), h.0, flat_length f n l h.1)

-- and of at most one length
flat_most : {A : Type 0} (f : A → List ℕ) (n : ℕ) (l : List A) → All (λ a. length (f a) ≤ n) l → length (flat f l) ≤ n * length l
unfolding flat
flat_most f n [] h = omega arith
flat_most f n (a ∷ l) h = omega (arith, length-append (f a) (flat f l), h.0, flat_most f n l h.1)

pub tuples_length : (ts : List TuplePlace) → length (flat place_bits ts) ≡ 37 * length ts
tuples_length ts = flat_length place_bits 37 ts (all_each (λ p. length (place_bits p) ≡ 37) ts place_length)

stage_length : (g : Stage) → length (stage_bits g) ≡ 20
stage_length g = omega (arith, length-append (to_bits 4 g.task) (to_bits 16 g.cost), to_bits_length 4 g.task, to_bits_length 16 g.cost)

pub stages_length : (gs : List Stage) → length (flat stage_bits gs) ≡ 20 * length gs
stages_length gs = flat_length stage_bits 20 gs (all_each (λ g. length (stage_bits g) ≡ 20) gs stage_length)

-- the bits of a head beside its stages: the deadline, and in version 2 stages less one
abbrev pub besides : Bool → ℕ
besides first = cond first 18 20

head_by_length : (first : Bool) (gs : List Stage) (depth d : ℕ) → length (head_by first gs depth d) ≡ besides first + 20 * length gs
head_by_length true gs depth d = omega (arith, length-append (flat stage_bits gs) (to_bits 18 d), stages_length gs, to_bits_length 18 d)
head_by_length false gs depth d =
    omega (
      arith,
      length-append (to_bits 18 d) (to_bits 2 (depth - 1) ++ flat stage_bits gs),
      length-append (to_bits 2 (depth - 1)) (flat stage_bits gs),
      stages_length gs,
      to_bits_length 18 d,
      to_bits_length 2 (depth - 1),
    )

pub head_length : (version : ℕ) (s : Stream) → length (head_bits version s) ≡ besides (eqb version 1) + 20 * length (stages_of s)
unfolding head_bits
head_length version s = head_by_length (eqb version 1) (stages_of s) s.depth s.deadline

pub stream_parts : (version : ℕ) (s : Stream) → length (stream_bits version s) ≡ length (head_bits version s) + 2 + length (flat place_bits (tuples_of s))
unfolding stream_bits
stream_parts version s =
    omega (
      arith,
      length-append (head_bits version s) (to_bits 2 (s.count - 1) ++ flat place_bits (tuples_of s)),
      length-append (to_bits 2 (s.count - 1)) (flat place_bits (tuples_of s)),
      to_bits_length 2 (s.count - 1),
    )

pub stream_length : (version : ℕ) (s : Stream) → length (stream_bits version s) ≡ besides (eqb version 1) + 20 * length (stages_of s) + 2 + 37 * length (tuples_of s)
stream_length version s = omega (arith, stream_parts version s, head_length version s, tuples_length (tuples_of s))

pub sheet_length : (x : Set) → length (sheet_bits x) ≡ 9 + length (flat (stream_bits x.version) (streams_of x))
unfolding sheet_bits
sheet_length x =
    omega (
      arith,
      length-append (to_bits 4 x.version) (to_bits 5 x.count ++ flat (stream_bits x.version) (streams_of x)),
      length-append (to_bits 5 x.count) (flat (stream_bits x.version) (streams_of x)),
      to_bits_length 4 x.version,
      to_bits_length 5 x.count,
    )

-- a full sheet: for each stream so many bits
full_bytes : (x : Set) (n : ℕ) → length (streams_of x) ≡ 16 → All (λ s. length (stream_bits x.version s) ≡ n) (streams_of x) → length (sheet_of x) ≡ bytes_for (9 + n * 16)
unfolding sheet_of
full_bytes x n k h =
    pack_length (sheet_bits x)
    ∙ ap bytes_for (sheet_length x ∙ ap (λ (m : ℕ). 9 + m) (flat_length (stream_bits x.version) n (streams_of x) h ∙ ap (λ (m : ℕ). n * m) k))

full_streams : (version d n : ℕ) (ss : List Stream) → besides (eqb version 1) + 20 * d + 150 ≡ n → All (FullStream d) ss → All (λ s. length (stream_bits version s) ≡ n) ss
full_streams version d n ss e h =
    all_map (FullStream d) (λ s. length (stream_bits version s) ≡ n) ss (λ s f. omega (arith, stream_length version s, f.0, f.1)) h

-- "A full sheet is 378 bytes."
pub full_first : FullSheet 1 1 longest_first
unfolding FullSheet
full_first x v f = full_bytes x 188 f.streams (subst (λ (n : ℕ). All (λ s. length (stream_bits n s) ≡ 188) (streams_of x)) (sym v) (full_streams 1 1 188 (streams_of x) refl f.each))

pub full_sheet : FullSheet 2 4 longest_sheet
unfolding FullSheet
full_sheet x v f = full_bytes x 250 f.streams (subst (λ (n : ℕ). All (λ s. length (stream_bits n s) ≡ 250) (streams_of x)) (sym v) (full_streams 2 4 250 (streams_of x) refl f.each))

most_bytes_lem : (x : Set) (n : ℕ) → ValidSet x → All (λ s. length (stream_bits x.version s) ≤ n) (streams_of x) → length (sheet_of x) ≤ 2 + 2 * n
unfolding sheet_of
most_bytes_lem x n v h =
    omega (arith, pack_length (sheet_bits x), sheet_length x, flat_most (stream_bits x.version) n (streams_of x) h, mul-le-mul_left n (streams_few x v))

pub besides_most : (first : Bool) → besides first ≤ 20
besides_most true = omega arith
besides_most false = omega arith

pub stream_most : (version : ℕ) (s : Stream) → s.depth ≤ 4 → s.count ≤ 4 → length (stream_bits version s) ≤ 250
stream_most version s h k =
    omega (arith, stream_length version s, besides_most (eqb version 1), length-take s.depth s.stages, length-take s.count s.tuples)

pub sheet_at_most : SheetAtMost
unfolding SheetAtMost
sheet_at_most x ok =
    let v : ValidSet x = valid_set x ok in
    most_bytes_lem x 250 v (all_map ValidStream (λ s. length (stream_bits x.version s) ≤ 250) (streams_of x) (λ s k. stream_most x.version s k.depth.high k.count.high) v.streams)

first_most : (version : ℕ) (s : Stream) → version ≡ 1 → s.depth ≡ 1 → s.count ≤ 4 → length (stream_bits version s) ≤ 188
first_most version s e h k =
    omega (
      arith,
      stream_length version s,
      ap (λ (n : ℕ). besides (eqb n 1)) e,
      length-take s.depth s.stages,
      length-take s.count s.tuples,
    )

pub first_at_most : FirstAtMost
unfolding FirstAtMost
first_at_most x ok e =
    let v : ValidSet x = valid_set x ok in
    most_bytes_lem x 188 v
    (all_zip ValidStream (Staged x.version) (λ s. length (stream_bits x.version s) ≤ 188) (streams_of x)
    (λ s k one. first_most x.version s e (one e) k.count.high) v.streams (set_staged x v))

-- ---- "Given exactly when"

tells : (s : List ℕ) → Answered (bits s) (read_of s).answer (read_of s).set
unfolding read_of
tells s = reading_tells (bits s) (bits_bits s)

-- what a refusal's number stands for
refused_why : (bs : List ℕ) (a : Result (Unit {0}) Refusal) (x : Set) (no : ℕ) → Answered bs a x → read_says a ≡ refused no → (x ≡ empty_set) × Why bs no
refused_why bs (Ok tt) x n t e = never (cc)
refused_why bs (Err why) x n t e = (t.0, subst (Why bs) (let q : number why ≡ n = cc in q) t.1)

heard : (s : List ℕ) (no : ℕ) → reading_says s ≡ refused no → ((read_of s).set ≡ empty_set) × Why (bits s) no
heard s n e = refused_why (bits s) (read_of s).answer (read_of s).set n (tells s) e

pub read_refusals : ReadRefusals
unfolding ReadRefusals
read_refusals s n e = record { one = (heard s n e).1.one; empty = (heard s n e).0 }

six_given : (s : List ℕ) → 4 ≤ length (bits s) → within 1 (value (take 4 (bits s))) 2 ≡ false → read_of s ≡ no_set BadVersion
unfolding read_of read_bits
six_given s h n = simp (le-leb 4 (length (bits s)) h, n)

pub six_exactly : SixExactly
unfolding SixExactly
six_exactly s = (λ e. (heard s 6 e).1.six refl, λ h. ap (λ (r : ReadResult). read_says r.answer) (six_given s h.0 (no_version (value (take 4 (bits s))) h.1.0 h.1.1)))

ten_given : (s : List ℕ) → Begins (bits s) → read_of s ≡ no_set Leftover
unfolding read_of read_end
ten_given s b = ap read_bits b.same ∙ fields_read b.set b.rest (valid_set b.set b.ok) b.placed ∙ simp b.bad

pub ten_exactly : TenExactly
unfolding TenExactly
ten_exactly s = (λ e. (heard s 10 e).1.ten refl, λ b. ap (λ (r : ReadResult). read_says r.answer) (ten_given s b))

-- writing: 7 for an invalid set, 11 for a valid one whose sheet is longer than the buffer, else the sheet is written
module _ (x : Set) (room : ℕ) where
  seven_given : valid x ≡ false → write_of x room ≡ Err OutOfRule
  unfolding write_of
  seven_given e = simp e

  eleven_given : valid x ≡ true → room < length (sheet_of x) → write_of x room ≡ Err ShortBuffer
  unfolding write_of
  eleven_given e h = simp (e, lt-leb (length (sheet_of x)) room h)

  wrote_given : valid x ≡ true → length (sheet_of x) ≤ room → write_of x room ≡ Ok (length (sheet_of x))
  unfolding write_of
  wrote_given e h = simp (e, le-leb (length (sheet_of x)) room h)

  -- what holds of each of the three holds
  by_writing : {A : Type 0} → (valid x ≡ false → write_of x room ≡ Err OutOfRule → A)
      → (valid x ≡ true → room < length (sheet_of x) → write_of x room ≡ Err ShortBuffer → A)
      → (valid x ≡ true → length (sheet_of x) ≤ room → write_of x room ≡ Ok (length (sheet_of x)) → A) → A
  by_writing f g h =
      by_test (valid x)
      (λ v. by_test (leb (length (sheet_of x)) room) (λ e. let k : length (sheet_of x) ≤ room = leb-true (length (sheet_of x)) room e in h v k (wrote_given v k))
      (λ e. let k : room < length (sheet_of x) = leb-false (length (sheet_of x)) room e in g v k (eleven_given v k)))
      (λ v. f v (seven_given v))

pub write_7_exactly : WriteSevenExactly
unfolding WriteSevenExactly
write_7_exactly x room = (
  λ e. by_writing x room (λ v w. v) (λ v k w. let q : refused 11 ≡ refused 7 = sym (ap write_says w) ∙ e in never (cc)) (λ v k w. let q : wrote (length (sheet_of x)) ≡ refused 7 = sym (ap write_says w) ∙ e in never (cc)),
  λ v. ap write_says (seven_given x room v),
)

pub write_11_exactly : WriteElevenExactly
unfolding WriteElevenExactly
write_11_exactly x room = (
  λ e. by_writing x room (λ v w. let q : refused 7 ≡ refused 11 = sym (ap write_says w) ∙ e in never (cc)) (λ v k w. (v, k)) (λ v k w. let q : wrote (length (sheet_of x)) ≡ refused 11 = sym (ap write_says w) ∙ e in never (cc)),
  λ h. ap write_says (eleven_given x room h.0 h.1),
)

pub wrote_exactly : WroteExactly
unfolding WroteExactly
wrote_exactly x room = (
  λ e. by_writing x room (λ v w. let q : refused 7 ≡ wrote (length (sheet_of x)) = sym (ap write_says w) ∙ e in never (cc)) (λ v k w. let q : refused 11 ≡ wrote (length (sheet_of x)) = sym (ap write_says w) ∙ e in never (cc)) (λ v k w. (v, k)),
  λ h. ap write_says (wrote_given x room h.0 h.1),
)

-- ---- what is read has its places

empty_placed : Placed empty_set
empty_placed = record { sixteen = refl; four = all_replicate FourPlaces 16 no_stream (record { stages = refl; tuples = refl }) }

answered_placed : (bs : List ℕ) (a : Result (Unit {0}) Refusal) (x : Set) → Answered bs a x → Placed x
answered_placed bs (Ok tt) x t = t.placed
answered_placed bs (Err why) x t = subst Placed (sym t.0) empty_placed

pub read_placed : ReadPlaced
unfolding ReadPlaced
read_placed s = answered_placed (bits s) (read_of s).answer (read_of s).set (tells s)
