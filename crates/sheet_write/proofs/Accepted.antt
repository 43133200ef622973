-- What reading says of the bits that it was given: what is accepted is valid and is the set's sheet, and what each refusal that is
-- given after the last field, or at the version, stands for.
-- Assumes nothing.
use Prim.Native.Nat.{ℕ, zero, suc, ◌-◌, ◌≤◌, ◌<◌}
use mathlib.Core.List.{List, [], ◌∷◌, ◌++◌, append_assoc, append-nil}
use mathlib.Core.Path.{◌≡◌, refl, sym, ap, ap₂, ◌∙◌, subst}
use mathlib.Core.Bool.{Bool, true, false, false≢true}
use native.Mathlib.Omega.{arith}
use lib.ListN.{length, take, drop, replicate}
use lib.Seq.{append_snoc, take-append_seam}
use lib.Dec.{eqb, leb}
use borrow.Author.Tests.{eq-eqb, eqb-true, leb-true}
use Rattle.laws.specs.Lists.{All, flat, within}
use Rattle.laws.specs.Bits.{to_bits, value}
use Rattle.laws.proofs.Fields.{AreBits, IsBit, all_drop, taken_lt, taken_split}
use Rattle.rules.specs.declared.Tuple.{Tuple}
use Rattle.rules.specs.declared.Tuple.TheVariants.{Once, Every}
use Rattle.rules.specs.declared.TuplePlace.{TuplePlace}
use Rattle.rules.specs.declared.Stage.{Stage}
use Rattle.rules.specs.declared.Stream.{Stream}
use Rattle.rules.specs.declared.Set.{Set}
use Rattle.rules.specs.declared.Refusal.TheVariants.{BitsMissing, OutOfRule}
use Rattle.rules.specs.declared.ReadResult.{ReadResult}
use Rattle.rules.specs.Streams.{Placed, no_stage, no_tuple, streams_of, valid}
use Rattle.rules.specs.Sheet.{field, head_bits, in_rule, no_set, place_bits, read_deadline, read_end, read_head, read_stages, read_stream, read_streams, read_tuples, set_of, stage_bits, stream_bits, stream_of, tuple_bits, tuple_of}
use Rattle.rules.specs.Valid.{ValidStage}
use Rattle.sheet_carried.proofs.Filled.{cond_elim}
use Rattle.sheet_carried.proofs.Streams.{Chain, GoodStream, cycle_of_lem, offset_of, set_ok, set_placed, stream_four, stream_ok_lem, streams_of_lem, within_high, within_low}
use Rattle.sheet_write.proofs.Back.{cost_next, count_next, cycle_next, deadline_next, head_by, head_next, offset_next, read_head_by, task_next, tuples_next}

-- ---- the bits of what was read

bits_of : (z a : ℕ) → place_bits (tuple_of z a) ≡ to_bits 20 z ++ to_bits 17 a
bits_of z a =
    cond_elim (λ (t : Tuple). tuple_bits t ≡ to_bits 20 z ++ to_bits 17 a) (eqb z 0) (Once a) (Every z a)
    (λ e. ap (λ (n : ℕ). to_bits 20 n ++ to_bits 17 a) (sym (eqb-true z 0 e))) (λ e. refl)

module _ (gs : List Stage) (deadline : ℕ) (ps : List TuplePlace) (shallow : length gs ≤ 4) (few : length ps ≤ 4) where
  stream_is : (version n : ℕ) → length ps ≡ suc n → stream_bits version (stream_of gs deadline ps) ≡ head_by (eqb version 1) gs (length gs) deadline ++ (to_bits 2 n ++ flat place_bits ps)
  unfolding stream_bits head_bits
  stream_is version n e =
      ap (λ (hs : List Stage). head_by (eqb version 1) hs (length gs) deadline ++ (to_bits 2 (length ps - 1) ++ flat place_bits (take (length ps) (ps ++ replicate (4 - length ps) no_tuple)))) (take-append_seam gs (replicate (4 - length gs) no_stage))
      ∙ ap₂ (λ (k : ℕ) (l : List TuplePlace). head_by (eqb version 1) gs (length gs) deadline ++ (to_bits 2 k ++ flat place_bits l)) (let q : length ps - 1 ≡ n = omega arith in q)
      (take-append_seam ps (replicate (4 - length ps) no_tuple))

-- what was read before the number of a stream's tuples
record HeadRead (first : Bool) (gs : List Stage) (d : ℕ) : Type 0 where
  pub deep : 0 < length gs
  pub shallow : length gs ≤ 4
  pub one : first ≡ true → length gs ≡ 1
  pub stages : All ValidStage gs
  pub deadline : within 1 d 200000 ≡ true

-- ---- a property of every way that reading can end

module _ (P : ReadResult → Type 0) (missing : P (no_set BitsMissing)) (wrong : P (no_set OutOfRule)) where
  pub field_ends : (w : ℕ) (bs : List ℕ) (next : ℕ → List ℕ → ReadResult) → (w ≤ length bs → P (next (value (take w bs)) (drop w bs))) → P (field w bs next)
  field_ends w bs next h = cond_elim P (leb w (length bs)) (next (value (take w bs)) (drop w bs)) (no_set BitsMissing) (λ e. h (leb-true w (length bs) e)) (λ e. missing)

  rule_ends : (ok : Bool) (r : ReadResult) → (ok ≡ true → P r) → P (in_rule ok r)
  rule_ends ok r h = cond_elim P ok r (no_set OutOfRule) h (λ e. wrong)

  tuples_end : (n low high : ℕ) (ts : List TuplePlace) (bs : List ℕ) (next : List TuplePlace → List ℕ → ReadResult) → AreBits bs → high ≤ 100000
      → ((ps : List TuplePlace) (rest : List ℕ) → length ps ≡ n → Chain low high ps → flat place_bits ps ++ rest ≡ bs → AreBits rest → P (next (ts ++ ps) rest))
      → P (read_tuples n low high ts bs next)
  unfolding read_tuples flat
  tuples_end zero low high ts bs next b u h = subst (λ (l : List TuplePlace). P (next l bs)) (append-nil ts) (h [] bs refl tt refl b)
  tuples_end (suc n) low high ts bs next b u h =
      let z : ℕ = value (take 20 bs) in
      let bs₁ : List ℕ = drop 20 bs in
      let a : ℕ = value (take 17 bs₁) in
      let bs₂ : List ℕ = drop 17 bs₁ in
      let b₁ : AreBits bs₁ = all_drop IsBit 20 bs b in
      let p : TuplePlace = tuple_of z a in
      field_ends 20 bs (cycle_next low high n ts next)
      (λ w₁. rule_ends (leb z 1000000) _
      (λ e₁. field_ends 17 bs₁ (offset_next low high n ts next z)
      (λ w₂. rule_ends (within low a high) _
      (λ e₂. tuples_end n a 100000 (ts ++ (p ∷ [])) bs₂ next (all_drop IsBit 17 bs₁ b₁) (omega arith)
      (λ ps rest e c s r.
      subst (λ (l : List TuplePlace). P (next l rest)) (sym (append_snoc ts p ps))
      (h (p ∷ ps) rest (ap suc e) (
        subst (λ (x : ℕ). within low x high ≡ true) (sym (offset_of z a)) e₂,
        (
          record { offset = omega (arith, offset_of z a, within_high low a high e₂); cycle = cycle_of_lem z a (leb-true z 1000000 e₁) },
          subst (λ (x : ℕ). Chain x 100000 ps) (sym (offset_of z a)) c,
        ),
      )
      (append_assoc (place_bits p) (flat place_bits ps) rest
      ∙ ap₂ (λ (x y : List ℕ). x ++ y) (bits_of z a) s
      ∙ append_assoc (to_bits 20 z) (to_bits 17 a) bs₂
      ∙ ap (λ (y : List ℕ). to_bits 20 z ++ y) (taken_split 17 bs₁ b₁ w₂) ∙ taken_split 20 bs b w₁)
      r))))))

  stages_end_lem : (n : ℕ) (gs : List Stage) (bs : List ℕ) (next : List Stage → List ℕ → ReadResult) → AreBits bs
      → ((hs : List Stage) (rest : List ℕ) → length hs ≡ n → All ValidStage hs → flat stage_bits hs ++ rest ≡ bs → AreBits rest → P (next (gs ++ hs) rest))
      → P (read_stages n gs bs next)
  unfolding read_stages flat
  stages_end_lem zero gs bs next b h = subst (λ (l : List Stage). P (next l bs)) (append-nil gs) (h [] bs refl tt refl b)
  stages_end_lem (suc n) gs bs next b h =
      let t : ℕ = value (take 4 bs) in
      let bs₁ : List ℕ = drop 4 bs in
      let b₁ : AreBits bs₁ = all_drop IsBit 4 bs b in
      let c : ℕ = value (take 16 bs₁) in
      let bs₂ : List ℕ = drop 16 bs₁ in
      let g : Stage = record { task = t; cost = c } in
      field_ends 4 bs (task_next n gs next)
      (λ w₁. field_ends 16 bs₁ (cost_next n gs next t)
      (λ w₂. rule_ends (within 1 c 65535) _
      (λ e. stages_end_lem n (gs ++ (g ∷ [])) bs₂ next (all_drop IsBit 16 bs₁ b₁)
      (λ hs rest k v s r.
      subst (λ (l : List Stage). P (next l rest)) (sym (append_snoc gs g hs))
      (h (g ∷ hs) rest (ap suc k) (record { task = omega (arith, taken_lt 4 bs b w₁); cost = record { low = within_low 1 c 65535 e; high = within_high 1 c 65535 e } }, v)
      (append_assoc (stage_bits g) (flat stage_bits hs) rest
      ∙ ap (λ (y : List ℕ). stage_bits g ++ y) s
      ∙ append_assoc (to_bits 4 t) (to_bits 16 c) bs₂
      ∙ ap (λ (y : List ℕ). to_bits 4 t ++ y) (taken_split 16 bs₁ b₁ w₂) ∙ taken_split 4 bs b w₁)
      r)))))

  deadline_ends : (bs : List ℕ) (next : ℕ → List ℕ → ReadResult) → AreBits bs
      → ((d : ℕ) (rest : List ℕ) → within 1 d 200000 ≡ true → to_bits 18 d ++ rest ≡ bs → AreBits rest → P (next d rest)) → P (read_deadline bs next)
  unfolding read_deadline
  deadline_ends bs next b h =
      let d : ℕ = value (take 18 bs) in
      field_ends 18 bs (deadline_next next)
      (λ w. rule_ends (within 1 d 200000) _ (λ e. h d (drop 18 bs) e (taken_split 18 bs b w) (all_drop IsBit 18 bs b)))

  -- the head of version 1, and the other
  head_by_ends : (first : Bool) (bs : List ℕ) (next : List Stage → ℕ → List ℕ → ReadResult) → AreBits bs
      → ((gs : List Stage) (d : ℕ) (rest : List ℕ) → HeadRead first gs d → head_by first gs (length gs) d ++ rest ≡ bs → AreBits rest → P (next gs d rest)) → P (read_head_by first bs next)
  head_by_ends true bs next b h =
      stages_end_lem 1 [] bs (λ gs bs₁. read_deadline bs₁ (λ d bs₂. next gs d bs₂)) b
      (λ gs rest k v s r. deadline_ends rest (λ d bs₂. next gs d bs₂) r
      (λ d more e q m. h gs d more (record { deep = omega (arith, k); shallow = omega (arith, k); one = λ _. k; stages = v; deadline = e })
      (append_assoc (flat stage_bits gs) (to_bits 18 d) more ∙ ap (λ (y : List ℕ). flat stage_bits gs ++ y) q ∙ s) m))
  head_by_ends false bs next b h =
      deadline_ends bs (λ d bs₁. field 2 bs₁ (λ n bs₂. read_stages (suc n) [] bs₂ (λ gs bs₃. next gs d bs₃))) b
      (λ d bs₁ e q b₁.
      let n : ℕ = value (take 2 bs₁) in
      field_ends 2 bs₁ (λ n bs₂. read_stages (suc n) [] bs₂ (λ gs bs₃. next gs d bs₃))
      (λ w. stages_end_lem (suc n) [] (drop 2 bs₁) (λ gs bs₃. next gs d bs₃) (all_drop IsBit 2 bs₁ b₁)
      (λ gs rest k v s r. h gs d rest
      (record { deep = omega (arith, k); shallow = omega (arith, k, taken_lt 2 bs₁ b₁ w); one = λ x. absurd (false≢true x); stages = v; deadline = e })
      ((let u : (to_bits 18 d ++ (to_bits 2 (length gs - 1) ++ flat stage_bits gs)) ++ rest ≡ to_bits 18 d ++ (to_bits 2 (length gs - 1) ++ (flat stage_bits gs ++ rest)) = simp append_assoc in u)
      ∙ ap₂ (λ (j : ℕ) (y : List ℕ). to_bits 18 d ++ (to_bits 2 j ++ y)) (let u : length gs - 1 ≡ n = omega (arith, k) in u) s
      ∙ ap (λ (y : List ℕ). to_bits 18 d ++ y) (taken_split 2 bs₁ b₁ w) ∙ q)
      r)))

  head_ends : (version : ℕ) (bs : List ℕ) (next : List Stage → ℕ → List ℕ → ReadResult) → AreBits bs
      → ((gs : List Stage) (d : ℕ) (rest : List ℕ) → HeadRead (eqb version 1) gs d → head_by (eqb version 1) gs (length gs) d ++ rest ≡ bs → AreBits rest → P (next gs d rest))
      → P (read_head version bs next)
  unfolding read_head
  head_ends version bs next b h = head_by_ends (eqb version 1) bs next b h

  module _ (version : ℕ) where
    stream_ends : (bs : List ℕ) (next : Stream → List ℕ → ReadResult) → AreBits bs
        → ((s : Stream) (rest : List ℕ) → GoodStream version s → stream_bits version s ++ rest ≡ bs → AreBits rest → P (next s rest)) → P (read_stream version bs next)
    unfolding read_stream
    stream_ends bs next b h =
        head_ends version bs (head_next next) b
        (λ gs d bs₁ k q b₁.
        let n : ℕ = value (take 2 bs₁) in
        let bs₂ : List ℕ = drop 2 bs₁ in
        field_ends 2 bs₁ (tuples_next next gs d)
        (λ w. tuples_end (suc n) 0 0 [] bs₂ (λ ts rest. next (stream_of gs d ts) rest) (all_drop IsBit 2 bs₁ b₁) (omega arith)
        (λ ps rest e c s r.
        let few : length ps ≤ 4 = omega (arith, taken_lt 2 bs₁ b₁ w) in
        let front : List ℕ = head_by (eqb version 1) gs (length gs) d in
        h (stream_of gs d ps) rest
        (record {
          ok = stream_ok_lem gs d ps k.shallow few k.deep k.stages k.deadline (omega arith) c;
          four = stream_four gs d ps k.shallow few;
          staged = λ x. k.one (eq-eqb version 1 x);
        })
        (ap (λ (x : List ℕ). x ++ rest) (stream_is gs d ps k.shallow few version n e)
        ∙ (let u : (front ++ (to_bits 2 n ++ flat place_bits ps)) ++ rest ≡ front ++ (to_bits 2 n ++ (flat place_bits ps ++ rest)) = simp append_assoc in u)
        ∙ ap (λ (x : List ℕ). front ++ (to_bits 2 n ++ x)) s
        ∙ ap (λ (x : List ℕ). front ++ x) (taken_split 2 bs₁ b₁ w) ∙ q)
        r)))

    streams_end : (n : ℕ) (ss : List Stream) (bs : List ℕ) → AreBits bs
        → ((qs : List Stream) (rest : List ℕ) → length qs ≡ n → All (GoodStream version) qs → flat (stream_bits version) qs ++ rest ≡ bs → AreBits rest → P (read_end version (ss ++ qs) rest))
        → P (read_streams version n ss bs)
    unfolding read_streams flat
    streams_end zero ss bs b h = subst (λ (l : List Stream). P (read_end version l bs)) (append-nil ss) (h [] bs refl tt refl b)
    streams_end (suc n) ss bs b h =
        stream_ends bs (λ s rest. read_streams version n (ss ++ (s ∷ [])) rest) b
        (λ s rest g e r. streams_end n (ss ++ (s ∷ [])) rest r
        (λ qs more k a q m.
        subst (λ (l : List Stream). P (read_end version l more)) (sym (append_snoc ss s qs))
        (h (s ∷ qs) more (ap suc k) (g, a)
        (append_assoc (stream_bits version s) (flat (stream_bits version) qs) more ∙ ap (λ (x : List ℕ). stream_bits version s ++ x) q ∙ e) m)))

    -- a set's fields were there, and bits behind them; or the count of the streams, or what comes behind it, was refused
    pub count_ends : (bs : List ℕ) → AreBits bs → within 1 version 2 ≡ true
        → ((x : Set) (rest : List ℕ) → valid x ≡ true → Placed x → x.version ≡ version → to_bits 5 x.count ++ (flat (stream_bits version) (streams_of x) ++ rest) ≡ bs → P (read_end version (streams_of x) rest))
        → P (field 5 bs (count_next version))
    count_ends bs b v h =
        let n : ℕ = value (take 5 bs) in
        field_ends 5 bs (count_next version)
        (λ w. rule_ends (leb n 16) _
        (λ e. streams_end n [] (drop 5 bs) (all_drop IsBit 5 bs b)
        (λ qs rest k g s r.
        let few : length qs ≤ 16 = omega (arith, leb-true n 16 e) in
        subst (λ (l : List Stream). P (read_end version l rest)) (streams_of_lem version qs)
        (h (set_of version qs) rest (set_ok version qs v few g) (set_placed version qs few g) refl
        (ap₂ (λ (j : ℕ) (l : List Stream). to_bits 5 j ++ (flat (stream_bits version) l ++ rest)) k (streams_of_lem version qs)
        ∙ ap (λ (x : List ℕ). to_bits 5 n ++ x) s ∙ taken_split 5 bs b w)))))
